-- What the editions of a run take in, from one state to the next.
use Rattle.std.proofs.Common.{◌≡◌, List, [], ◌∷◌, ◌++◌, length, sym, ap, ◌∙◌, subst, arith, append_assoc}
use Rattle.std.specs.Prelude.{Option, None, Some, All}
use Rattle.std.proofs.lemmas.List.Elements.{All-nil, All-cons, All-append}
use Rattle.std.proofs.lemmas.Option.{none-some}
use Rattle.editions.specs.Edition.{Edition}
use Rattle.editions.specs.Step.{AreMore}
use Rattle.krill_top.specs.DeskStates.{DeskStates}
use Rattle.krill_top.specs.Histories.{and_doubt}
use Rattle.krill_top.specs.InstanceState.{Found, InstanceState, lists_of}
use Rattle.krill_top.specs.Publishing.{TakesAll}
use Rattle.krill_top.specs.SoundEditions.{TakesNoMore}
use Rattle.krill_top.specs.inner.Instances.{KeepsCuts}
use Rattle.krill_top.proofs.Lists.{list_at, more_long}

-- one edition more, over all commands
made_more : (desk_states : DeskStates) (made : List Edition) (doubt : Option Edition) (edition : Edition) → doubt ≡ None → TakesAll desk_states edition.cut
    → All (TakesNoMore desk_states) (and_doubt made doubt) → All (TakesNoMore desk_states) (made ++ edition ∷ [])
made_more desk_states made None edition none takes were =
    All-append (TakesNoMore desk_states) made (edition ∷ []) were
    (All-cons (TakesNoMore desk_states) edition [] (λ desk. let same = takes desk in omega (arith, same)) (All-nil (TakesNoMore desk_states)))
made_more desk_states made (Some other) edition none takes were = absurd (none-some other (sym none))

pub cuts_published : (before : InstanceState) (edition : Edition) → before.in_doubt ≡ None → TakesAll before.desk_states edition.cut → KeepsCuts before
    → KeepsCuts (record before { editions = before.editions ++ edition ∷ [] })
cuts_published before edition none takes cuts = record {
  made = cuts.made ++ edition ∷ [];
  grows = ap (λ (l : List Edition). l ++ edition ∷ []) cuts.grows ∙ append_assoc before.found.editions cuts.made (edition ∷ []);
  within = subst (λ (d : Option Edition). All (TakesNoMore before.desk_states) (and_doubt (cuts.made ++ edition ∷ []) d)) (sym none)
      (made_more before.desk_states cuts.made before.in_doubt edition none takes cuts.within);
}

pub cuts_doubted : (before : InstanceState) (edition : Edition) → before.in_doubt ≡ None → TakesAll before.desk_states edition.cut → KeepsCuts before
    → KeepsCuts (record before { in_doubt = Some edition })
cuts_doubted before edition none takes cuts = record {
  made = cuts.made;
  grows = cuts.grows;
  within = made_more before.desk_states cuts.made before.in_doubt edition none takes cuts.within;
}

-- more commands at the desks
pub cuts_commanded : (before : InstanceState) (after : DeskStates) → AreMore (lists_of before.desk_states) (lists_of after) → KeepsCuts before
    → KeepsCuts (record before { desk_states = after })
cuts_commanded before after grow cuts = record {
  made = cuts.made;
  grows = cuts.grows;
  within = λ k d inside desk.
      let taken = cuts.within k d inside desk in
      let more = more_long (lists_of before.desk_states) (lists_of after) grow desk in
      omega (arith, taken, more, ap length (list_at before.desk_states desk), ap length (list_at after desk));
}

-- the editions of a run are those that it made behind what was found
pub made_behind : (begun ended : InstanceState) → ended.found ≡ begun.found → begun.found.editions ≡ begun.editions → (cuts : KeepsCuts ended) → ended.editions ≡ begun.editions ++ cuts.made
made_behind begun ended same just cuts = cuts.grows ∙ ap (λ (l : List Edition). l ++ cuts.made) (ap (λ (f : Found). f.editions) same ∙ just)
