-- The commands of the desks behind a cut, gathered.
use Rattle.std.proofs.Common.{◌≡◌, ◌≢◌, ℕ, zero, suc, ◌+◌, ◌≤◌, ◌<◌, true, false, List, [], ◌∷◌, ◌++◌, length, take, drop, get_or, refl, sym, ◌∙◌, ap, subst, arith, inl, inr, append-nil}
use Rattle.std.specs.Prelude.{◌==◌, Some, slice_get}
use Rattle.std.proofs.lemmas.Bool.{cases_lt}
use Rattle.std.proofs.lemmas.Bool.Decides.{nat_tests}
use Rattle.std.proofs.lemmas.Option.{none-some, same_Some}
use Rattle.std.proofs.lemmas.List.{length-drop, drop_all}
use Rattle.authority_book.specs.declared.commands.Command.{Command}
use Rattle.authority_book.specs.Settings.{Settings}
use Rattle.authority_book.specs.Fold.{fold_of, empty_settings, AcceptedInTurn}
use Rattle.desk_core.specs.View.{View}
use Rattle.desk_core.specs.Commands.{HasCommands}
use Rattle.editions.specs.Edition.{cut_at}
use Rattle.editions.specs.Step.{configs_at}
use Rattle.editions.specs.declared.gathered.Gathered.{Gathered}
use Rattle.editions.specs.Gathering as gathering
use Rattle.editions.specs.Gathering.{cut_from, cut_with, AreGathered, AreAccepted, AreNextCommands}
use Rattle.krill_top.specs.DeskStates.{DeskStates, commands_of}
use Rattle.krill_top.specs.InstanceState.{lists_of}
use Rattle.krill_top.specs.DesksInStates.{AreIn}
use Rattle.krill_top.specs.inner.Gathered.{IsSince, AreSince}
use Rattle.krill_top.specs.Publishing.{TakesAll}
use Rattle.krill_top.proofs.Standing.{At, at_place}
use Rattle.krill_top.proofs.Lists.{as_many, list_at, lists_long, config_at, accepted_behind}

-- ---- numbers and commands by desk

is_same : (m n : ℕ) → m ≡ n → (m == n) ≡ true
is_same m n same = grind (arith, nat_tests)

is_other : (m n : ℕ) → m ≢ n → (m == n) ≡ false
is_other m n other = grind (arith, nat_tests)

pub skipped : (group : Gathered) (rest : List Gathered) (desk : ℕ) → group.desk ≢ desk → gathering.commands_of (group ∷ rest) desk ≡ gathering.commands_of rest desk
skipped group rest desk other = rw (is_other group.desk desk other) refl

pub counted : (group : Gathered) (rest : List Gathered) (desk : ℕ) → group.desk ≡ desk → gathering.commands_of (group ∷ rest) desk ≡ group.commands ++ gathering.commands_of rest desk
counted group rest desk same = rw (is_same group.desk desk same) refl

pub past_end : {X : Type 0} (xs : List X) (k : ℕ) (d : X) → length xs ≤ k → get_or xs k d ≡ d
past_end [] k d far = refl
past_end (x ∷ xs) zero d far = absurd (omega (arith, far))
past_end (x ∷ xs) (suc k) d far = past_end xs k d (omega (arith, far))

cut_long : (desk : ℕ) (cut : List ℕ) (groups : List Gathered) → length (cut_from desk cut groups) ≡ length cut
cut_long desk [] groups = refl
cut_long desk (n ∷ cut) groups = ap suc (cut_long (desk + 1) cut groups)

cut_then : (desk : ℕ) (cut : List ℕ) (groups : List Gathered) (k at : ℕ) → k < length cut → at ≡ desk + k
    → get_or (cut_from desk cut groups) k 0 ≡ get_or cut k 0 + length (gathering.commands_of groups at)
cut_then desk [] groups k at inside is = absurd (omega (arith, inside))
cut_then desk (n ∷ cut) groups zero at inside is =
    let here : desk ≡ at = omega (arith, is) in
    ap (λ (d : ℕ). n + length (gathering.commands_of groups d)) here
cut_then desk (n ∷ cut) groups (suc k) at inside is = cut_then (desk + 1) cut groups k at (omega (arith, inside)) (omega (arith, is))

within_configs : (configs : List Settings) (k : ℕ) (config : Settings) → slice_get configs k ≡ Some config → k < length configs
within_configs [] k config there = absurd (none-some config there)
within_configs (c ∷ configs) zero config there = omega arith
within_configs (c ∷ configs) (suc k) config there = let rest = within_configs configs k config there in omega (arith, rest)

module _ {D : Type 0} where
  -- ---- one desk more

  pub since_more : (number : ℕ) (desks : List (View D)) (cut : List ℕ) (groups : List Gathered) (desk : View D) (from : ℕ) (group : Gathered) → AreSince number desks cut groups
      → IsSince (number + length groups) desk from group → AreSince number (desks ++ desk ∷ []) (cut ++ from ∷ []) (groups ++ group ∷ [])
  since_more number [] [] [] desk from group all is = (subst (λ (n : ℕ). IsSince n desk from group) (omega arith) is, tt)
  since_more number [] [] (g ∷ groups) desk from group all is = absurd all
  since_more number [] (n ∷ cut) groups desk from group all is = absurd all
  since_more number (d ∷ desks) [] groups desk from group all is = absurd all
  since_more number (d ∷ desks) (n ∷ cut) [] desk from group all is = absurd all
  since_more number (d ∷ desks) (n ∷ cut) (g ∷ groups) desk from group all is =
      (all.0, since_more (suc number) desks cut groups desk from group all.1 (subst (λ (k : ℕ). IsSince k desk from group) (omega arith) is))

  pub since_long : (number : ℕ) (desks : List (View D)) (cut : List ℕ) (groups : List Gathered) → AreSince number desks cut groups → length groups ≡ length cut
  since_long number [] [] [] all = refl
  since_long number [] [] (g ∷ groups) all = absurd all
  since_long number [] (n ∷ cut) groups all = absurd all
  since_long number (d ∷ desks) [] groups all = absurd all
  since_long number (d ∷ desks) (n ∷ cut) [] all = absurd all
  since_long number (d ∷ desks) (n ∷ cut) (g ∷ groups) all = ap suc (since_long (suc number) desks cut groups all.1)

  -- ---- a press can take them

  desk_at : (number : ℕ) (desks : List (View D)) (cut : List ℕ) (groups : List Gathered) (k : ℕ) (g : Gathered) → AreSince number desks cut groups → k < length groups → (get_or groups k g).desk ≡ number + k
  desk_at number [] [] [] k g all inside = absurd (omega (arith, inside))
  desk_at number [] [] (x ∷ groups) k g all inside = absurd all
  desk_at number [] (n ∷ cut) groups k g all inside = absurd all
  desk_at number (d ∷ desks) [] groups k g all inside = absurd all
  desk_at number (d ∷ desks) (n ∷ cut) [] k g all inside = absurd all
  desk_at number (d ∷ desks) (n ∷ cut) (x ∷ groups) zero g all inside = omega (arith, all.0.desk_is)
  desk_at number (d ∷ desks) (n ∷ cut) (x ∷ groups) (suc k) g all inside =
      let rest = desk_at (suc number) desks cut groups k g all.1 (omega (arith, inside)) in omega (arith, rest)

  from_at : (number : ℕ) (desks : List (View D)) (cut : List ℕ) (groups : List Gathered) (k : ℕ) (g : Gathered) → AreSince number desks cut groups → k < length groups → (get_or groups k g).from ≡ get_or cut k 0
  from_at number [] [] [] k g all inside = absurd (omega (arith, inside))
  from_at number [] [] (x ∷ groups) k g all inside = absurd all
  from_at number [] (n ∷ cut) groups k g all inside = absurd all
  from_at number (d ∷ desks) [] groups k g all inside = absurd all
  from_at number (d ∷ desks) (n ∷ cut) [] k g all inside = absurd all
  from_at number (d ∷ desks) (n ∷ cut) (x ∷ groups) zero g all inside = all.0.from_is
  from_at number (d ∷ desks) (n ∷ cut) (x ∷ groups) (suc k) g all inside = from_at (suc number) desks cut groups k g all.1 (omega (arith, inside))

  pub are_gathered : (desks : List (View D)) (cut : List ℕ) (groups : List Gathered) → AreSince 0 desks cut groups → AreGathered cut groups
  are_gathered desks cut groups all =
      let long = since_long 0 desks cut groups all in
      record {
        desks = λ k g inside. let at = desk_at 0 desks cut groups k g all inside in omega (arith, at, inside, long);
        once = λ i j g before inside same.
            let one = desk_at 0 desks cut groups i g all (omega (arith, before, inside)) in
            let other = desk_at 0 desks cut groups j g all inside in
            omega (arith, one, other, same, before);
        from = λ k g inside.
            let here = desk_at 0 desks cut groups k g all inside in
            let at : (get_or groups k g).desk ≡ k = omega (arith, here) in
            from_at 0 desks cut groups k g all inside ∙ ap (λ (d : ℕ). get_or cut d 0) (sym at);
      }

  -- ---- which they are

  none_before : (number : ℕ) (desks : List (View D)) (cut : List ℕ) (groups : List Gathered) (at : ℕ) → AreSince number desks cut groups → at < number → gathering.commands_of groups at ≡ []
  none_before number [] [] [] at all less = refl
  none_before number [] [] (g ∷ groups) at all less = absurd all
  none_before number [] (n ∷ cut) groups at all less = absurd all
  none_before number (d ∷ desks) [] groups at all less = absurd all
  none_before number (d ∷ desks) (n ∷ cut) [] at all less = absurd all
  none_before number (d ∷ desks) (n ∷ cut) (g ∷ groups) at all less =
      let other : g.desk ≢ at = λ same. omega (arith, same, all.0.desk_is, less) in
      skipped g groups at other ∙ none_before (suc number) desks cut groups at all.1 (omega (arith, less))

  none_behind : (number : ℕ) (desks : List (View D)) (cut : List ℕ) (groups : List Gathered) (at : ℕ) → AreSince number desks cut groups → number + length groups ≤ at → gathering.commands_of groups at ≡ []
  none_behind number [] [] [] at all far = refl
  none_behind number [] [] (g ∷ groups) at all far = absurd all
  none_behind number [] (n ∷ cut) groups at all far = absurd all
  none_behind number (d ∷ desks) [] groups at all far = absurd all
  none_behind number (d ∷ desks) (n ∷ cut) [] at all far = absurd all
  none_behind number (d ∷ desks) (n ∷ cut) (g ∷ groups) at all far =
      let other : g.desk ≢ at = λ same. omega (arith, same, all.0.desk_is, far) in
      skipped g groups at other ∙ none_behind (suc number) desks cut groups at all.1 (omega (arith, far))

  those_at : (number : ℕ) (desks : List (View D)) (cut : List ℕ) (groups : List Gathered) (k at : ℕ) (desk : View D) (commands : List Command) → AreSince number desks cut groups
      → at ≡ number + k → slice_get desks k ≡ Some desk → HasCommands desk commands → gathering.commands_of groups at ≡ drop (get_or cut k 0) commands
  those_at number [] [] groups k at desk commands all is there has = absurd (none-some desk there)
  those_at number [] (n ∷ cut) groups k at desk commands all is there has = absurd all
  those_at number (d ∷ desks) [] groups k at desk commands all is there has = absurd all
  those_at number (d ∷ desks) (n ∷ cut) [] k at desk commands all is there has = absurd all
  those_at number (d ∷ desks) (n ∷ cut) (g ∷ groups) zero at desk commands all is there has =
      let same : g.desk ≡ at = omega (arith, all.0.desk_is, is) in
      counted g groups at same
      ∙ ap (λ (l : List Command). g.commands ++ l) (none_before (suc number) desks cut groups at all.1 (omega (arith, is)))
      ∙ append-nil g.commands
      ∙ all.0.commands commands (subst (λ (v : View D). HasCommands v commands) (sym (same_Some d desk there)) has)
  those_at number (d ∷ desks) (n ∷ cut) (g ∷ groups) (suc k) at desk commands all is there has =
      let other : g.desk ≢ at = λ same. omega (arith, same, all.0.desk_is, is) in
      skipped g groups at other ∙ those_at (suc number) desks cut groups k at desk commands all.1 (omega (arith, is)) there has

  -- ---- over the states of the desks

  pub record Sound (desks : List (View D)) (desk_states : DeskStates) (cut : List ℕ) : Type 0 where
    pub all : AreIn desks desk_states
    pub one_each : length desks ≡ length cut
    pub within : (desk : ℕ) → cut_at cut desk ≤ length (get_or (lists_of desk_states) desk [])

  pub there_is : (desks : List (View D)) (k : ℕ) → k < length desks → (desk : View D) × (slice_get desks k ≡ Some desk)
  there_is [] k inside = absurd (omega (arith, inside))
  there_is (d ∷ desks) zero inside = (d, refl)
  there_is (d ∷ desks) (suc k) inside = there_is desks k (omega (arith, inside))

  -- the commands gathered of a desk are those of its list behind the cut
  pub gathered_of : (desks : List (View D)) (desk_states : DeskStates) (cut : List ℕ) (groups : List Gathered) → Sound desks desk_states cut → AreSince 0 desks cut groups
      → (desk : ℕ) → gathering.commands_of groups desk ≡ drop (cut_at cut desk) (get_or (lists_of desk_states) desk [])
  gathered_of desks desk_states cut groups sound all desk = elim (cases_lt desk (length desks)) [
    | inl inside ↦ (
        let there = there_is desks desk inside in
        let at : At desk_states desk there.0 = at_place desks desk_states desk there.0 sound.all there.1 in
        those_at 0 desks cut groups desk desk there.0 at.state.commands all (omega arith) there.1 at.stands.commands
        ∙ ap (λ (l : List Command). drop (cut_at cut desk) l) (sym (list_at desk_states desk ∙ ap commands_of at.there)))
    | inr far ↦ (
        let long = since_long 0 desks cut groups all in
        let none : get_or (lists_of desk_states) desk [] ≡ [] = past_end (lists_of desk_states) desk [] (omega (arith, far, as_many desks desk_states sound.all, lists_long desk_states)) in
        none_behind 0 desks cut groups desk all (omega (arith, far, long, sound.one_each))
        ∙ sym (drop_all (cut_at cut desk) (get_or (lists_of desk_states) desk []) (omega (arith, ap length none))))
  ]

  pub they_go_on : (desks : List (View D)) (desk_states : DeskStates) (cut : List ℕ) (groups : List Gathered) → Sound desks desk_states cut → AreSince 0 desks cut groups → AreNextCommands (lists_of desk_states) cut groups
  they_go_on desks desk_states cut groups sound all desk = record {
    held = sound.within desk;
    next = ([], sym (gathered_of desks desk_states cut groups sound all desk) ∙ sym (append-nil (gathering.commands_of groups desk)));
  }

  -- with them all is taken in
  pub they_take_all : (desks : List (View D)) (desk_states : DeskStates) (cut : List ℕ) (groups : List Gathered) → Sound desks desk_states cut → AreSince 0 desks cut groups → TakesAll desk_states (cut_with cut groups)
  they_take_all desks desk_states cut groups sound all desk = elim (cases_lt desk (length cut)) [
    | inl inside ↦ (
        let list = get_or (lists_of desk_states) desk [] in
        let n = cut_at cut desk in
        let sum = cut_then 0 cut groups desk desk inside (omega arith) in
        let more = ap length (gathered_of desks desk_states cut groups sound all desk) in
        let rest = length-drop n list in
        let whole = ap length (list_at desk_states desk) in
        omega (arith, sum, more, rest, whole, sound.within desk))
    | inr far ↦ (
        let none = past_end (cut_with cut groups) desk 0 (omega (arith, far, cut_long 0 cut groups)) in
        let empty = past_end (lists_of desk_states) desk [] (omega (arith, far, sound.one_each, as_many desks desk_states sound.all, lists_long desk_states)) in
        none ∙ sym (ap length (sym (list_at desk_states desk) ∙ empty)))
  ]

  -- each is accepted after those before it
  pub they_are_accepted : (desks : List (View D)) (desk_states : DeskStates) (cut : List ℕ) (groups : List Gathered) (configs : List Settings) → Sound desks desk_states cut → AreSince 0 desks cut groups
      → configs ≡ configs_at (lists_of desk_states) cut → length configs ≡ length cut → AreAccepted configs groups
  they_are_accepted desks desk_states cut groups configs sound all same long desk config there =
      let list = get_or (lists_of desk_states) desk [] in
      let n = cut_at cut desk in
      let is : config ≡ fold_of desk (take n list) = config_at 0 (lists_of desk_states) cut desk desk config (omega arith) (subst (λ (c : List Settings). slice_get c desk ≡ Some config) same there) in
      let inside : desk < length desks = omega (arith, within_configs configs desk config there, long, sound.one_each) in
      let place = there_is desks desk inside in
      let at : At desk_states desk place.0 = at_place desks desk_states desk place.0 sound.all place.1 in
      let taken : AcceptedInTurn (empty_settings desk) at.state.commands = subst (λ (d : ℕ). AcceptedInTurn (empty_settings d) at.state.commands) at.stands.number_is at.stands.commands.recorded.taken in
      let in_turn : AcceptedInTurn (empty_settings desk) list = subst (AcceptedInTurn (empty_settings desk)) (sym (list_at desk_states desk ∙ ap commands_of at.there)) taken in
      subst (λ (s : Settings). AcceptedInTurn s (gathering.commands_of groups desk)) (sym is)
      (subst (AcceptedInTurn (fold_of desk (take n list))) (sym (gathered_of desks desk_states cut groups sound all desk)) (accepted_behind (empty_settings desk) n list in_turn))
