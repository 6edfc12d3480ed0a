-- Editions that follow one another are sound, and take in no more commands than there are.
use Rattle.std.proofs.Common.{◌≡◌, ℕ, zero, suc, ◌<◌, ◌≤◌, List, [], ◌∷◌, ◌++◌, take, length, get_or, refl, sym, ap, subst, arith, append_assoc}
use Rattle.std.specs.Prelude.{Some, All, slice_get}
use Rattle.std.proofs.lemmas.List.Elements.{All-take, recursion_from_All}
use Rattle.std.proofs.lemmas.Option.{slice_get-get_or}
use Rattle.names.specs.Name.{IsName}
use Rattle.authority_book.specs.declared.commands.Command.{Command}
use Rattle.authority_book.specs.Fold.{empty_settings, fold_of, Taken}
use Rattle.cmd_codec.specs.Spelling.{IsRecordable}
use Rattle.entitle.specs.Certified.{names_of}
use Rattle.rp_rules.specs.Certificates.{Vouched}
use Rattle.editions.specs.Edition.{Edition, cut_at}
use Rattle.editions.specs.Names.{AreTree}
use Rattle.editions.specs.Step.{Premises, IsStep, AreSteps, configs_at}
use Rattle.krill_top.specs.DeskStates.{DeskStates, most_desks}
use Rattle.krill_top.specs.InstanceState.{InstanceState, lists_of, premises_of, AreVouchedIn}
use Rattle.krill_top.specs.SoundEditions.{AreFoundSound, TakesNoMore}
use Rattle.krill_top.specs.inner.RunLaws.{RunLaws}
use Rattle.krill_top.proofs.Lists.{accepted_front, list_at, lists_long}
use Rattle.krill_top.proofs.RunHistories.{RunAt}
use Rattle.krill_top.proofs.Vouching.{front_of}

-- ---- the front of a list in turn

there_before : {X : Type 0} (xs ys : List X) (n : ℕ) (x : X) → slice_get xs n ≡ Some x → slice_get (xs ++ ys) n ≡ Some x
there_before [] ys n x there = absurd (cc)
there_before (y ∷ xs) ys zero x there = there
there_before (y ∷ xs) ys (suc n) x there = there_before xs ys n x there

taken_before : {X : Type 0} (xs ys : List X) (n : ℕ) (x : X) → slice_get xs n ≡ Some x → take n (xs ++ ys) ≡ take n xs
taken_before [] ys n x there = absurd (cc)
taken_before (y ∷ xs) ys zero x there = refl
taken_before {X} (y ∷ xs) ys (suc n) x there = ap (λ (l : List X). y ∷ l) (taken_before xs ys n x there)

front_steps : (premises : Premises) (front rest : List Edition) → AreSteps premises (front ++ rest) → AreSteps premises front
front_steps premises front rest steps place edition there =
    let step = steps place edition (there_before front rest place edition there) in
    (step.0, subst (λ (l : List Edition). IsStep premises step.0 l edition) (taken_before front rest place edition there) step.1)

-- ---- the names at a cut

module _ (laws : RunLaws) where
  both_at : (list : List Command) → Taken 0 list → All IsRecordable list → AreTree (fold_of 0 list).names × All (λ row. IsName row.name) (fold_of 0 list).names
  both_at list taken held = (laws.apart list taken, laws.named list (recursion_from_All IsRecordable list held))

  tree_at : (lists : List (List Command)) (cut : List ℕ) → 0 < length lists → Taken 0 (get_or lists 0 []) → All IsRecordable (get_or lists 0 [])
      → AreTree (names_of (configs_at lists cut)) × All (λ row. IsName row.name) (names_of (configs_at lists cut))
  tree_at [] cut some taken held = absurd (omega (arith, some))
  tree_at (list ∷ lists) [] some taken held = both_at [] tt (λ k d within. absurd (omega (arith, within)))
  tree_at (list ∷ lists) (n ∷ cut) some taken held =
      both_at (take n list) (accepted_front (empty_settings 0) n list taken) (All-take IsRecordable n list held)

  -- editions that follow one another are sound, where the anchor's commands are recorded
  sound_from : (premises : Premises) → 0 < length premises.lists → Taken 0 (get_or premises.lists 0 []) → All IsRecordable (get_or premises.lists 0 [])
      → (before made : List Edition) → AreSteps premises (before ++ made) → AreFoundSound premises before made
  sound_from premises some taken held before [] steps = tt
  sound_from premises some taken held before (edition ∷ made) steps =
      let set = laws.set (before ++ edition ∷ []) in
      let tree = tree_at premises.lists edition.cut some taken held in
      let on : AreSteps premises ((before ++ edition ∷ []) ++ made) = subst (λ (l : List Edition). AreSteps premises l) (sym (append_assoc before (edition ∷ []) made)) steps in (
        laws.published premises before edition set.0 (front_steps premises (before ++ edition ∷ []) made on) tree.0 tree.1 set.1 set.2,
        sound_from premises some taken held (before ++ edition ∷ []) made on,
      )

  -- what a run recorded for the anchor
  anchor_recorded : (was is : DeskStates) → ((k : ℕ) → RunAt k (slice_get was k) (slice_get is k)) → 0 < length is → Taken 0 (get_or (lists_of is) 0 []) × All IsRecordable (get_or (lists_of is) 0 [])
  anchor_recorded was [] runs some = absurd (omega (arith, some))
  anchor_recorded [] (state ∷ is) runs some = absurd (runs 0)
  anchor_recorded (old ∷ was) (state ∷ is) runs some = ((runs 0).recorded.taken, (runs 0).recorded.recordable)

  module _ (begun ended : InstanceState) (runs : (k : ℕ) → RunAt k (slice_get begun.desk_states k) (slice_get ended.desk_states k)) (many : length (lists_of ended.desk_states) ≡ most_desks)
      (steps : (vouched : Vouched) → AreVouchedIn vouched ended → AreSteps (premises_of vouched ended) ended.editions) where
    pub found_sound : (made : List Edition) → ended.editions ≡ begun.editions ++ made → (vouched : Vouched) → AreVouchedIn vouched ended → AreFoundSound (premises_of vouched ended) begun.editions made
    found_sound made grows vouched all =
        let some : 0 < length (lists_of ended.desk_states) = omega (arith, many) in
        let anchor = anchor_recorded begun.desk_states ended.desk_states runs (omega (arith, some, lists_long ended.desk_states)) in
        sound_from (premises_of vouched ended) some anchor.0 anchor.1 begun.editions made
        (subst (λ (l : List Edition). AreSteps (premises_of vouched ended) l) grows (steps vouched all))

-- ---- cuts

take_no_more : (vouched : Vouched) (state : InstanceState) (list : List Edition) → AreSteps (premises_of vouched state) list → All (TakesNoMore state.desk_states) list
take_no_more vouched state list steps k d within desk =
    let step = steps k (get_or list k d) (slice_get-get_or list k d within) in
    subst (λ (commands : List Command). cut_at (get_or list k d).cut desk ≤ length commands) (list_at state.desk_states desk) (step.1.cut.held desk)

-- those that were found, behind which others follow
pub found_within : (vouched : Vouched) (state : InstanceState) → AreSteps (premises_of vouched state) state.editions → (found made : List Edition) → state.editions ≡ found ++ made
    → All (TakesNoMore state.desk_states) found
found_within vouched state steps found made grows =
    front_of (TakesNoMore state.desk_states) found made (subst (λ (l : List Edition). All (TakesNoMore state.desk_states) l) grows (take_no_more vouched state state.editions steps))
