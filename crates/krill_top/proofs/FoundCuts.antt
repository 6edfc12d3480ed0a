-- What the editions take in whose records were found: no more commands than the desks hold, whatever signatures are worth.
use Rattle.std.proofs.Common.{◌≡◌, ◌≤◌, ℕ, zero, suc, ◌&&◌, eqb, leb, true, false, List, [], ◌∷◌, map, length, refl, ap, arith}
use Rattle.std.specs.Prelude.{Bool, Option, None, Some, All, IfSome, if◌then◌else◌}
use Rattle.std.proofs.lemmas.Bool.{and_parts, leb-true}
use Rattle.std.proofs.lemmas.Option.{none-some}
use Rattle.std.proofs.lemmas.List.Elements.{All-nil, All-cons}
use Rattle.authority_book.specs.declared.commands.Command.{Command}
use Rattle.press_records.specs.Edition.{EditionValue, StandingValue, editions, edition_of, fields_of, may_follow, is_next, is_dated, is_cut, grows, are_live}
use Rattle.press_records.specs.Changes.{uris_rise}
use Rattle.press_records.specs.Records.{AreRecordsOf}
use Rattle.press_records.specs.Store.{Store}
use Rattle.editions.specs.Edition as behind
use Rattle.editions.specs.Edition.{Edition, State, state_from, state_after, cut_at}
use Rattle.editions.specs.PublishedState.{PublishedStateValue}
use Rattle.press_core.specs.JournalRecords.{AreRecords}
use Rattle.press_core.specs.Records.{edition_value, standing_at}
use Rattle.press_core.specs.Stands.{IsLeftBy}
use Rattle.krill_top.specs.DeskStates.{DeskStates, commands_at}
use Rattle.krill_top.specs.InstanceState.{InstanceState, lists_of, store_in}
use Rattle.krill_top.specs.SoundEditions.{TakesNoMore}
use Rattle.krill_top.proofs.Lists.{list_at}

-- ---- one record

-- a cut that grows is nowhere less
grown_at : (before cut : List ℕ) → grows before cut ≡ true → (desk : ℕ) → cut_at before desk ≤ cut_at cut desk
grown_at [] cut so desk = omega arith
grown_at (n ∷ before) [] so zero = leb-true n 0 (and_parts (leb n 0) (grows before []) so).0
grown_at (n ∷ before) [] so (suc desk) = grown_at before [] (and_parts (leb n 0) (grows before []) so).1 desk
grown_at (n ∷ before) (m ∷ cut) so zero = leb-true n m (and_parts (leb n m) (grows before cut) so).0
grown_at (n ∷ before) (m ∷ cut) so (suc desk) = grown_at before cut (and_parts (leb n m) (grows before cut) so).1 desk

-- what a test lets through passed it
passed : (test : Bool) (of to : EditionValue) → (if test then Some of else None) ≡ Some to → test ≡ true
passed true of to told = refl
passed false of to told = absurd (none-some to told)

-- an edition that is recorded may follow
follows : (before : StandingValue) (edition : EditionValue) → (editions before).good edition → may_follow before edition ≡ true
unfolding editions
follows before edition good = passed (may_follow before (edition_of (fields_of edition))) (edition_of (fields_of edition)) edition good.1

recorded_grows : (before : StandingValue) (edition : EditionValue) → (editions before).good edition → (desk : ℕ) → cut_at before.cut desk ≤ cut_at edition.cut desk
recorded_grows before edition good =
    let counted = is_next before.serial edition.serial in
    let dated = is_dated before.moment edition.moment in
    let cut = is_cut before.cut edition.cut in
    let live = are_live edition.moment edition.rows in
    let a = and_parts (counted && dated && cut && live) (uris_rise edition.changes) (follows before edition good) in
    let b = and_parts (counted && dated && cut) live a.0 in
    let c = and_parts (counted && dated) cut b.0 in
    grown_at before.cut edition.cut (and_parts (eqb (length edition.cut) 64) (grows before.cut edition.cut) c.1).1

-- ---- all of them

-- what stands in the end takes in no less than what stood before
all_grow : (state : State) (list : List Edition) (records : List (List ℕ)) → AreRecordsOf (standing_at state) (map edition_value list) records
    → (desk : ℕ) → cut_at state.cut desk ≤ cut_at (state_from state list).cut desk
all_grow state [] records are desk = omega arith
all_grow state (edition ∷ later) [] are desk = absurd are
all_grow state (edition ∷ later) (first ∷ records) are desk =
    let first_grows = recorded_grows (standing_at state) (edition_value edition) are.0.good desk in
    let rest_grow = all_grow (behind.after_edition state edition) later records are.1 desk in
    omega (arith, first_grows, rest_grow)

-- so each takes in no more than is held where the last one does
none_past : (desk_states : DeskStates) (state : State) (list : List Edition) (records : List (List ℕ)) → AreRecordsOf (standing_at state) (map edition_value list) records
    → ((desk : ℕ) → cut_at (state_from state list).cut desk ≤ length (commands_at desk_states desk)) → All (TakesNoMore desk_states) list
none_past desk_states state [] records are held = All-nil (TakesNoMore desk_states)
none_past desk_states state (edition ∷ later) [] are held = absurd are
none_past desk_states state (edition ∷ later) (first ∷ records) are held =
    All-cons (TakesNoMore desk_states) edition later
    (λ desk.
    let rest_grow = all_grow (behind.after_edition state edition) later records are.1 desk in
    let last = held desk in
    omega (arith, rest_grow, last))
    (none_past desk_states (behind.after_edition state edition) later records are.1 held)

-- where the records are known
pub cuts_found : (store : Store) (state : InstanceState) (at : PublishedStateValue) → IsLeftBy (lists_of state.desk_states) state.editions at → IfSome state.records (AreRecords store state.editions)
    → IfSome state.records (λ _. All (TakesNoMore state.desk_states) state.editions)
cuts_found store state at left are = of_records state.records are where
  held : (desk : ℕ) → cut_at (state_after state.editions).cut desk ≤ length (commands_at state.desk_states desk)
  held desk =
      let taken = left.taken_in desk in
      let same = left.cut desk in
      let there = ap length (list_at state.desk_states desk) in
      omega (arith, taken, same, there)

  of_records : (known : Option (List (List ℕ))) → IfSome known (AreRecords store state.editions) → IfSome known (λ _. All (TakesNoMore state.desk_states) state.editions)
  of_records None none = tt
  of_records (Some records) these = none_past state.desk_states behind.first_state state.editions these.rest these.each held
