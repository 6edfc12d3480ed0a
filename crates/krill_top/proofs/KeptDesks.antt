-- Desks that came out of their locks: their commands come behind those that opening found.
use Rattle.std.proofs.Common.{◌≡◌, ◌+◌, ℕ, zero, suc, List, [], ◌∷◌, ◌++◌, map, length, take, drop, get_or, refl, sym, ap, ◌∙◌, subst, arith}
use Rattle.std.specs.Prelude.{⊤, Option, None, Some, slice_get}
use Rattle.std.specs.Option.{option_map}
use Rattle.std.proofs.Math.Seq.{take-append_seam}
use Rattle.std.proofs.lemmas.List.{length-map, take-map, take-append-drop}
use Rattle.std.proofs.lemmas.List.Elements.{All-take}
use mathlib.Core.List.{IsPrefix}
use Rattle.disk_api.specs.declared.disk.Disk.{Ghosts as DiskGhosts}
use Rattle.authority_book.specs.declared.commands.Command.{Command}
use Rattle.authority_book.specs.Fold.{empty_settings}
use Rattle.cmd_codec.specs.Spelling.{spelling, IsRecordable}
use Rattle.commit_word.specs.Seats.{FollowerSeat}
use Rattle.desk_core.specs.View.{View}
use Rattle.desk_core.specs.Commands.{Records}
use Rattle.desk_core.specs.Counted.{CountedView}
use Rattle.editions.specs.Step.{BeginsWith, AreMore}
use Rattle.manager.specs.Lists.{AreListsOf, seat_at}
use Rattle.manager.specs.Ready.{desk_in, records_in}
use Rattle.krill_top.specs.DeskStates.{DeskState, DeskStates}
use Rattle.krill_top.specs.DesksInStates.{IsIn, InAt}
use Rattle.krill_top.specs.InstanceState.{lists_of}
use Rattle.krill_top.specs.Run.{IsKept, IsKeptAt}
use Rattle.krill_top.specs.inner.Opened.{IsClosed}
use Rattle.krill_top.specs.inner.RunLaws.{CommandsLaw}
use Rattle.krill_top.proofs.OutOfLocks.{HasCounted, HasCountedAt}
use Rattle.krill_top.proofs.Lists.{accepted_front}
use Rattle.krill_top.proofs.InTurn.{opened_stood_for, closed_left}
use Rattle.krill_top.proofs.Served.{OpenedAs, OpenedAt, ClosedAt}

-- records that begin with others are those of commands that begin with theirs
pub begins : CommandsLaw → (number : ℕ) (old new : List Command) (was is : List (List ℕ)) → Records number was old → Records number is new → IsPrefix was is → BeginsWith old new
begins law number old new was is first second prefix =
    let n = length old in
    let long : n ≡ length (map spelling old) = sym (length-map old spelling) in
    let front : map spelling old ≡ map spelling (take n new) =
    sym (take-append_seam (map spelling old) prefix.0)
    ∙ (ap (λ (k : ℕ). take k (map spelling old ++ prefix.0)) (sym long)
    ∙ (ap (λ (l : List (List ℕ)). take n (l ++ prefix.0)) (sym first.spelled)
    ∙ (ap (take n) (prefix.1 ∙ second.spelled) ∙ take-map spelling n new))) in
    let same : old ≡ take n new = law number (map spelling old) old (take n new)
    (record { spelled = refl; recordable = first.recordable; taken = first.taken })
    (record { spelled = front; recordable = All-take IsRecordable n new second.recordable; taken = accepted_front (empty_settings number) n new second.taken }) in
    (drop n new, sym (take-append-drop n new) ∙ ap (λ (l : List Command). l ++ drop n new) (sym same))

none_back : (doubt : Option Command) → option_map spelling doubt ≡ None → doubt ≡ None
none_back None is = refl
none_back (Some command) is = absurd (cc)

-- the commands of a desk at a number, where there is one
pub records_of : {D : Type 0} (number : ℕ) (desk : View D) (state : DeskState) → IsIn number desk state → Records number desk.records state.commands
records_of number desk state is = subst (λ (n : ℕ). Records n desk.records state.commands) is.number_is is.commands.recorded

abbrev pub BeginsAt : Option DeskState → Option DeskState → Type 0
BeginsAt (Some was) (Some is) = BeginsWith was.commands is.commands
BeginsAt was is = ⊤

module _ {D : Type 0} (disk_of : DiskGhosts D) where
  kept_one : (number : ℕ) (disk : D) (desk new : View D) (back : D) (was is : DeskState) → OpenedAs disk_of number disk desk was → BeginsWith was.commands is.commands → HasCounted disk_of desk.disk new.disk new.doubt
      → IsIn number new is → IsClosed disk_of new back → IsKept disk_of number disk back was is
  kept_one number disk desk new back was is opened goes counted stands closed =
      let back_count : disk_of.fault_count back ≡ disk_of.fault_count new.disk = ap disk_of.fault_count closed.same in
      record {
        found = opened_stood_for disk_of number disk desk was.commands opened.opened opened.has;
        is_open = opened.is_open;
        accepted = goes.0;
        grows = goes.1;
        recorded = subst (λ (r : List (List ℕ)). Records number r is.commands) stands.commands.recorded.spelled (records_of number new is stands);
        next = stands.next;
        left = closed_left disk_of new back is.commands is.doubt closed stands.commands.recorded.spelled stands.doubt;
        cause = λ some.
            let rose = counted.cause (λ none. some (none_back is.doubt (sym stands.doubt ∙ none))) in
            record {
              from = rose.from;
              to = rose.to;
              begins = omega (arith, opened.opened.later, rose.begins);
              risen = rose.risen;
              ends = omega (arith, rose.ends, back_count);
            };
        later = omega (arith, opened.opened.later, counted.later, back_count);
      }

  pub kept_at : (number : ℕ) (disk : Option D) (desk new : Option (View D)) (back : Option D) (was is : Option DeskState)
      → OpenedAt disk_of number disk desk was → BeginsAt was is → HasCountedAt disk_of desk new → InAt number new is → ClosedAt disk_of new back → IsKeptAt disk_of number disk back was is
  kept_at number None None None None None None opened goes counted stands closed = tt
  kept_at number None None None (Some back) None None opened goes counted stands closed = absurd closed
  kept_at number None None None back None (Some is) opened goes counted stands closed = absurd stands
  kept_at number None None (Some new) back None is opened goes counted stands closed = absurd counted
  kept_at number None None new back (Some was) is opened goes counted stands closed = absurd opened
  kept_at number None (Some desk) new back was is opened goes counted stands closed = absurd opened
  kept_at number (Some disk) None new back was is opened goes counted stands closed = absurd opened
  kept_at number (Some disk) (Some desk) new back None is opened goes counted stands closed = absurd opened
  kept_at number (Some disk) (Some desk) None back (Some was) is opened goes counted stands closed = absurd counted
  kept_at number (Some disk) (Some desk) (Some new) back (Some was) None opened goes counted stands closed = absurd stands
  kept_at number (Some disk) (Some desk) (Some new) None (Some was) (Some is) opened goes counted stands closed = absurd closed
  kept_at number (Some disk) (Some desk) (Some new) (Some back) (Some was) (Some is) opened goes counted stands closed =
      kept_one number disk desk new back was is opened goes counted stands closed

-- a desk that came out has the records with which it went in in front
pub begins_at : {D : Type 0} → CommandsLaw → (number : ℕ) (desk new : Option (View D)) (was is : Option DeskState) → InAt number desk was → InAt number new is
    → ((d n : View D) → desk ≡ Some d → new ≡ Some n → IsPrefix d.records n.records) → BeginsAt was is
begins_at law number desk new None is first second front = tt
begins_at law number desk new (Some was) None first second front = tt
begins_at law number None new (Some was) (Some is) first second front = absurd first
begins_at law number (Some desk) None (Some was) (Some is) first second front = absurd second
begins_at law number (Some desk) (Some new) (Some was) (Some is) first second front =
    begins law number was.commands is.commands desk.records new.records (records_of number desk was first) (records_of number new is second) (front desk new refl refl)

-- ---- whole lists

abbrev pub seen_of : FollowerSeat → List (List ℕ)
seen_of seat = seat.seen

-- the followers have seen the front of each desk's list
pub more_lists : {D : Type 0} → CommandsLaw → (signers number : ℕ) (lists : List (List Command)) (seats : List FollowerSeat) (desks : List (View D)) (states : DeskStates) → length lists ≡ length states
    → AreListsOf signers number lists (map seen_of seats) → ((k : ℕ) (desk : View D) → slice_get desks k ≡ Some desk → IsPrefix (seat_at seats k).seen desk.records)
    → ((k : ℕ) → InAt (number + k) (slice_get desks k) (slice_get states k)) → AreMore lists (lists_of states)
more_lists law signers number [] seats desks [] long are front stands = tt
more_lists law signers number [] seats desks (state ∷ states) long are front stands = absurd (omega (arith, long))
more_lists law signers number (list ∷ lists) seats desks [] long are front stands = absurd (omega (arith, long))
more_lists law signers number (list ∷ lists) [] desks (state ∷ states) long are front stands = absurd are
more_lists law signers number (list ∷ lists) (seat ∷ seats) [] (state ∷ states) long are front stands = absurd (stands 0)
more_lists {D} law signers number (list ∷ lists) (seat ∷ seats) (desk ∷ desks) (state ∷ states) long are front stands =
    let same : number + 0 ≡ number = omega arith in
    let here : IsIn number desk state = subst (λ (n : ℕ). IsIn n desk state) same (stands 0) in (
      begins law number list state.commands seat.seen desk.records are.0.are (records_of number desk state here) (front 0 desk refl),
      more_lists law signers (suc number) lists seats desks states (omega (arith, long)) are.1 (λ k d is. front (suc k) d is) (λ k.
          let next : number + suc k ≡ suc number + k = omega arith in
          subst (λ (n : ℕ). InAt n (slice_get desks k) (slice_get states k)) next (stands (suc k))),
    )

-- the commands of the records that were found are those with which the run began
pub same_found : {D : Type 0} → CommandsLaw → (signers number : ℕ) (found : List (List Command)) (opened : List (CountedView D)) (states : DeskStates) → AreListsOf signers number found (map records_in opened)
    → ((k : ℕ) → InAt (number + k) (slice_get (map desk_in opened) k) (slice_get states k)) → found ≡ lists_of states
same_found law signers number [] [] [] are stands = refl
same_found law signers number [] [] (state ∷ states) are stands = absurd (stands 0)
same_found law signers number [] (one ∷ opened) states are stands = absurd are
same_found law signers number (list ∷ found) [] states are stands = absurd are
same_found law signers number (list ∷ found) (one ∷ opened) [] are stands = absurd (stands 0)
same_found {D} law signers number (list ∷ found) (one ∷ opened) (state ∷ states) are stands =
    let same : number + 0 ≡ number = omega arith in
    let here : IsIn number one.desk state = subst (λ (n : ℕ). IsIn n one.desk state) same (stands 0) in
    let first : list ≡ state.commands = law number one.desk.records list state.commands are.0.are (records_of number one.desk state here) in
    let rest : found ≡ lists_of states = same_found law signers (suc number) found opened states are.1 (λ k.
    let next : number + suc k ≡ suc number + k = omega arith in
    subst (λ (n : ℕ). InAt n (slice_get (map desk_in opened) k) (slice_get states k)) next (stands (suc k))) in
    λ i. first i ∷ rest i

-- the records of a desk, if there is one
abbrev pub records_or : {D : Type 0} → Option (View D) → List (List ℕ)
records_or None = []
records_or (Some desk) = desk.records

-- the records of the desk at a place
pub record_at : {D : Type 0} (opened : List (CountedView D)) (k : ℕ) (desk : View D) → slice_get (map desk_in opened) k ≡ Some desk → get_or (map records_in opened) k [] ≡ desk.records
record_at [] k desk is = absurd (cc)
record_at (one ∷ opened) zero desk is = ap records_or is
record_at (one ∷ opened) (suc k) desk is = record_at opened k desk is
