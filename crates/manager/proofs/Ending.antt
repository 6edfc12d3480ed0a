-- The desks out of their locks, the last first.
use Rattle.std.proofs.Common.{◌≡◌, ℕ, zero, suc, ◌+◌, ◌<◌, List, [], ◌∷◌, ◌++◌, length, take, get_or, reverse, sym, ap, ◌∙◌, subst, arith}
use Rattle.std.specs.Prelude.{Some, slice_get}
use Rattle.std.proofs.lemmas.Option.{slice_get-get_or}
use Rattle.std.proofs.lemmas.List.{reverse-append}
use Rattle.atomic_table.specs.Seated.{TableId}
use Rattle.commit_word.specs.Seats.{FollowerSeat}
use Rattle.desk_core.specs.View.{View}
use Rattle.manager.specs.Named.{Named}
use Rattle.manager.specs.Lists.{seat_at, no_seat, no_word}
use Rattle.manager.specs.Passes.{AreSeatsOf}
use Rattle.manager.specs.inner.AtPlaces.{AreWords}
use Rattle.manager.specs.Ended.{IsEndedDesk, AreEnded}
use Rattle.manager.proofs.Seating.{popped}

-- those from a number on
pub record EndedFrom {D : Type 0} (from : ℕ) (seats : List FollowerSeat) (desks : List (View D)) : Type 0 where
  pub count : length desks + from ≡ length seats
  pub each : (k : ℕ) (desk : View D) → k < length desks → IsEndedDesk (from + k) (seat_at seats (from + k)) (get_or desks k desk)

pub ended_start : {D : Type 0} (seats : List FollowerSeat) (desks : List (View D)) → desks ≡ [] → EndedFrom (length seats) seats (reverse desks)
ended_start seats desks none = subst (λ (l : List (View _)). EndedFrom (length seats) seats (reverse l)) (sym none)
    (record { count = omega arith; each = λ k desk below. absurd (omega (arith, below)) })

ended_more : {D : Type 0} (from : ℕ) (seats : List FollowerSeat) (desks : List (View D)) (desk : View D) → EndedFrom (from + 1) seats desks → IsEndedDesk from (seat_at seats from) desk
    → (k : ℕ) (d : View D) → k < length (desk ∷ desks) → IsEndedDesk (from + k) (seat_at seats (from + k)) (get_or (desk ∷ desks) k d)
ended_more from seats desks desk is here zero d below = subst (λ (n : ℕ). IsEndedDesk n (seat_at seats n) desk) (omega arith) here
ended_more from seats desks desk is here (suc k) d below =
    subst (λ (n : ℕ). IsEndedDesk n (seat_at seats n) (get_or desks k d)) (omega arith) (is.each k d (omega (arith, below)))

pub ended_next : {D : Type 0} (from : ℕ) (seats : List FollowerSeat) (desks : List (View D)) (desk : View D) → EndedFrom (from + 1) seats (reverse desks) → IsEndedDesk from (seat_at seats from) desk
    → EndedFrom from seats (reverse (desks ++ desk ∷ []))
ended_next from seats desks desk is here = subst (λ (l : List (View _)). EndedFrom from seats l) (sym (reverse-append desks (desk ∷ [])))
    (record { count = let rest = is.count in omega (arith, rest); each = ended_more from seats (reverse desks) desk is here })

pub ended_all : {D : Type 0} (seats : List FollowerSeat) (desks : List (View D)) → EndedFrom 0 seats desks → AreEnded seats desks
ended_all seats desks is = record {
  count = let all = is.count in omega (arith, all);
  each = λ number desk below. subst (λ (n : ℕ). IsEndedDesk n (seat_at seats n) (get_or desks number desk)) (omega arith) (is.each number desk below);
}

-- ---- the last of each list

-- the word that is popped
pub word_popped : (words : ℕ → TableId) (all old new : List TableId) (word : TableId) → AreWords words all → old ≡ take (length old) all → old ≡ new ++ word ∷ [] → word ≡ words (length new)
word_popped words all old new word are front items =
    let last = popped all old new word front items in
    let there : slice_get all (length new) ≡ Some word =
    slice_get-get_or all (length new) no_word last.2 ∙ ap (λ (w : TableId). Some w) (sym (last.1 no_word)) in
    are (length new) word there

-- the seat that is popped
pub seat_popped : (words : ℕ → TableId) (named : Named) (all old new : List FollowerSeat) (seat : FollowerSeat) → AreSeatsOf words named all → old ≡ take (length old) all → old ≡ new ++ seat ∷ [] → seat.word ≡ words (length new)
seat_popped words named all old new seat are front items =
    let last = popped all old new seat front items in
    ap (λ (s : FollowerSeat). s.word) (last.1 no_seat) ∙ (are (length new) last.2).word

-- one desk more
pub ended_popped : {D : Type 0} (seats old new : List FollowerSeat) (seat : FollowerSeat) (desks : List (View D)) (desk : View D) → old ≡ take (length old) seats → old ≡ new ++ seat ∷ []
    → EndedFrom (length old) seats (reverse desks) → IsEndedDesk (length new) seat desk → EndedFrom (length new) seats (reverse (desks ++ desk ∷ []))
ended_popped seats old new seat desks desk front items is here =
    let last = popped seats old new seat front items in
    ended_next (length new) seats desks desk
    (subst (λ (n : ℕ). EndedFrom n seats (reverse desks)) last.3 is)
    (subst (λ (s : FollowerSeat). IsEndedDesk (length new) s desk) (last.1 no_seat) here)
