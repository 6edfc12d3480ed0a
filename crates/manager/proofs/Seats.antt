-- The follower at a place, and what it has seen.
use Rattle.std.proofs.Common.{◌≡◌, ℕ, ◌<◌, List, length, get_or, ◌∙◌, ap, subst, arith}
use Rattle.std.specs.Prelude.{slice_set}
use Rattle.std.proofs.lemmas.List.{get_or-set_same, get_or_default, length-set}
use mathlib.Core.List.{IsPrefix}
use Rattle.commit_word.specs.Seats.{FollowerSeat}
use Rattle.manager.specs.Lists.{no_seat, seat_at}

-- the follower that is read at a place is the one at that place
pub read_at : (seats all : List FollowerSeat) (place : ℕ) (was : FollowerSeat) → all ≡ seats → place < length seats → was ≡ get_or all place was → was ≡ seat_at seats place
read_at seats all place was same within read =
    read ∙ (ap (λ (l : List FollowerSeat). get_or l place was) same ∙ get_or_default seats place was no_seat within)

-- it has seen these records
abbrev pub seen_at : List FollowerSeat → ℕ → List (List ℕ) → List FollowerSeat
seen_at seats place records = slice_set seats place (record (seat_at seats place) { seen = records })

pub set_at : (seats all : List FollowerSeat) (place : ℕ) (was next : FollowerSeat) (records : List (List ℕ)) → all ≡ seats → place < length seats → was ≡ get_or all place was
    → next ≡ record was { seen = records } → slice_set all place next ≡ seen_at seats place records
set_at seats all place was next records same within read told =
    ap (λ (l : List FollowerSeat). slice_set l place next) same
    ∙ ap (λ (s : FollowerSeat). slice_set seats place s) (told ∙ ap (λ (s : FollowerSeat). record s { seen = records }) (read_at seats all place was same within read))

pub grows_at : (seats all : List FollowerSeat) (place : ℕ) (was next : FollowerSeat) (records : List (List ℕ)) → all ≡ seats → place < length seats → was ≡ get_or all place was
    → next ≡ record was { seen = records } → IsPrefix was.seen next.seen → IsPrefix (seat_at seats place).seen records
grows_at seats all place was next records same within read told grows =
    subst (λ (s : FollowerSeat). IsPrefix s.seen records) (read_at seats all place was same within read)
    (subst (λ (s : FollowerSeat). IsPrefix was.seen s.seen) told grows)

module _ (seats now : List FollowerSeat) (place : ℕ) (records : List (List ℕ)) (within : place < length seats) (set : now ≡ seen_at seats place records) where
  -- then it has seen them
  pub seen_then : (seat_at now place).seen ≡ records
  seen_then =
      ap (λ (l : List FollowerSeat). (seat_at l place).seen) set
      ∙ ap (λ (s : FollowerSeat). s.seen) (get_or-set_same seats place (record (seat_at seats place) { seen = records }) no_seat within)

  pub still_within : place < length now
  still_within =
      let long = ap length set ∙ length-set seats place (record (seat_at seats place) { seen = records }) in
      omega (arith, within, long)
