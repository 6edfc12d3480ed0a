-- What contracts see of a desk whose commands a word counts.
use Rattle.std.specs.Prelude.{ℕ, List, length}
use Rattle.atomic_table.specs.Seated.{TableId}
use Rattle.commit_word.specs.Seats.{FollowerSeat}
use Rattle.desk_core.specs.View.{View}

-- the desk, which word counts its commands, and how many were recovered when it was made
pub record CountedView (D : Type 0) : Type 0 where
  pub desk : View D
  pub word : TableId
  pub recovered : ℕ

-- the desk, whose commands this word begins to count
abbrev pub counted_view : {D : Type 0} → View D → TableId → CountedView D
counted_view desk word = record { desk = desk; word = word; recovered = length desk.records }

-- a follower that has seen all of the desk's records, and made these
abbrev pub follower_seat_of : {D : Type 0} → CountedView D → List (ℕ × List ℕ) → FollowerSeat
follower_seat_of counted mine = record {
  word = counted.word;
  recovered = counted.recovered;
  seen = counted.desk.records;
  mine = mine;
}
