-- What contracts see of a seat at a word.
use Rattle.std.specs.Prelude.{ℕ, List, Option}
use Rattle.atomic_table.specs.Seated.{TableId}

-- The owner: which word it is a seat of, how many entries were recovered, the list, the entries of it
-- that the owner made, and the entry that is set aside to come next
pub record OwnerSeat : Type 0 where
  pub word : TableId
  pub recovered : ℕ
  pub seen : List (List ℕ)
  pub mine : List (ℕ × List ℕ)
  pub coming : Option (List ℕ)

-- A follower: which word it is a seat of, how many entries were recovered, what it has seen of the
-- list, and the entries that it made
pub record FollowerSeat : Type 0 where
  pub word : TableId
  pub recovered : ℕ
  pub seen : List (List ℕ)
  pub mine : List (ℕ × List ℕ)

-- a follower that has seen what the owner has, and made these entries
abbrev pub follower_seat : OwnerSeat → List (ℕ × List ℕ) → FollowerSeat
follower_seat o mine = record { word = o.word; recovered = o.recovered; seen = o.seen; mine = mine }
