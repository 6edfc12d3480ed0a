-- What is known of the desks' lists once all passes were joined and no other thread has the desks.
use Rattle.std.specs.Prelude.{◌≡◌, ◌<◌, ◌≤◌, ⊤, ℕ, List, [], ◌∷◌, length, get_or}
use mathlib.Core.List.{IsPrefix}
use Rattle.commit_word.specs.Entries.{Has, Rises, StandsIn}
use Rattle.commit_word.specs.Seats.{FollowerSeat}
use Rattle.desk_core.specs.View.{View}
use Rattle.manager.specs.Lists.{seat_at, IsListed, IsDoubted}

-- What was made stands in the list, at rising places; and it is each place from the recovered
-- ones on.
pub record IsAllMade (recovered : ℕ) (mine : List (ℕ × List ℕ)) (list : List (List ℕ)) : Type 0 where
  pub rises : Rises mine
  pub stands : StandsIn list mine
  pub all : (place : ℕ) → recovered ≤ place → place < length list → (entry : List ℕ) × Has mine place entry

-- The desk of that number. Its list begins with what the seat has seen, and the seat made all
-- behind the recovered commands.
pub record IsEndedDesk {D : Type 0} (number : ℕ) (seat : FollowerSeat) (desk : View D) : Type 0 where
  pub number_is : desk.number ≡ number
  pub begins : IsPrefix seat.seen desk.records
  pub made : IsAllMade seat.recovered seat.mine desk.records

-- So of each desk, by their numbers.
pub record AreEnded {D : Type 0} (seats : List FollowerSeat) (desks : List (View D)) : Type 0 where
  pub count : length desks ≡ length seats
  pub each : (number : ℕ) (desk : View D) → number < length desks
      → IsEndedDesk number (seat_at seats number) (get_or desks number desk)

-- A desk that comes out of its lock has commands whose names have their signers; and what is in doubt of
-- it is the record of a command that may stand next.
pub record IsLeftDesk {D : Type 0} (signers : ℕ) (desk : View D) : Type 0 where
  pub listed : IsListed signers desk
  pub doubted : IsDoubted desk

-- So of each of them.
abbrev pub AreLeftDesks : {D : Type 0} → ℕ → List (View D) → Type 0
AreLeftDesks signers [] = ⊤
AreLeftDesks signers (desk ∷ desks) = IsLeftDesk signers desk × AreLeftDesks signers desks
