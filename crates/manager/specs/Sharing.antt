-- What several passes know and made together: those of the sessions, and the one that they were
-- split off.
use Rattle.std.specs.Prelude.{◌≡◌, ◌≢◌, ◌≤◌, ◌<◌, ℕ, List, [], length, get_or}
use mathlib.Core.List.{IsPrefix}
use Rattle.commit_word.specs.Entries.{Has, ShareNoPlace, StandsIn}
use Rattle.commit_word.specs.Seats.{FollowerSeat}
use Rattle.desk_core.specs.View.{View}
use Rattle.manager.specs.Lists.{seat_at}
use Rattle.manager.specs.Passes.{PassValue}

abbrev pub no_pass : PassValue
no_pass = record { seats = []; shown = []; places = 0 }

-- The pass of that number.
abbrev pub pass_at : List PassValue → ℕ → PassValue
pass_at passes number = get_or passes number no_pass

-- Its seat at the word of a desk, and what was made of the desk with it.
abbrev pub seat_of : List PassValue → ℕ → ℕ → FollowerSeat
seat_of passes number desk = seat_at (pass_at passes number).seats desk

abbrev pub made_with : List PassValue → ℕ → ℕ → List (ℕ × List ℕ)
made_with passes number desk = (seat_of passes number desk).mine

-- A pass that all of them were joined into: it has seen what each has, and has what they made and
-- no more. No place of a desk's list was made with two of them.
pub record IsOfAll (passes : List PassValue) (joined : PassValue) : Type 0 where
  pub count : length joined.seats ≡ length (pass_at passes 0).seats
  pub recovered : (desk : ℕ)
      → (seat_at joined.seats desk).recovered ≡ (seat_of passes 0 desk).recovered
  pub seen : (number desk : ℕ)
      → IsPrefix (seat_of passes number desk).seen (seat_at joined.seats desk).seen
  pub shown : (number : ℕ) → IsPrefix (pass_at passes number).shown joined.shown
  pub made : (desk place : ℕ) (entry : List ℕ) → Has (seat_at joined.seats desk).mine place entry
      → (number : ℕ) × Has (made_with passes number desk) place entry
  pub all : (number desk place : ℕ) (entry : List ℕ)
      → Has (made_with passes number desk) place entry
      → Has (seat_at joined.seats desk).mine place entry
  pub apart : (one other desk : ℕ) → one ≢ other
      → ShareNoPlace (made_with passes one desk) (made_with passes other desk)

-- The entry at this place of the desk's list was made with the pass of that number, and with no
-- other.
pub record IsMadeOnce (passes : List PassValue) (desk place : ℕ) : Type 0 where
  pub number : ℕ
  pub entry : List ℕ
  pub made : Has (made_with passes number desk) place entry
  pub alone : (other : ℕ) (entry : List ℕ) → Has (made_with passes other desk) place entry
      → other ≡ number

-- The desk of that number, in the end. Its list begins with what each pass has seen, and has what
-- was made with each; and each entry behind those that were recovered was made once.
pub record IsSharedDesk {D : Type 0} (number : ℕ) (passes : List PassValue) (desk : View D)
    : Type 0 where
  pub number_is : desk.number ≡ number
  pub begins : (pass : ℕ) → IsPrefix (seat_of passes pass number).seen desk.records
  pub stands : (pass : ℕ) → StandsIn desk.records (made_with passes pass number)
  pub once : (place : ℕ) → (seat_of passes 0 number).recovered ≤ place → place < length desk.records
      → IsMadeOnce passes number place

-- So of each desk, by their numbers.
pub record AreShared {D : Type 0} (passes : List PassValue) (desks : List (View D)) : Type 0 where
  pub count : length desks ≡ length (pass_at passes 0).seats
  pub each : (number : ℕ) (desk : View D) → number < length desks
      → IsSharedDesk number passes (get_or desks number desk)
