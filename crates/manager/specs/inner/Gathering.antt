-- What is gathered of the desks, as far as the press's followers have seen their lists.
use Rattle.std.specs.Prelude.{◌≡◌, ℕ, List, []}
use Rattle.authority_book.specs.declared.commands.Command.{Command}
use Rattle.commit_word.specs.Seats.{FollowerSeat}
use Rattle.desk_core.specs.Commands.{Records}
use Rattle.editions.specs.Edition.{cut_at}
use Rattle.editions.specs.declared.gathered.Gathered.{Gathered}
use Rattle.manager.specs.Lists.{seat_at}
use Rattle.manager.specs.Gathered.{IsSince}

abbrev pub no_group : Gathered
no_group = record { desk = 0; from = 0; commands = [] }

-- What a desk has behind the cut, where its follower has seen the whole list.
abbrev pub IsSinceSeen : List FollowerSeat → List ℕ → ℕ → Gathered → Type 0
IsSinceSeen seats cut desk group = (commands : List Command)
    → Records desk (seat_at seats desk).seen commands → IsSince desk commands (cut_at cut desk) group

-- Both have seen the same of a desk; and so of each.
abbrev pub SeeAlikeAt : List FollowerSeat → List FollowerSeat → ℕ → Type 0
SeeAlikeAt one other desk = (seat_at one desk).seen ≡ (seat_at other desk).seen

abbrev pub SeeAlike : List FollowerSeat → List FollowerSeat → Type 0
SeeAlike one other = (desk : ℕ) → SeeAlikeAt one other desk
