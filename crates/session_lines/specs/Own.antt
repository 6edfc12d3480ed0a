-- What a session made: the commands of its lines that were accepted.
use Rattle.std.specs.Prelude.{◌≡◌, ◌≢◌, ◌⊎◌, ◌+◌, ℕ, Bool, true, false, List, [], ◌∷◌, ◌++◌, Some, Result, Ok, length}
use mathlib.Core.List.{IsPrefix}
use Rattle.commit_word.specs.Entries.{Rises, IsPast}
use Rattle.commit_word.specs.Seats.{FollowerSeat}
use Rattle.authority_book.specs.declared.commands.Command.{Command}
use Rattle.cmd_codec.specs.Spelling.{spelling}
use Rattle.line_loop.specs.Lines.{all_lines, ended_lines}
use Rattle.line_loop.specs.declared.session.SessionEnd.{SessionEnd}
use Rattle.line_loop.specs.declared.session.SessionEnd.TheVariants.{SinkFault, Memory}
use Rattle.json_api.specs.Line.{ReadsLine}
use Rattle.json_api.specs.Reply.{accepted_spelling, refusal_spelling}
use Rattle.json_api.specs.declared.line.Line.{Line}
use Rattle.json_api.specs.declared.line.Line.TheVariants as said
use Rattle.json_api.specs.declared.line.LineFault.{LineFault}
use Rattle.manager.specs.Lists.{seat_at}
use Rattle.manager.specs.Passes.{anchor_desk, IsNamed}
use Rattle.session_lines.specs.Replies.{IsBlank}

-- The number of a desk, a place of its list, and the record of a command that was made there.
pub record OwnCommand : Type 0 where
  pub desk : ℕ
  pub place : ℕ
  pub entry : List ℕ

-- The line is this command, and its reply says that it is accepted behind so many others. The desk is
-- that of the authority which has the name, by what was known of the tree's names then; more of the
-- anchor's list may be known now.
pub record IsAcceptedOwn (line reply : List ℕ) (now : List FollowerSeat) (own : OwnCommand)
    : Type 0 where
  pub name : List ℕ
  pub command : Command
  pub says : ReadsLine line (Ok (said.Command name command))
  pub reply_is : reply ≡ accepted_spelling name (own.place + 1) ++ 10 ∷ []
  pub entry_is : own.entry ≡ spelling command
  pub known : List FollowerSeat
  pub named : IsNamed known name (Some own.desk)
  pub front : IsPrefix (seat_at known anchor_desk).seen (seat_at now anchor_desk).seen

-- ---- a line that makes nothing

abbrev pub is_command : Result Line LineFault → Bool
is_command (Ok (said.Command name command)) = true
is_command other = false

-- The line is read as something else than a command, or as nothing.
pub record IsNoCommand (line : List ℕ) : Type 0 where
  pub says : Result Line LineFault
  pub reads : ReadsLine line says
  pub other : is_command says ≡ false

-- The reply says why something is refused.
pub record IsRefusalReply (reply : List ℕ) : Type 0 where
  pub code : ℕ
  pub detail : List ℕ
  pub refusal : List ℕ
  pub reply_is : reply ≡ refusal_spelling code detail refusal ++ 10 ∷ []

-- The line is blank, and gets no reply; or it is no command; or it is refused.
abbrev pub MakesNothing : List ℕ → List ℕ → Type 0
MakesNothing line reply =
    (IsBlank line × (reply ≡ [])) ⊎ IsNoCommand line ⊎ IsRefusalReply reply

-- ---- lines

-- A line makes one command, which its reply says is accepted; or none.
abbrev pub IsOwnOf : List ℕ → List ℕ → List FollowerSeat → List OwnCommand → Type 0
IsOwnOf line reply now made = ((made ≡ []) × MakesNothing line reply)
    ⊎ ((own : OwnCommand) × (made ≡ own ∷ []) × IsAcceptedOwn line reply now own)

-- These were made by the lines, in their order.
abbrev pub AreOwnOf : List (List ℕ) → List ℕ → List FollowerSeat → List OwnCommand → Type 0
AreOwnOf [] replies now made = (replies ≡ []) × (made ≡ [])
AreOwnOf (line ∷ lines) replies now made = (reply : List ℕ) × (rest : List ℕ)
    × (first : List OwnCommand) × (more : List OwnCommand)
    × (replies ≡ reply ++ rest) × (made ≡ first ++ more)
    × IsOwnOf line reply now first × AreOwnOf lines rest now more

-- What of these was made of a desk, each with its place.
abbrev pub AreMadeAt : ℕ → List OwnCommand → List (ℕ × List ℕ) → Type 0
AreMadeAt desk [] mine = mine ≡ []
AreMadeAt desk (own ∷ made) mine =
    ((rest : List (ℕ × List ℕ)) × (own.desk ≡ desk) × (mine ≡ (own.place, own.entry) ∷ rest)
    × AreMadeAt desk made rest)
    ⊎ ((own.desk ≢ desk) × AreMadeAt desk made mine)

-- Of each desk just these were made.
abbrev pub GrowsBy : List OwnCommand → List FollowerSeat → List FollowerSeat → Type 0
GrowsBy made old new = (desk : ℕ) → (mine : List (ℕ × List ℕ)) × AreMadeAt desk made mine
    × ((seat_at new desk).mine ≡ (seat_at old desk).mine ++ mine)

-- The commands that were made are those of the lines that were accepted.
pub record MakesOwn (lines : List (List ℕ)) (replies : List ℕ) (old new : List FollowerSeat)
    : Type 0 where
  pub made : List OwnCommand
  pub own : AreOwnOf lines replies new made
  pub grows : GrowsBy made old new

-- ---- over a session

-- The last of these lines made one command, which was accepted.
pub record MakesLast (lines : List (List ℕ)) (old new : List FollowerSeat) : Type 0 where
  pub before : List (List ℕ)
  pub line : List ℕ
  pub is_last : lines ≡ before ++ line ∷ []
  pub reply : List ℕ
  pub own : OwnCommand
  pub accepted : IsAcceptedOwn line reply new own
  pub grows : GrowsBy (own ∷ []) old new

-- Nothing was made; but where the sink failed, or found no memory, the last of these lines may have made
-- one command.
abbrev pub MakesOneMore : SessionEnd → List (List ℕ) → List FollowerSeat → List FollowerSeat → Type 0
MakesOneMore SinkFault lines old new = GrowsBy [] old new ⊎ MakesLast lines old new
MakesOneMore Memory lines old new = GrowsBy [] old new ⊎ MakesLast lines old new
MakesOneMore other lines old new = GrowsBy [] old new

-- What was made of a desk stands at rising places, behind all that was seen of the desk before.
pub record MakesRising (old new : FollowerSeat) : Type 0 where
  pub mine : List (ℕ × List ℕ)
  pub made : new.mine ≡ old.mine ++ mine
  pub rises : Rises mine
  pub past : IsPast (length old.seen) mine

-- Of the lines that came, the first were answered with these replies, which stand whole at the front of
-- what was written; those behind them were answered too, but their replies may not have been written.
-- What the first made was made, and at most one command more, that of the last; of each desk at rising
-- places.
pub record SessionMakes (end : SessionEnd) (given written : List ℕ) (old new : List FollowerSeat)
    : Type 0 where
  pub heard : List (List ℕ)
  pub unheard : List (List ℕ)
  pub came : IsPrefix (heard ++ unheard) (all_lines given)
      ⊎ IsPrefix (heard ++ unheard) (ended_lines given)
  pub replies : List ℕ
  pub taken : IsPrefix replies written
  pub between : List FollowerSeat
  pub own : MakesOwn heard replies old between
  pub last : MakesOneMore end unheard between new
  pub rises : (desk : ℕ) → MakesRising (seat_at old desk) (seat_at new desk)
