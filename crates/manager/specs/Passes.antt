-- What a pass knows: a part of each desk's list, which of its entries were made with this pass,
-- and the editions that it has seen.
use Rattle.std.specs.Prelude.{◌≡◌, ◌+◌, ◌<◌, ℕ, List, [], map, length, Option, get_or}
use mathlib.Core.List.{IsPrefix}
use Rattle.atomic_table.specs.Seated.{TableId}
use Rattle.commit_word.specs.Entries.{ShareNoPlace, joined, longer}
use Rattle.commit_word.specs.Seats.{FollowerSeat}
use Rattle.authority_book.specs.declared.commands.Command.{Command}
use Rattle.authority_book.specs.Settings.{Settings}
use Rattle.authority_book.specs.Listed.{place_of}
use Rattle.authority_book.specs.Fold.{fold_of}
use Rattle.desk_core.specs.Commands.{Records}
use Rattle.notice_board.specs.declared.shown.ShownEdition.{ShownEdition}
use Rattle.manager.specs.Named.{Named}
use Rattle.manager.specs.Lists.{seat_at, IsListOf}

-- A seat at each desk's word, by the desks' numbers; the editions that were seen; and how many
-- more passes can be split off, each with a viewer of its own.
pub record PassValue : Type 0 where
  pub seats : List FollowerSeat
  pub shown : List ShownEdition
  pub places : ℕ

-- ---- what is known of a desk

-- The desk of the trust anchor, which has the names of the tree.
abbrev pub anchor_desk : ℕ
anchor_desk = 0

-- These are the desk's commands, as far as its list was seen.
abbrev pub Knows : List FollowerSeat → ℕ → List Command → Type 0
Knows seats desk commands = Records desk (seat_at seats desk).seen commands

-- And this is what they come to.
pub record ComesTo (seats : List FollowerSeat) (desk : ℕ) (settings : Settings) : Type 0 where
  pub commands : List Command
  pub known : Knows seats desk commands
  pub fold : settings ≡ fold_of desk commands

-- The desk of the authority of that name, by what is known of the anchor's desk; or no authority
-- has it.
pub record IsNamed (seats : List FollowerSeat) (name : List ℕ) (desk : Option ℕ) : Type 0 where
  pub settings : Settings
  pub known : ComesTo seats anchor_desk settings
  pub place : place_of settings.names name ≡ desk

-- ---- what is learned

-- No less of the list was seen, and nothing was made.
pub record IsMore (old new : FollowerSeat) : Type 0 where
  pub grows : IsPrefix old.seen new.seen
  pub rest : new ≡ record old { seen = new.seen }

-- So of each desk.
pub record KnowsMore (old new : List FollowerSeat) : Type 0 where
  pub count : length new ≡ length old
  pub each : (desk : ℕ) → IsMore (seat_at old desk) (seat_at new desk)

-- And of the editions.
pub record HasLearned (old new : PassValue) : Type 0 where
  pub seats : KnowsMore old.seats new.seats
  pub shown : IsPrefix old.shown new.shown
  pub places : new.places ≡ old.places

-- ---- passes that are split off and joined

-- A seat that has seen the same, and made nothing.
abbrev pub unmade : FollowerSeat → FollowerSeat
unmade seat = record seat { mine = [] }

-- A pass that was split off another. Its viewer may have seen more.
pub record IsSplitOff (pass other : PassValue) : Type 0 where
  pub seats : other.seats ≡ map unmade pass.seats
  pub shown : IsPrefix pass.shown other.shown
  pub places : other.places ≡ 0

-- It has seen what either has, and has what both made; no place of the list was made by both.
pub record IsJoinedSeat (one other new : FollowerSeat) : Type 0 where
  pub both : new ≡ record one { seen = longer one.seen other.seen; mine = joined one.mine other.mine }
  pub grows : IsPrefix one.seen new.seen
  pub begins : IsPrefix other.seen new.seen
  pub apart : ShareNoPlace one.mine other.mine

-- So of each desk.
pub record AreJoined (one other new : List FollowerSeat) : Type 0 where
  pub count : length new ≡ length one
  pub each : (desk : ℕ) → IsJoinedSeat (seat_at one desk) (seat_at other desk) (seat_at new desk)

-- The places of both are left, and the one that the other had itself.
pub record IsJoined (one other new : PassValue) : Type 0 where
  pub seats : AreJoined one.seats other.seats new.seats
  pub grows : IsPrefix one.shown new.shown
  pub begins : IsPrefix other.shown new.shown
  pub places : new.places ≡ one.places + other.places + 1

-- ---- what a pass keeps

-- It is a seat at the desk's word, from the records on that were found there, and has seen the
-- records of commands of the desk.
pub record IsSeatOf (words : ℕ → TableId) (named : Named) (desk : ℕ) (seat : FollowerSeat)
    : Type 0 where
  pub word : seat.word ≡ words desk
  pub recovered : seat.recovered ≡ length (get_or named.records desk [])
  pub commands : List Command
  pub listed : IsListOf (length named.signers) desk commands seat.seen

-- So of each desk.
abbrev pub AreSeatsOf : (ℕ → TableId) → Named → List FollowerSeat → Type 0
AreSeatsOf words named seats =
    (desk : ℕ) → desk < length seats → IsSeatOf words named desk (seat_at seats desk)
