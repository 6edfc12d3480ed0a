-- What a locked press learns of a desk, and how far its last edition goes.
use Rattle.std.proofs.Common.{◌≡◌, ℕ, suc, ◌<◌, ◌≤◌, List, [], ◌∷◌, map, length, refl, ap, subst, arith}
use Rattle.std.specs.Prelude.{All, slice_set}
use mathlib.Core.List.{IsPrefix}
use Rattle.outlet_api.specs.declared.outlet.Outlet.{Ghosts as OutletGhosts}
use Rattle.authority_book.specs.declared.commands.Command.{Command}
use Rattle.authority_book.specs.declared.rows.NameRow.{NameRow}
use Rattle.authority_book.specs.Settings.{Settings}
use Rattle.commit_word.specs.Seats.{FollowerSeat}
use Rattle.desk_core.specs.View.{View}
use Rattle.notice_board.specs.Seats.{BoardSeat}
use Rattle.editions.specs.Edition.{cut_at}
use Rattle.press_core.specs.Stored.{StoredValue}
use Rattle.manager.specs.Named.{Named}
use Rattle.manager.specs.Lists.{IsListOf, AreListsOf, IsListed, seat_at}
use Rattle.manager.specs.Locked.{IsLocked}
use Rattle.manager.proofs.Since.{long_at}
use Rattle.manager.proofs.Kept.{lock}
use Rattle.manager.proofs.Over.{over}
use Rattle.manager.proofs.Seats.{seen_at}
use Rattle.manager.proofs.More.{OneList, MoreLeft, MoreStand, StayPublished, locked_more}

-- the desk's records are those of its commands
pub listed_of : {D : Type 0} (signers place : ℕ) (desk : View D) → desk.number ≡ place → (is : IsListed signers desk) → IsListOf signers place is.commands desk.records
listed_of signers place desk at is =
    subst (λ (n : ℕ). IsListOf signers n is.commands desk.records) at (record {
      are = is.has.recorded;
      signed = subst (λ (s : Settings). All (λ (name : NameRow). name.signer < signers) s.names) is.has.fold is.signed;
    })

pub seen_long : (signers number : ℕ) (lists : List (List Command)) (seats : List FollowerSeat) → AreListsOf signers number lists (map (λ (seat : FollowerSeat). seat.seen) seats) → length lists ≡ length seats
seen_long signers number [] [] are = refl
seen_long signers number [] (seat ∷ seats) are = absurd are
seen_long signers number (list ∷ lists) [] are = absurd are
seen_long signers number (list ∷ lists) (seat ∷ seats) are = ap suc (seen_long signers (suc number) lists seats are.1)

module _ {D O : Type 0} (outlet_of : OutletGhosts O) (named : Named) (press : StoredValue D) (seats : List FollowerSeat) (board : BoardSeat) (outlet : O) (place : ℕ) (within : place < length seats)
    (is : IsLocked outlet_of named (lock press seats board outlet)) where
  -- once the follower has seen the whole list of the desk
  pub learned : OneList → MoreLeft → MoreStand → StayPublished → (desk : View D) → desk.number ≡ place → IsListed (length named.signers) desk → IsPrefix (seat_at seats place).seen desk.records
      → IsLocked outlet_of named (lock press (seen_at seats place desk.records) board outlet)
  learned one more_left more_stand stay desk at listed grows = record {
    lists = slice_set is.lists place listed.commands;
    run = is.run;
    calls = is.calls;
    editions = is.editions;
    found = is.found;
    each = λ editions found. locked_more one more_left more_stand stay outlet_of named editions is.lists is.run is.calls press seats board outlet place (record (seat_at seats place) { seen = desk.records }) listed.commands
        within grows (listed_of (length named.signers) place desk at listed) (is.each editions found);
  }

  -- the cut has a number for the desk
  pub cut_within : place < length press.press.at.cut
  cut_within =
      let long = seen_long (length named.signers) 0 is.lists seats (over outlet_of named (lock press seats board outlet) is).seen in
      let one_each = (over outlet_of named (lock press seats board outlet) is).made.left.desks in
      omega (arith, within, long, one_each)

  -- it takes in no more than the follower has seen
  pub cut_held : cut_at press.press.at.cut place ≤ length (seat_at seats place).seen
  cut_held =
      let seen = long_at (length named.signers) 0 is.lists seats place (over outlet_of named (lock press seats board outlet) is).seen in
      let held = (over outlet_of named (lock press seats board outlet) is).made.left.taken_in place in
      omega (arith, seen, held)
