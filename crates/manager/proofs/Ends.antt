-- What desks and press come to, once no other thread has them.
use Rattle.std.specs.Prelude.{Bool, Result, IfErr}
use Rattle.std.specs.Prelude.{Some, slice_get}
use Rattle.std.proofs.Common.{◌≡◌, ℕ, zero, suc, ◌≤◌, List, [], ◌∷◌, ◌++◌, length, get_or, sym, ◌∙◌, subst, arith}
use Rattle.std.proofs.lemmas.Option.{none-some, slice_get_within, get_or_from_slice_get}
use mathlib.Core.List.{IsPrefix}
use Rattle.disk_api.specs.declared.disk.Disk.{Ghosts as DiskGhosts}
use Rattle.outlet_api.specs.declared.outlet.Outlet.{Ghosts as OutletGhosts}
use Rattle.outlet_api.specs.declared.exports.ExportFault.{ExportFault}
use Rattle.signer_api.specs.State.{SignerState}
use Rattle.authority_book.specs.declared.commands.Command.{Command}
use Rattle.commit_word.specs.Seats.{FollowerSeat}
use Rattle.desk_core.specs.View.{View}
use Rattle.notice_board.specs.declared.shown.ShownEdition.{ShownEdition}
use Rattle.editions.specs.Edition.{cut_at}
use Rattle.manager.specs.Named.{Named}
use Rattle.manager.specs.Lists.{AreSeen, seat_at}
use Rattle.manager.specs.Passes.{KnowsMore}
use Rattle.manager.specs.Run.{editions_of}
use Rattle.manager.specs.Locked.{LockedValue}
use Rattle.manager.specs.Closing.{IsClosed}
use Rattle.manager.specs.Answers.{IsRepeated}
use Rattle.manager.specs.Risen.{IsRisenPress, IsExportRise}
use Rattle.manager.specs.Ended.{IsAllMade, AreEnded}
use Rattle.manager.specs.Ends.{IsHeld, HaveSeen, AreEnds}
use Rattle.manager.specs.inner.Gathering.{SeeAlike}
use Rattle.manager.proofs.Since.{long_at}
use Rattle.manager.proofs.More.{held_at}
use Rattle.manager.proofs.Over.{over}
use Rattle.manager.proofs.Knowing.{prefix_on}
use Rattle.manager.proofs.Gathering.{prefix_long}

-- what was seen before the end, and made
pub ended_before : {D : Type 0} (old new : List FollowerSeat) (desks : List (View D)) → KnowsMore old new → AreEnded new desks → AreEnded old desks
ended_before old new desks more are = record {
  count = are.count ∙ more.count;
  each = λ number desk below.
      let is = are.each number desk below in
      let list : List (List ℕ) = (get_or desks number desk).records in
      record {
        number_is = is.number_is;
        begins = prefix_on (seat_at old number).seen (seat_at new number).seen list (more.each number).grows is.begins;
        made = subst (λ (s : FollowerSeat). IsAllMade s.recovered s.mine list) (more.each number).rest is.made;
      };
}

-- each desk's list begins with what its follower has seen
pub they_begin : {D : Type 0} (seats pass : List FollowerSeat) (desks : List (View D)) → SeeAlike seats pass → AreEnded pass desks → HaveSeen seats desks
they_begin seats pass desks alike are place desk there =
    let begins : IsPrefix (seat_at pass place).seen (get_or desks place desk).records = (are.each place desk (slice_get_within desks place desk there)).begins in
    let same : get_or desks place desk ≡ desk = get_or_from_slice_get desks place desk desk there in
    subst (λ (d : View _). IsPrefix (seat_at seats place).seen d.records) same
    (subst (λ (l : List (List ℕ)). IsPrefix l (get_or desks place desk).records) (sym (alike place)) begins)

module _ {D : Type 0} (signers : ℕ) (lists : List (List Command)) (seats : List FollowerSeat) (desks : List (View D)) (seen : AreSeen signers lists seats) (begin : HaveSeen seats desks) where
  -- what no list passes, no desk's list does
  pub held : (cut : List ℕ) → ((desk : ℕ) → cut_at cut desk ≤ length (get_or lists desk [])) → IsHeld desks cut
  held cut taken place desk there =
      let long = long_at signers 0 lists seats place seen in
      let more = prefix_long (seat_at seats place).seen desk.records (begin place desk there) in
      let within = taken place in
      omega (arith, long, more, within)

get_front : {X : Type 0} (xs rest : List X) (place : ℕ) (x : X) → slice_get xs place ≡ Some x → slice_get (xs ++ rest) place ≡ Some x
get_front [] rest place x is = absurd (none-some x is)
get_front (y ∷ xs) rest zero x is = is
get_front (y ∷ xs) rest (suc place) x is = get_front xs rest place x is

pub ends_are : {D O : Type 0} (disk_of : DiskGhosts D) (outlet_of : OutletGhosts O) (named : Named) (locked : LockedValue D O) (shown : List ShownEdition) (desks : List (View D)) (disk : D) (ring : List SignerState) (outlet : O) (repeated : Result Bool (ExportFault O))
    → IsClosed disk_of outlet_of named locked → IsPrefix shown locked.board.shown → HaveSeen locked.seats desks → disk ≡ locked.press.journal.disk → ring ≡ locked.press.press.ring → outlet ≡ locked.outlet
    → IsRepeated locked.press.press.last_export locked.press.press.at.serial repeated → IfErr repeated (IsExportRise named.faults.outlet (outlet_of.fault_count locked.outlet)) → IsRisenPress disk_of outlet_of named locked.press.journal locked.outlet
    → AreEnds disk_of outlet_of named shown desks disk ring outlet repeated
ends_are disk_of outlet_of named locked shown desks disk ring outlet repeated closed told begin disk_is ring_is outlet_is again cause faults =
    let is = over outlet_of named locked closed.is in
    let hold = held (length named.signers) closed.is.lists locked.seats desks is.seen begin in
    record {
      locked = locked;
      closed = closed;
      disk_is = disk_is;
      ring_is = ring_is;
      outlet_is = outlet_is;
      exported = again;
      cause = subst (λ (o : _). IfErr repeated (IsExportRise named.faults.outlet (outlet_of.fault_count o))) (sym outlet_is) cause;
      faults = faults;
      shown = told;
      seen = begin;
      stands = hold locked.press.press.at.cut is.made.left.taken_in;
      run = λ k d below. hold (get_or closed.is.run k d).edition.cut (held_at closed.is.lists closed.is.editions closed.is.run k d below is.made.after);
      found = λ editions vouched there steps all place edition at.
          let stands = ((closed.is.each editions there).made.sound vouched all steps).stands in
          hold edition.cut ((stands.steps place edition (get_front editions (editions_of closed.is.run) place edition at)).1.cut.held);
      doubt = λ editions entry doubted. hold doubted.prepared.next.cut doubted.left.taken_in;
    }
