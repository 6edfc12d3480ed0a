use Rattle.std.proofs.Common.{◌≤◌, ◌<◌, ◌^◌, ◌++◌, ◌∙◌, [], ◌∷◌, ℕ, List, None, length, sym, ap, subst}
use Rattle.std.specs.Option.{option_map}
use mathlib.Core.List.{IsPrefix}
use Rattle.disk_api.specs.Runs.{LeavesOnly}
use Rattle.gate_journal.specs.Format.{held_by}
use Rattle.gate_journal.specs.Storing.{stored, entry_bytes}
use Rattle.gate_journal.specs.View.{stake_of}
use Rattle.authority_book.specs.declared.commands.Command.{Command}
use Rattle.cmd_codec.specs.Spelling.{spelling}
use Rattle.commit_word.specs.Entries.{Has}
use Rattle.commit_word.specs.Seats.{FollowerSeat, OwnerSeat}
use Rattle.desk_core.specs.Answers.{CanCommit, IsDeskFault}
use Rattle.desk_core.specs.Commands.{HasCommands}
use Rattle.desk_core.specs.Counted.{CountedView}
use Rattle.desk_core.specs.Images.{RecoversToKnown}
use Rattle.desk_core.proofs.Words.{prefix_trans, prefix_more, room_left, refused_records}
use Rattle.desk_core.proofs.counted.CountedDesk.commit.Goals as goal

pub count_record-requires-clause-none : goal.count_record-requires-clause-none
count_record-requires-clause-none g c = ap (λ (o : OwnerSeat). o.coming) c.tell_whole.ensures.same ∙ c.self.invariant.1

pub count_record-requires-clause-room : goal.count_record-requires-clause-room
count_record-requires-clause-room g c =
    subst (λ (l : List (List ℕ)). length l < 2 ^ 63) (sym (ap (λ (o : OwnerSeat). o.seen) c.tell_whole.ensures.same ∙ c.self.invariant.0))
    (room_left c.self.inside.desk c.args.command c.args.signers c.in-Ok.ensures.place)

pub count_record-requires-clause-seen : goal.count_record-requires-clause-seen
count_record-requires-clause-seen g c = ap (λ (f : FollowerSeat). f.seen) c.tell_whole.ensures.told ∙ sym (ap (λ (o : OwnerSeat). o.seen) c.tell_whole.ensures.same)

pub count_record-requires-clause-near : goal.count_record-requires-clause-near
count_record-requires-clause-near g c place entry h =
    subst (λ (o : OwnerSeat). place ≤ length o.seen) (sym c.tell_whole.ensures.same)
    (c.tell_whole.ensures.near place entry (subst (λ (f : FollowerSeat). Has f.mine place entry) c.tell_whole.ensures.told h))

-- ---- an accepted command

pub invariant_of-self : goal.invariant_of-self
invariant_of-self g c =
    let counted = c.count_record.ensures.counted in
    let acc : List ℕ = spelling c.of-accepted.result.value in (
      ap (λ (o : OwnerSeat). o.seen) counted
          ∙ (ap (λ (o : OwnerSeat). o.seen ++ acc ∷ []) c.tell_whole.ensures.same
          ∙ (ap (λ (l : List (List ℕ)). l ++ acc ∷ []) c.self.invariant.0
          ∙ (ap (λ (command : Command). c.self.inside.desk.records ++ spelling command ∷ []) c.of-accepted.ensures
          ∙ sym c.in-Ok.ensures.recorded))),
      ap (λ (o : OwnerSeat). o.coming) counted ∙ (ap (λ (o : OwnerSeat). o.coming) c.tell_whole.ensures.same ∙ c.self.invariant.1),
    )

pub returns-in-Ok-clause-seen : goal.returns-in-Ok-clause-seen
returns-in-Ok-clause-seen g c =
    let acc : List ℕ = spelling c.of-accepted.result.value in
    ap (λ (f : FollowerSeat). f.seen) c.count_record.ensures.made
    ∙ (ap (λ (o : OwnerSeat). o.seen ++ acc ∷ []) c.tell_whole.ensures.same
    ∙ (ap (λ (l : List (List ℕ)). l ++ acc ∷ []) c.self.invariant.0
    ∙ (ap (λ (command : Command). c.self.inside.desk.records ++ spelling command ∷ []) c.of-accepted.ensures
    ∙ sym c.in-Ok.ensures.recorded)))

pub returns-in-Ok-clause-grows : goal.returns-in-Ok-clause-grows
returns-in-Ok-clause-grows g c =
    let acc : List ℕ = spelling c.of-accepted.result.value in
    let told : IsPrefix c.args.follower.now.seen c.tell_whole.new.owner.seen = subst (λ (o : OwnerSeat). IsPrefix c.args.follower.now.seen o.seen) (sym c.tell_whole.ensures.same) c.tell_whole.ensures.grows in
    subst (λ (f : FollowerSeat). IsPrefix c.args.follower.now.seen f.seen) (sym c.count_record.ensures.made)
    (prefix_trans c.args.follower.now.seen c.tell_whole.new.owner.seen (c.tell_whole.new.owner.seen ++ acc ∷ []) told (prefix_more c.tell_whole.new.owner.seen (acc ∷ [])))

pub returns-in-Ok-clause-made : goal.returns-in-Ok-clause-made
returns-in-Ok-clause-made g c =
    let acc : List ℕ = spelling c.of-accepted.result.value in
    let mine = c.args.follower.now.mine in
    let whole = ap (λ (o : OwnerSeat). o.seen) c.tell_whole.ensures.same ∙ (c.self.invariant.0 ∙ ap (λ (v : CountedView _). v.desk.records) c.self.view_is) in
    ap (λ (f : FollowerSeat). f.mine) c.count_record.ensures.made
    ∙ (ap (λ (f : FollowerSeat). f.mine ++ (length c.tell_whole.new.owner.seen, acc) ∷ []) c.tell_whole.ensures.told
    ∙ (ap (λ (l : List (List ℕ)). mine ++ (length l, acc) ∷ []) whole
    ∙ ap (λ (command : Command). mine ++ (length c.args.self.now.desk.records, spelling command) ∷ []) c.of-accepted.ensures))

pub returns-in-Ok-clause-place : goal.returns-in-Ok-clause-place
returns-in-Ok-clause-place g c = subst (λ (v : CountedView _). CanCommit v.desk c.args.command c.args.signers) c.self.view_is c.in-Ok.ensures.place

pub returns-in-Ok-clause-recorded : goal.returns-in-Ok-clause-recorded
returns-in-Ok-clause-recorded g c = c.in-Ok.ensures.recorded ∙ ap (λ (v : CountedView _). v.desk.records ++ spelling c.args.command ∷ []) c.self.view_is

pub returns-in-Ok-clause-commands : goal.returns-in-Ok-clause-commands
returns-in-Ok-clause-commands g c =
    subst (λ (v : CountedView _). (commands : List Command) → HasCommands v.desk commands → HasCommands c.commit.new.self (commands ++ c.args.command ∷ [])) c.self.view_is c.in-Ok.ensures.commands

pub returns-in-Ok-clause-bytes : goal.returns-in-Ok-clause-bytes
returns-in-Ok-clause-bytes g c =
    c.in-Ok.ensures.bytes
    ∙ ap (λ (v : CountedView _). option_map (stored (held_by v.desk.records) (entry_bytes (spelling c.args.command))) (g.D.Disk.content v.desk.disk)) c.self.view_is

pub returns-in-Ok-clause-any_moment : goal.returns-in-Ok-clause-any_moment
returns-in-Ok-clause-any_moment g c =
    subst (λ (v : CountedView _). LeavesOnly g.D.Disk v.desk.disk c.commit.new.self.disk (RecoversToKnown (g.D.Disk.content v.desk.disk) v.desk.records (stake_of v.desk.shut v.desk.doubt (spelling c.args.command))))
    c.self.view_is c.commit.ensures.any_moment

pub returns-in-Ok-clause-durable : goal.returns-in-Ok-clause-durable
returns-in-Ok-clause-durable g c =
    subst (λ (v : CountedView _). (image : List ℕ) → g.D.Disk.may_leave c.commit.new.self.disk image → RecoversToKnown (g.D.Disk.content v.desk.disk) c.commit.new.self.records None image)
    c.self.view_is c.in-Ok.ensures.durable

pub returns-in-Ok-clause-later : goal.returns-in-Ok-clause-later
returns-in-Ok-clause-later g c = subst (λ (v : CountedView _). g.D.Disk.fault_count v.desk.disk ≤ g.D.Disk.fault_count c.commit.new.self.disk) c.self.view_is c.commit.ensures.later

pub returns-in-Ok-clause-number : goal.returns-in-Ok-clause-number
returns-in-Ok-clause-number g c = c.commit.ensures.number ∙ ap (λ (v : CountedView _). v.desk.number) c.self.view_is

-- ---- a refused one

pub invariant_of-self-2 : goal.invariant_of-self-2
invariant_of-self-2 g c = (
  ap (λ (o : OwnerSeat). o.seen) c.tell_whole.ensures.same
      ∙ (c.self.invariant.0 ∙ sym (refused_records g.D.Disk c.in-Err.fault c.args.command c.args.signers c.self.inside.desk c.commit.new.self c.in-Err.ensures.refused)),
  ap (λ (o : OwnerSeat). o.coming) c.tell_whole.ensures.same ∙ c.self.invariant.1,
)

pub returns-clause-seen : goal.returns-clause-seen
returns-clause-seen g c =
    ap (λ (f : FollowerSeat). f.seen) c.tell_whole.ensures.told
    ∙ (c.self.invariant.0 ∙ sym (refused_records g.D.Disk c.in-Err.fault c.args.command c.args.signers c.self.inside.desk c.commit.new.self c.in-Err.ensures.refused))

pub returns-clause-grows : goal.returns-clause-grows
returns-clause-grows g c = subst (λ (f : FollowerSeat). IsPrefix c.args.follower.now.seen f.seen) (sym c.tell_whole.ensures.told) c.tell_whole.ensures.grows

pub returns-clause-none : goal.returns-clause-none
returns-clause-none g c = ap (λ (f : FollowerSeat). f.mine) c.tell_whole.ensures.told

pub returns-clause-refused : goal.returns-clause-refused
returns-clause-refused g c = subst (λ (v : CountedView _). IsDeskFault g.D.Disk c.in-Err.fault c.args.command c.args.signers v.desk c.commit.new.self) c.self.view_is c.in-Err.ensures.refused

pub returns-clause-any_moment : goal.returns-clause-any_moment
returns-clause-any_moment g c =
    subst (λ (v : CountedView _). LeavesOnly g.D.Disk v.desk.disk c.commit.new.self.disk (RecoversToKnown (g.D.Disk.content v.desk.disk) v.desk.records (stake_of v.desk.shut v.desk.doubt (spelling c.args.command))))
    c.self.view_is c.commit.ensures.any_moment

pub returns-clause-later : goal.returns-clause-later
returns-clause-later g c = subst (λ (v : CountedView _). g.D.Disk.fault_count v.desk.disk ≤ g.D.Disk.fault_count c.commit.new.self.disk) c.self.view_is c.commit.ensures.later

pub returns-clause-number : goal.returns-clause-number
returns-clause-number g c = c.commit.ensures.number ∙ ap (λ (v : CountedView _). v.desk.number) c.self.view_is
