use Rattle.std.proofs.Common.{◌∙◌}
use Rattle.gate_journal.proofs.Stored.{first_torn, first_done, staged_long, second_torn, second_done, stored_known, after_first, after_sync, after_second, after_last}
use Rattle.gate_journal.proofs.store.store.Goals as goal

pub write_at-requires-2 : goal.write_at-requires-2
write_at-requires-2 g c = staged_long c.args.held c.args.entry.now c.requires.gate (g.D.Disk.content c.args.disk.now) (g.D.Disk.content c.sync.new.self) c.requires.known (c.sync.ensures.content ∙ c.in_ok-write_at.ensures.written)

pub returns-in_err-write_at-clause-within : goal.returns-in_err-write_at-clause-within
returns-in_err-write_at-clause-within g c = first_torn c.args.held c.args.entry.now c.requires.gate (g.D.Disk.content c.args.disk.now) (g.D.Disk.content c.write_at.new.self) c.requires.known c.in_err-write_at.ensures.torn

pub returns-in_err-write_at-clause-any_moment : goal.returns-in_err-write_at-clause-any_moment
returns-in_err-write_at-clause-any_moment g c = after_first g.D.Disk g.met.D.Disk.only_now c.args.held c.args.entry.now c.requires.gate c.args.disk.now c.requires.known c.requires.durable c.write_at.new.self c.write_at.ensures.time c.write_at.ensures.images

pub returns-in_err-sync-clause-within : goal.returns-in_err-sync-clause-within
returns-in_err-sync-clause-within g c = first_done c.args.held c.args.entry.now c.requires.gate (g.D.Disk.content c.args.disk.now) (g.D.Disk.content c.sync.new.self) c.requires.known (c.sync.ensures.content ∙ c.in_ok-write_at.ensures.written)

pub returns-in_err-sync-clause-any_moment : goal.returns-in_err-sync-clause-any_moment
returns-in_err-sync-clause-any_moment g c = after_sync g.D.Disk g.met.D.Disk.only_now c.args.held c.args.entry.now c.requires.gate c.args.disk.now c.requires.known c.requires.durable c.write_at.new.self c.sync.new.self c.write_at.ensures.time c.write_at.ensures.images c.sync.ensures.time c.sync.ensures.images

pub returns-in_err-write_at-2-clause-within : goal.returns-in_err-write_at-2-clause-within
returns-in_err-write_at-2-clause-within g c = second_torn c.args.held c.args.entry.now c.requires.gate (g.D.Disk.content c.args.disk.now) (g.D.Disk.content c.sync.new.self) (g.D.Disk.content c.write_at-2.new.self) c.requires.known (c.sync.ensures.content ∙ c.in_ok-write_at.ensures.written) c.in_err-write_at-2.ensures.torn

pub returns-in_err-write_at-2-clause-any_moment : goal.returns-in_err-write_at-2-clause-any_moment
returns-in_err-write_at-2-clause-any_moment g c = after_second g.D.Disk g.met.D.Disk.only_now c.args.held c.args.entry.now c.requires.gate c.args.disk.now c.requires.known c.requires.durable c.write_at.new.self c.sync.new.self c.write_at-2.new.self c.write_at.ensures.time c.write_at.ensures.images c.sync.ensures.time c.sync.ensures.images c.in_ok-write_at.ensures.written c.in_ok-sync.ensures.durable c.write_at-2.ensures.time c.write_at-2.ensures.images

pub returns-in_err-sync-2-clause-within : goal.returns-in_err-sync-2-clause-within
returns-in_err-sync-2-clause-within g c = stored_known c.args.held c.args.entry.now c.requires.gate (g.D.Disk.content c.args.disk.now) (g.D.Disk.content c.sync-2.new.self) c.requires.known (c.sync-2.ensures.content ∙ second_done c.args.held c.args.entry.now c.requires.gate (g.D.Disk.content c.args.disk.now) (g.D.Disk.content c.sync.new.self) (g.D.Disk.content c.write_at-2.new.self) c.requires.known (c.sync.ensures.content ∙ c.in_ok-write_at.ensures.written) c.in_ok-write_at-2.ensures.written)

pub returns-in_err-sync-2-clause-any_moment : goal.returns-in_err-sync-2-clause-any_moment
returns-in_err-sync-2-clause-any_moment g c = after_last g.D.Disk g.met.D.Disk.only_now c.args.held c.args.entry.now c.requires.gate c.args.disk.now c.requires.known c.requires.durable c.write_at.new.self c.sync.new.self c.write_at-2.new.self c.sync-2.new.self c.write_at.ensures.time c.write_at.ensures.images c.sync.ensures.time c.sync.ensures.images c.in_ok-write_at.ensures.written c.in_ok-sync.ensures.durable c.write_at-2.ensures.time c.write_at-2.ensures.images c.sync-2.ensures.time c.sync-2.ensures.images

pub returns-clause-stored : goal.returns-clause-stored
returns-clause-stored g c = c.sync-2.ensures.content ∙ second_done c.args.held c.args.entry.now c.requires.gate (g.D.Disk.content c.args.disk.now) (g.D.Disk.content c.sync.new.self) (g.D.Disk.content c.write_at-2.new.self) c.requires.known (c.sync.ensures.content ∙ c.in_ok-write_at.ensures.written) c.in_ok-write_at-2.ensures.written

pub returns-clause-any_moment : goal.returns-clause-any_moment
returns-clause-any_moment g c = after_last g.D.Disk g.met.D.Disk.only_now c.args.held c.args.entry.now c.requires.gate c.args.disk.now c.requires.known c.requires.durable c.write_at.new.self c.sync.new.self c.write_at-2.new.self c.sync-2.new.self c.write_at.ensures.time c.write_at.ensures.images c.sync.ensures.time c.sync.ensures.images c.in_ok-write_at.ensures.written c.in_ok-sync.ensures.durable c.write_at-2.ensures.time c.write_at-2.ensures.images c.sync-2.ensures.time c.sync-2.ensures.images

pub returns-clause-within : goal.returns-clause-within
returns-clause-within g c = stored_known c.args.held c.args.entry.now c.requires.gate (g.D.Disk.content c.args.disk.now) (g.D.Disk.content c.sync-2.new.self) c.requires.known (c.sync-2.ensures.content ∙ second_done c.args.held c.args.entry.now c.requires.gate (g.D.Disk.content c.args.disk.now) (g.D.Disk.content c.sync.new.self) (g.D.Disk.content c.write_at-2.new.self) c.requires.known (c.sync.ensures.content ∙ c.in_ok-write_at.ensures.written) c.in_ok-write_at-2.ensures.written)
