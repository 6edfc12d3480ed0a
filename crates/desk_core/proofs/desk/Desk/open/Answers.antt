use Rattle.std.proofs.Common.{◌∙◌, sym, ap}
use Rattle.desk_core.proofs.Opened.{from_damaged, bad_known, unopened_known}
use Rattle.desk_core.proofs.desk.Desk.open.Goals as goal

pub returns-in-Err-clause-damaged : goal.returns-in-Err-clause-damaged
returns-in-Err-clause-damaged g c at is = c.in-Err.ensures.damaged at (from_damaged c.in-Err.field-0.fault at (sym c.from-fault.ensures ∙ is))

pub returns-in-Err-load-clause-bad_record : goal.returns-in-Err-load-clause-bad_record
returns-in-Err-load-clause-bad_record g c at is =
    bad_known (g.D.Disk.content c.args.disk) c.in-Ok.journal.records c.args.number at c.in-Ok.ensures.records c.in-Ok.ensures.whole (c.in-Err-load.ensures.bad at is)

pub returns-in-Err-load-clause-unopened : goal.returns-in-Err-load-clause-unopened
returns-in-Err-load-clause-unopened g c =
    unopened_known (g.D.Disk.content c.args.disk) (g.D.Disk.content c.close-disk.result)
    (ap g.D.Disk.content c.close-disk.ensures.disk ∙ (c.load.ensures.disk.content_stays ∙ c.in-Ok.ensures.bytes))
