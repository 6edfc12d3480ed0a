use Rattle.std.proofs.Common.{sym, subst}
use Rattle.press_core.specs.JournalRecords.{store_for}
use Rattle.press_core.specs.Loading.{IsLoadFault}
use Rattle.press_core.specs.declared.loading.LoadFault.{LoadFault}
use Rattle.press_core.proofs.Crashes.{left-opened, left-loaded}
use Rattle.press_core.proofs.Found.{open-fault, load-fault, load-found, load-durable}
use Rattle.press_core.proofs.Loads.{same-unopened, same-held}
use Rattle.press_core.proofs.loading.load.Goals as goal

-- ---- the journal isn't opened

pub returns-in-Err-clause-refused : goal.returns-in-Err-clause-refused
returns-in-Err-clause-refused g c =
    let new = c.in-Err.field-0.disk in
    subst (λ (f : LoadFault). IsLoadFault g.D.Disk c.args.site.now c.args.disk new f) (sym c.from-fault.ensures)
    (open-fault g.D.Disk c.args.site.now c.args.disk new c.in-Err.field-0.fault c.in-Err.ensures.damaged c.in-Err.ensures.failed)

pub returns-in-Err-clause-same : goal.returns-in-Err-clause-same
returns-in-Err-clause-same g c =
    same-unopened (store_for c.args.session c.args.site.now) (g.D.Disk.content c.args.disk) (g.D.Disk.content c.in-Err.field-0.disk) c.in-Err.ensures.unopened

pub returns-in-Err-clause-any_moment : goal.returns-in-Err-clause-any_moment
returns-in-Err-clause-any_moment g c =
    left-opened g.D.Disk (store_for c.args.session c.args.site.now) c.args.disk c.in-Err.field-0.disk c.in-Err.ensures.any_moment

-- ---- all is found

pub returns-in-Ok-read_all-clause-found : goal.returns-in-Ok-read_all-clause-found
returns-in-Ok-read_all-clause-found g c =
    load-found g.D.Disk c.args.site.now c.args.session (g.D.Disk.content c.args.disk) c.in-Ok.journal.records _ c.in-Ok.ensures.records c.in-Ok.ensures.whole
    c.in-Ok-read_all.ensures.site c.in-Ok-read_all.ensures.found

pub returns-in-Ok-read_all-clause-durable : goal.returns-in-Ok-read_all-clause-durable
returns-in-Ok-read_all-clause-durable g c = λ image left.
    load-durable g.D.Disk c.args.site.now c.args.session (g.D.Disk.content c.args.disk) c.in-Ok.journal.records _ c.in-Ok.ensures.records
    c.in-Ok-read_all.ensures.found c.in-Ok-read_all.ensures.opened image left

pub returns-in-Ok-read_all-clause-same : goal.returns-in-Ok-read_all-clause-same
returns-in-Ok-read_all-clause-same g c =
    same-held (store_for c.args.session c.args.site.now) (g.D.Disk.content c.args.disk) (g.D.Disk.content c.read_all.new.journal.disk) c.in-Ok.journal.records
    c.in-Ok.ensures.records c.in-Ok.ensures.whole c.read_all.ensures.holds

pub returns-in-Ok-read_all-clause-any_moment : goal.returns-in-Ok-read_all-clause-any_moment
returns-in-Ok-read_all-clause-any_moment g c =
    left-loaded g.D.Disk (store_for c.args.session c.args.site.now) c.args.disk c.in-Ok.journal c.read_all.new.journal.disk c.in-Ok.ensures.records c.in-Ok.ensures.whole
    c.in-Ok.ensures.any_moment c.read_all.ensures.images

-- ---- nothing is found

pub returns-in-Err-read_all-clause-refused : goal.returns-in-Err-read_all-clause-refused
returns-in-Err-read_all-clause-refused g c =
    rw c.close-disk.ensures.disk
    (load-fault g.D.Disk c.args.site.now c.args.disk c.in-Ok.journal c.read_all.new.journal.disk c.in-Err-read_all.fault c.in-Ok.ensures.records
    c.in-Ok.ensures.bytes c.in-Ok.ensures.whole c.in-Ok.ensures.later c.in-Err-read_all.ensures.refused)

pub returns-in-Err-read_all-clause-same : goal.returns-in-Err-read_all-clause-same
returns-in-Err-read_all-clause-same g c =
    rw c.close-disk.ensures.disk
    (same-held (store_for c.args.session c.args.site.now) (g.D.Disk.content c.args.disk) (g.D.Disk.content c.read_all.new.journal.disk) c.in-Ok.journal.records
    c.in-Ok.ensures.records c.in-Ok.ensures.whole c.read_all.ensures.holds)

pub returns-in-Err-read_all-clause-any_moment : goal.returns-in-Err-read_all-clause-any_moment
returns-in-Err-read_all-clause-any_moment g c =
    rw c.close-disk.ensures.disk
    (left-loaded g.D.Disk (store_for c.args.session c.args.site.now) c.args.disk c.in-Ok.journal c.read_all.new.journal.disk c.in-Ok.ensures.records c.in-Ok.ensures.whole
    c.in-Ok.ensures.any_moment c.read_all.ensures.images)
