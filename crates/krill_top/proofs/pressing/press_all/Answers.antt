use Rattle.std.proofs.Common.{sym, subst}
use Rattle.std.specs.Prelude.{IfSome, IsSome}
use Rattle.std.proofs.lemmas.Result.{err_from_is_err_and}
use Rattle.gate_journal.specs.View.{View as JournalView}
use Rattle.krill_top.proofs.Fitting.{told_before}
use Rattle.krill_top.proofs.Pressed.{pressed_by, uncommitted_by, known_then}
use Rattle.krill_top.proofs.pressing.press_all.Goals as goal

pub returns-clause-pressed : goal.returns-clause-pressed
returns-clause-pressed g c =
    let ready = c.in_ok-prepared.ensures.ready in
    let committed = c.in_ok-published.ensures in
    let new = c.commit.new.self in
    let told = subst (λ (j : JournalView g.row.D.Denot). IfSome j.records (λ _. IsSome (g.D.Disk.content j.disk))) (sym ready.journal) c.in_ok-prepared.ensures.told in
    let known = subst (λ (j : JournalView g.row.D.Denot). IfSome (g.D.Disk.content j.disk) (λ _. IsSome j.records)) (sym ready.journal) c.in_ok-prepared.ensures.known in
    pressed_by g.D.Disk c.args.now c.args.desks.now c.in_ok-prepared.field-0.prepared c.in_ok-published.published c.in_ok-prepared.field-0.sheet
    c.args.press.now c.prepare_all.new.press new c.retire_keys.new.self ready
    (record {
      at = committed.at;
      ended = committed.ended;
      site = committed.site;
      ring = committed.ring;
      files = committed.files;
      session = committed.session;
      last_export = committed.last_export;
      told_is = committed.published;
      records = committed.records;
      known = known_then (g.D.Disk.content c.prepare_all.new.press.journal.disk) (g.D.Disk.content new.journal.disk) _ c.prepare_all.new.press.journal.records new.journal.records
          committed.bytes told committed.safe.known;
      known_before = told_before new.journal.records (g.D.Disk.content new.journal.disk) (g.D.Disk.content c.prepare_all.new.press.journal.disk) _ (IsSome c.prepare_all.new.press.journal.records)
          committed.safe.told committed.bytes known;
      is_open = committed.open.0;
      settled = committed.open.1;
      limit = committed.limit;
      later = committed.later;
    })
    (record { dropped = c.retire_keys.ensures.dropped; others = c.retire_keys.ensures.others; kept = c.retire_keys.ensures.kept; journal = c.retire_keys.ensures.journal })

pub returns-in_err-published-clause-refused : goal.returns-in_err-published-clause-refused
returns-in_err-published-clause-refused g c =
    let p = err_from_is_err_and c.from_residual-in_err-published.result c.from_residual-in_err-published.ensures.1 in
    let failed = c.in_err-published.ensures in
    rw (p.1, p.2) (uncommitted_by g.D.Disk c.args.now c.args.desks.now c.in_ok-prepared.field-0.prepared c.in_ok-prepared.field-0.sheet
    c.args.press.now c.prepare_all.new.press c.commit.new.self _ c.in_ok-prepared.ensures.ready failed.refused failed.later failed.limit)
