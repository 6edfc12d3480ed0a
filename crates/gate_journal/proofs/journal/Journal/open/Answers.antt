use Rattle.std.proofs.Common.{◌≡◌, None, length, refl, rules}
use Rattle.gate_journal.specs.inner.Kept.{IsConsistentJournal, IsGuarded}
use Rattle.gate_journal.proofs.Laid.{shown_sizes}
use Rattle.gate_journal.proofs.Keeping.{kept_found}
use Rattle.gate_journal.proofs.Guarding.{guarded_found, open_stands, shows_found, known_of_images, shown_known, shown_told}
use Rattle.gate_journal.proofs.Found.{found_laid, unknown_opened}
use Rattle.gate_journal.proofs.journal.Journal.open.Goals as goal

pub invariant_of-result : goal.invariant_of-result
invariant_of-result g c =
    let all : c.len.result ≡ length c.in-Ok.found.places.items = search rules in
    let unknown = unknown_opened (g.D.Disk.content c.args.disk) (g.D.Disk.content c.find.new.disk) c.in-Ok.ensures.opened in (
      kept_found (g.D.Disk.content c.find.new.disk) (g.D.Disk.may_leave c.find.new.disk) c.len.result c.in-Ok.found.held c.in-Ok.found.places.items c.in-Ok.ensures.measured all
          (found_laid c.args.limit (g.D.Disk.content c.args.disk) (g.D.Disk.content c.find.new.disk) c.in-Ok.found.places.items c.in-Ok.ensures.found unknown) c.in-Ok.ensures.durable,
      guarded_found c.args.limit c.len.result (g.D.Disk.content c.args.disk) (g.D.Disk.content c.find.new.disk) (g.D.Disk.may_leave c.find.new.disk) c.in-Ok.found.places.items _ all c.in-Ok.ensures.found unknown c.in-Ok.ensures.durable (search rules),
    )

pub returns-in-Ok-clause-sizes : goal.returns-in-Ok-clause-sizes
returns-in-Ok-clause-sizes g c =
    let all : c.len.result ≡ length c.in-Ok.found.places.items = search rules in
    let content = g.D.Disk.content c.find.new.disk in
    let may_leave = g.D.Disk.may_leave c.find.new.disk in
    let held = c.in-Ok.found.held in
    let places = c.in-Ok.found.places.items in
    let unknown = unknown_opened (g.D.Disk.content c.args.disk) content c.in-Ok.ensures.opened in
    let kept : IsConsistentJournal content may_leave c.len.result held places None =
    kept_found content may_leave c.len.result held places c.in-Ok.ensures.measured all (found_laid c.args.limit (g.D.Disk.content c.args.disk) content places c.in-Ok.ensures.found unknown) c.in-Ok.ensures.durable in
    shown_sizes content may_leave c.len.result held places None kept

pub returns-in-Ok-clause-records : goal.returns-in-Ok-clause-records
returns-in-Ok-clause-records g c =
    let all : c.len.result ≡ length c.in-Ok.found.places.items = search rules in
    let old = g.D.Disk.content c.args.disk in
    let content = g.D.Disk.content c.find.new.disk in
    shows_found c.args.limit c.len.result old content c.in-Ok.found.places.items all c.in-Ok.ensures.found (unknown_opened old content c.in-Ok.ensures.opened)

pub returns-in-Ok-clause-durable : goal.returns-in-Ok-clause-durable
returns-in-Ok-clause-durable g c =
    let all : c.len.result ≡ length c.in-Ok.found.places.items = search rules in
    let old = g.D.Disk.content c.args.disk in
    let content = g.D.Disk.content c.find.new.disk in
    let may_leave = g.D.Disk.may_leave c.find.new.disk in
    let guarded : IsGuarded content may_leave c.args.limit c.len.result None None = guarded_found c.args.limit c.len.result old content may_leave c.in-Ok.found.places.items None all c.in-Ok.ensures.found (unknown_opened old content c.in-Ok.ensures.opened) c.in-Ok.ensures.durable refl in
    open_stands c.args.limit c.len.result content may_leave None None refl guarded

pub returns-in-Ok-clause-safe : goal.returns-in-Ok-clause-safe
returns-in-Ok-clause-safe g c =
    let guarded = (invariant_of-result g c).1 in
    record { bytes = known_of_images (g.D.Disk.content c.find.new.disk) (g.D.Disk.may_leave c.find.new.disk) _ (g.met.D.Disk.left_as_read c.find.new.disk) guarded.images; images = guarded.images; known = shown_known c.len.result (g.D.Disk.content c.find.new.disk); told = shown_told c.len.result (g.D.Disk.content c.find.new.disk); settled = guarded.settled }
