use Rattle.std.proofs.Common.{◌++◌, refl, arith, codes}
use Rattle.std.specs.String.{string_bytes}
use Rattle.rrdp_text.specs.Texts.{head, opening, snapshot_line, delta_line, notification_text}
use Rattle.rrdp_text.proofs.Lists.{begun, written}
use Rattle.rrdp_text.proofs.writing.notification_text.Goals as goal

pub loop-delta-init : goal.loop-delta-init
unfolding head
loop-delta-init c = begun delta_line (opening (codes "notification") c.args.session.now c.args.serial ++ snapshot_line c.args.snapshot.now) (string_bytes c.in_ok-out.out) (string_bytes c.push_snapshot_line.new.out) c.args.deltas.now
    (rw (c.in_ok-push_snapshot_line.ensures, c.in_ok-push_opening.ensures, c.in_ok-out.ensures.bytes) refl) c.in_ok-out.ensures.bytes

pub returns : goal.returns
unfolding notification_text
returns c = written delta_line (opening (codes "notification") c.args.session.now c.args.serial ++ snapshot_line c.args.snapshot.now) (codes "</notification>\n") (string_bytes c.loop-delta.out) (string_bytes c.push_str.new.self) c.args.deltas.now c.args.deltas.now c.loop-delta.delta-index
    c.loop-delta.invariant (omega arith) refl c.in_ok-push_str.ensures.bytes
