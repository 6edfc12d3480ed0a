use Rattle.std.proofs.Common.{arith, codes}
use Rattle.std.specs.String.{string_bytes}
use Rattle.rrdp_text.specs.Texts.{head, opening, object_text, snapshot_text}
use Rattle.rrdp_text.proofs.Lists.{begun, written}
use Rattle.rrdp_text.proofs.writing.snapshot_text.Goals as goal

pub loop-object-init : goal.loop-object-init
unfolding head
loop-object-init c = begun object_text (opening (codes "snapshot") c.args.session.now c.args.serial) (string_bytes c.in_ok-out.out) (string_bytes c.push_opening.new.out) c.as_slice-objects.result.now
    c.in_ok-push_opening.ensures c.in_ok-out.ensures.bytes

pub returns : goal.returns
unfolding snapshot_text
returns c = written object_text (opening (codes "snapshot") c.args.session.now c.args.serial) (codes "</snapshot>\n") (string_bytes c.loop-object.out) (string_bytes c.push_str.new.self) c.as_slice-objects.result.now _ c.loop-object.object-index
    c.loop-object.invariant (omega arith) c.as_slice-objects.ensures.objects c.in_ok-push_str.ensures.bytes
