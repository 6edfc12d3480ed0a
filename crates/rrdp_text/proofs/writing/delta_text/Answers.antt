use Rattle.std.proofs.Common.{refl, arith, codes}
use Rattle.std.specs.String.{string_bytes}
use Rattle.rrdp_text.specs.Texts.{head, opening, change_text, delta_text}
use Rattle.rrdp_text.proofs.Lists.{begun, written}
use Rattle.rrdp_text.proofs.writing.delta_text.Goals as goal

pub loop-change-init : goal.loop-change-init
unfolding head
loop-change-init c = begun change_text (opening (codes "delta") c.args.session.now c.args.serial) (string_bytes c.in_ok-out.out) (string_bytes c.push_opening.new.out) c.args.changes.now
    c.in_ok-push_opening.ensures c.in_ok-out.ensures.bytes

pub returns : goal.returns
unfolding delta_text
returns c = written change_text (opening (codes "delta") c.args.session.now c.args.serial) (codes "</delta>\n") (string_bytes c.loop-change.out) (string_bytes c.push_str.new.self) c.args.changes.now _ c.loop-change.change-index
    c.loop-change.invariant (omega arith) refl c.in_ok-push_str.ensures.bytes
