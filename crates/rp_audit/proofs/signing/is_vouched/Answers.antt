use Rattle.rp_audit.proofs.Vouched.{ring_answers}
use Rattle.rp_audit.proofs.signing.is_vouched.Goals as goal

pub returns-in-Ok : goal.returns-in-Ok
returns-in-Ok g c =
    (c.in-Ok.ensures.called, ring_answers c.args.ring.now c.check.new.self c.args.key.now.bytes c.args.digest.now.bytes c.args.signature.now.bytes c.in-Ok.yes c.in-Ok.ensures.called c.in-Ok.ensures.answer c.in-Ok.ensures.some)
