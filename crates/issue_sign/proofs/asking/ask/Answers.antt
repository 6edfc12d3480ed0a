use Rattle.std.proofs.Common.{length, Err, ap, ◌∙◌}
use Rattle.signer_ring.specs.declared.fault.RingFault.{RingFault}
use Rattle.issue_sign.proofs.Answered.{none-absent}
use Rattle.issue_sign.proofs.asking.ask.Goals as goal

pub unreachable-requires : goal.unreachable-requires
unreachable-requires g c =
    let n = c.in-Err-NoSuchSigner.field-0-0 in
    none-absent (length c.args.ring.now) n c.args.jobs.items c.requires.there
    ((c.for_all.ensures.absent n).0 (c.in-Err-NoSuchSigner.is ∙ ap (λ (f : RingFault). Err f) c.in-Err-NoSuchSigner.field-0-is))
