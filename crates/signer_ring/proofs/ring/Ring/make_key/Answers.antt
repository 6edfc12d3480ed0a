use Rattle.std.proofs.Common.{◌<◌, length, arith}
use Rattle.signer_ring.proofs.RingCalls.{placed, calls_one, calls_keep, key_keeps}
use Rattle.signer_ring.proofs.ring.Ring.make_key.Goals as goal

pub returns-clause-called : goal.returns-clause-called
returns-clause-called g c =
    let low : c.args.signer < length c.args.self.now = omega (arith, c.if-signer-len.false, c.len.ensures) in
    calls_one _ _ _ _ _ _ _ _ (placed _ _ _ _ _ _ c.self.view_is low c.index_mut.ensures.value) c.answered.ensures c.make_key.ensures

pub returns-clause-kept : goal.returns-clause-kept
returns-clause-kept g c = calls_keep _ _ _ _ _ (λ key signer. key_keeps _ signer) (returns-clause-called g c)
