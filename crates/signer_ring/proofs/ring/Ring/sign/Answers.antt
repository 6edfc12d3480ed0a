use Rattle.std.proofs.Common.{◌<◌, length, arith}
use Rattle.signer_api.specs.State.{SignerState, Vouches}
use Rattle.signer_api.specs.declared.values.Signature.{Signature}
use Rattle.signer_ring.proofs.RingCalls.{placed, calls_one, calls_keep, signature_keeps, vouched_by_one, vouched_by_all}
use Rattle.signer_ring.proofs.ring.Ring.sign.Goals as goal

pub returns-clause-called : goal.returns-clause-called
returns-clause-called g c =
    let low : c.args.signer < length c.args.self.now = omega (arith, c.if-signer-len.false, c.len.ensures) in
    calls_one _ _ _ _ _ _ _ _ (placed _ _ _ _ _ _ c.self.view_is low c.index_mut.ensures.value) c.answered.ensures c.sign.ensures.signed

pub returns-clause-by_signer : goal.returns-clause-by_signer
returns-clause-by_signer g c =
    let low : c.args.signer < length c.args.self.now = omega (arith, c.if-signer-len.false, c.len.ensures) in
    vouched_by_one (λ (s : Signature) (at : SignerState). Vouches at c.args.key.now.bytes c.args.digest.now.bytes s.bytes) _ _ _ _ _ _ _
    (placed _ _ _ _ _ _ c.self.view_is low c.index_mut.ensures.value) c.answered.ensures c.sign.ensures.vouched

pub returns-clause-vouched : goal.returns-clause-vouched
returns-clause-vouched g c =
    let low : c.args.signer < length c.args.self.now = omega (arith, c.if-signer-len.false, c.len.ensures) in
    vouched_by_all (λ (s : Signature) (at : SignerState). Vouches at c.args.key.now.bytes c.args.digest.now.bytes s.bytes) _ _ _ _ _ _ _
    (placed _ _ _ _ _ _ c.self.view_is low c.index_mut.ensures.value) c.answered.ensures c.sign.ensures.vouched

pub returns-clause-kept : goal.returns-clause-kept
returns-clause-kept g c = calls_keep _ _ _ _ _ (λ x signer. signature_keeps _ signer) (returns-clause-called g c)
