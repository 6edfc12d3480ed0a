use Rattle.std.proofs.Common.{◌<◌, length, arith}
use Rattle.signer_ring.proofs.RingCalls.{placed, placed_keeps, drop_called, drop_keeps}
use Rattle.signer_ring.proofs.ring.Ring.drop_key.Goals as goal

pub returns-then-signer-len-clause-dropped : goal.returns-then-signer-len-clause-dropped
returns-then-signer-len-clause-dropped g c = λ low.
    drop_called _ _ _ _ _ _ (placed _ _ _ _ _ _ c.self.view_is low c.index_mut.ensures.value) c.drop_key.ensures

pub returns-then-signer-len-clause-kept : goal.returns-then-signer-len-clause-kept
returns-then-signer-len-clause-kept g c =
    let low : c.args.signer < length c.args.self.now = omega (arith, c.if-signer-len.true, c.len.ensures) in
    placed_keeps _ _ _ _ _ (placed _ _ _ _ _ _ c.self.view_is low c.index_mut.ensures.value) (drop_keeps _ _ _ c.drop_key.ensures)
