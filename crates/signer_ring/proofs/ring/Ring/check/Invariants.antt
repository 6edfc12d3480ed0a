use Rattle.std.proofs.Common.{◌≡◌, length}
use Rattle.signer_ring.proofs.Asked.{NoneBelow}
use Rattle.signer_ring.proofs.ring.Ring.check.Given as goal

abbrev pub invariant-loop-number : goal.invariant-loop-number
invariant-loop-number g l = (l.self ≡ l.fn.self) × (l.number-end ≡ length l.fn.self) × NoneBelow l.number l.key.bytes l.digest.bytes l.signature.bytes l.fn.self
