use Rattle.std.proofs.Common.{take}
use Rattle.signer_ring.specs.Ring.{Keeps}
use Rattle.press_core.specs.Press.{DropsEach}
use Rattle.press_core.proofs.press.drop_each.Given as goal

abbrev pub invariant-loop-key : goal.invariant-loop-key
invariant-loop-key g l = record {
  dropped : DropsEach (take l.key-index l.ended) l.fn.ring l.ring;
  kept : Keeps l.fn.ring l.ring;
}
