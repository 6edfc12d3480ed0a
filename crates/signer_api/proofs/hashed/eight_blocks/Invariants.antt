use Rattle.std.proofs.Common.{◌≡◌, ◌++◌, ◌*◌, take, length}
use Rattle.signer_api.specs.Hashed as rule
use Rattle.signer_api.proofs.hashed.eight_blocks.Given as goal

abbrev pub invariant-loop-i : goal.invariant-loop-i
invariant-loop-i l = (take (32 * l.i) l.blocks ≡ rule.blocks (l.first ++ l.second) l.i) × (length l.blocks ≡ 256)
