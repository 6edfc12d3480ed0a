use Rattle.std.proofs.Common.{◌≡◌, length}
use Rattle.disk_api.proofs.image.piece_of.Given as goal

abbrev pub invariant-loop-byte : goal.invariant-loop-byte
invariant-loop-byte l = length l.piece.items ≡ l.byte-index
