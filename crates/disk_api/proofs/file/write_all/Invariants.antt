use Rattle.std.proofs.Common.{◌+◌, ◌-◌, length}
use Rattle.disk_api.proofs.Pieces.{IsWriting}
use Rattle.disk_api.proofs.file.write_all.Given as goal

abbrev pub invariant-pieces : goal.invariant-pieces
invariant-pieces g l = IsWriting g.F.RawFile.content g.F.RawFile.may_leave g.F.RawFile.moment g.F.RawFile.left_since g.F.RawFile.fault_count l.at l.bytes l.done l.fn.file l.file

abbrev pub decreases-pieces : goal.decreases-pieces
decreases-pieces g l = (length l.bytes - l.done) + g.F.RawFile.patience l.file
