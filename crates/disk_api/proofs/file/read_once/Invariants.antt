use Rattle.disk_api.proofs.Pieces.{IsUntouched}
use Rattle.disk_api.proofs.file.read_once.Given as goal

abbrev pub invariant-tries : goal.invariant-tries
invariant-tries g l = IsUntouched g.F.RawFile.content g.F.RawFile.may_leave g.F.RawFile.moment g.F.RawFile.left_since g.F.RawFile.fault_count l.fn.file l.file l.fn.into l.into

abbrev pub decreases-tries : goal.decreases-tries
decreases-tries g l = g.F.RawFile.patience l.file
