use Rattle.std.proofs.Common.{length, Ok, Err}
use Rattle.rrdp_text.specs.Files.{snapshot_of}
use Rattle.rrdp_text.specs.Outcome.{fault_of}
use Rattle.rrdp_text.proofs.Wholes.{snapshot_exact, found, only, true_fault, as_fault}
use Rattle.rrdp_text.proofs.answers.read_snapshot.Goals as goal

pub returns-in-Ok-clause-found : goal.returns-in-Ok-clause-found
returns-in-Ok-clause-found c = found snapshot_of snapshot_exact c.args.bytes.now c.in-Ok.file c.in-Ok.ensures

pub returns-in-Ok-clause-only : goal.returns-in-Ok-clause-only
returns-in-Ok-clause-only c = only snapshot_of snapshot_exact c.args.bytes.now (Ok c.in-Ok.file) c.in-Ok.ensures

pub returns-in-Err-clause-only : goal.returns-in-Err-clause-only
returns-in-Err-clause-only c = rw c.fault.ensures
    (only snapshot_of snapshot_exact c.args.bytes.now (Err (fault_of (length c.args.bytes.now) c.in-Err.stop)) (as_fault snapshot_of snapshot_exact c.args.bytes.now c.in-Err.stop c.in-Err.ensures))

pub returns-in-Err-clause-read : goal.returns-in-Err-clause-read
returns-in-Err-clause-read c = rw c.fault.ensures (as_fault snapshot_of snapshot_exact c.args.bytes.now c.in-Err.stop c.in-Err.ensures)

pub returns-in-Err-clause-fault : goal.returns-in-Err-clause-fault
returns-in-Err-clause-fault c = rw c.fault.ensures
    (true_fault snapshot_of snapshot_exact c.args.bytes.now (fault_of (length c.args.bytes.now) c.in-Err.stop) (as_fault snapshot_of snapshot_exact c.args.bytes.now c.in-Err.stop c.in-Err.ensures))
