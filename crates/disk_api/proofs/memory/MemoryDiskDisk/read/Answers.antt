use Rattle.disk_api.proofs.Same.{same_time}
use Rattle.disk_api.proofs.memory.MemoryDiskDisk.read.Goals as goal

pub returns-then-is_failing-clause-time : goal.returns-then-is_failing-clause-time
returns-then-is_failing-clause-time c = same_time c.is_failing.ensures.file

pub returns-clause-time : goal.returns-clause-time
returns-clause-time c = same_time c.is_failing.ensures.file
