use Rattle.disk_api.proofs.Same.{same_twice, same_time, time_after, only_synced, synced_was}
use Rattle.disk_api.proofs.memory.MemoryDiskDisk.sync.Goals as goal

pub returns-then-is_failing-clause-time : goal.returns-then-is_failing-clause-time
returns-then-is_failing-clause-time c = same_time c.is_failing.ensures.file

pub returns-in-Err-clause-time : goal.returns-in-Err-clause-time
returns-in-Err-clause-time c = same_time (same_twice (same_twice c.is_failing.ensures.file c.in-Err.ensures.err) c.counted.ensures.file)

pub returns-in-Ok-clause-durable : goal.returns-in-Ok-clause-durable
returns-in-Ok-clause-durable c = only_synced c.is_failing.ensures.file c.in-Ok.ensures.done

pub returns-in-Ok-clause-images : goal.returns-in-Ok-clause-images
returns-in-Ok-clause-images c = synced_was c.is_failing.ensures.file c.in-Ok.ensures.done

pub returns-in-Ok-clause-time : goal.returns-in-Ok-clause-time
returns-in-Ok-clause-time c = time_after c.is_failing.ensures.file c.in-Ok.ensures.done
