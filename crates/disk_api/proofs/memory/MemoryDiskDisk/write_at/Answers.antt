use Rattle.std.proofs.Common.{length}
use Rattle.disk_api.specs.Content.{Torn}
use Rattle.disk_api.proofs.Same.{same_twice, same_time, time_after, torn_same, follows_same, follows_write, reaches_write}
use Rattle.disk_api.proofs.memory.MemoryDiskDisk.write_at.Goals as goal

pub returns-then-is_failing-clause-images : goal.returns-then-is_failing-clause-images
returns-then-is_failing-clause-images c = follows_same (Torn c.args.at (length c.args.bytes.now)) (torn_same c.args.at (length c.args.bytes.now)) c.is_failing.ensures.file

pub returns-then-is_failing-clause-time : goal.returns-then-is_failing-clause-time
returns-then-is_failing-clause-time c = same_time c.is_failing.ensures.file

pub returns-in-Err-clause-images : goal.returns-in-Err-clause-images
returns-in-Err-clause-images c = follows_same (Torn c.args.at (length c.args.bytes.now)) (torn_same c.args.at (length c.args.bytes.now)) (same_twice (same_twice c.is_failing.ensures.file c.in-Err.ensures.err) c.counted.ensures.file)

pub returns-in-Err-clause-time : goal.returns-in-Err-clause-time
returns-in-Err-clause-time c = same_time (same_twice (same_twice c.is_failing.ensures.file c.in-Err.ensures.err) c.counted.ensures.file)

pub returns-in-Ok-clause-images : goal.returns-in-Ok-clause-images
returns-in-Ok-clause-images c = follows_write c.args.at c.args.bytes.now c.is_failing.ensures.file c.in-Ok.ensures.done

pub returns-in-Ok-clause-each_image : goal.returns-in-Ok-clause-each_image
returns-in-Ok-clause-each_image c = reaches_write c.args.at c.args.bytes.now c.is_failing.ensures.file c.in-Ok.ensures.done

pub returns-in-Ok-clause-time : goal.returns-in-Ok-clause-time
returns-in-Ok-clause-time c = time_after c.is_failing.ensures.file c.in-Ok.ensures.done.2
