use Rattle.std.proofs.Common.{◌≡◌, take, map}
use Rattle.outlet_api.specs.Exports.{put_of}
use Rattle.rrdp_state.specs.Exported.{entry_put}
use Rattle.rrdp_state.specs.Kept.{entries_with}
use Rattle.rrdp_state.proofs.putting.put_files.Given as goal

abbrev pub invariant-loop-delta : goal.invariant-loop-delta
invariant-loop-delta l = map put_of l.puts.items ≡ map (entry_put l.session) (entries_with l.serial l.fn.snapshot (take l.delta-index l.deltas))
