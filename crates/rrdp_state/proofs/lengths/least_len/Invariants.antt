use Rattle.std.proofs.Common.{◌≤◌, length, take}
use Rattle.std.specs.List.{flat_map}
use Rattle.rrdp_text.specs.Texts.{object_text}
use Rattle.rrdp_state.proofs.lengths.least_len.Given as goal

abbrev pub invariant-loop-object : goal.invariant-loop-object
invariant-loop-object l = l.len ≤ length (flat_map object_text (take l.object-index l.objects))
