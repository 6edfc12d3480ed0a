use Rattle.std.proofs.Common.{◌≡◌, ◌+◌, ◌-◌, ◌^◌, length, take, min}
use Rattle.std.specs.List.{flat_map}
use Rattle.record_forms.proofs.lists.counted_len.Given as goal

abbrev pub invariant-loop-item : goal.invariant-loop-item
invariant-loop-item g l = l.total ≡ min (4 + length (flat_map (g.W.ItemWriter.spelling l.fn.writer) (take l.item-index l.items))) (2 ^ 64 - 1)
