use Rattle.std.proofs.Common.{◌≡◌, ◌≤◌, ◌*◌, ◌^◌, length, take}
use Rattle.std.specs.List.{flat_map}
use Rattle.rrdp_text.specs.Texts.{change_text}
use Rattle.rrdp_text.proofs.sizes.changes_len.Given as goal

abbrev pub invariant-loop-change : goal.invariant-loop-change
invariant-loop-change l = (l.len ≡ length (flat_map change_text (take l.change-index l.changes))) × (l.len ≤ 2 ^ 68 * l.change-index)
