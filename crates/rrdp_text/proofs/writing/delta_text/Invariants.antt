use Rattle.std.proofs.Common.{◌≡◌, ◌++◌, take, codes}
use Rattle.std.specs.List.{flat_map}
use Rattle.std.specs.String.{string_bytes}
use Rattle.rrdp_text.specs.Texts.{opening, change_text}
use Rattle.rrdp_text.proofs.writing.delta_text.Given as goal

abbrev pub invariant-loop-change : goal.invariant-loop-change
invariant-loop-change l = string_bytes l.out ≡ opening (codes "delta") l.session l.serial ++ flat_map change_text (take l.change-index l.changes)
