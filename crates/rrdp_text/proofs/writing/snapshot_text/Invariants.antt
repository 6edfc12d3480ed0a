use Rattle.std.proofs.Common.{◌≡◌, ◌++◌, take, codes}
use Rattle.std.specs.List.{flat_map}
use Rattle.std.specs.String.{string_bytes}
use Rattle.rrdp_text.specs.Texts.{opening, object_text}
use Rattle.rrdp_text.proofs.writing.snapshot_text.Given as goal

abbrev pub invariant-loop-object : goal.invariant-loop-object
invariant-loop-object l = string_bytes l.out ≡ opening (codes "snapshot") l.session l.serial ++ flat_map object_text (take l.object-index l.objects)
