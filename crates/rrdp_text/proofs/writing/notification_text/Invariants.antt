use Rattle.std.proofs.Common.{◌≡◌, ◌++◌, take, codes}
use Rattle.std.specs.List.{flat_map}
use Rattle.std.specs.String.{string_bytes}
use Rattle.rrdp_text.specs.Texts.{opening, snapshot_line, delta_line}
use Rattle.rrdp_text.proofs.writing.notification_text.Given as goal

abbrev pub invariant-loop-delta : goal.invariant-loop-delta
invariant-loop-delta l = string_bytes l.out ≡ opening (codes "notification") l.session l.serial ++ snapshot_line l.snapshot ++ flat_map delta_line (take l.delta-index l.deltas)
