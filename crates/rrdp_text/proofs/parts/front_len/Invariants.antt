use Rattle.std.proofs.Common.{◌≡◌, ◌+◌, drop}
use Rattle.std.specs.List.{prefix_len}
use Rattle.rrdp_text.specs.inner.Parts.{has}
use Rattle.rrdp_text.proofs.parts.front_len.Given as goal

abbrev pub invariant-loop-i : goal.invariant-loop-i
invariant-loop-i l = prefix_len (has l.alphabet) l.bytes ≡ l.i + prefix_len (has l.alphabet) (drop l.i l.bytes)
