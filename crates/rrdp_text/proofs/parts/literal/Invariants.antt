use Rattle.std.proofs.Common.{◌≡◌, ◌≤◌, length, drop}
use Rattle.rrdp_text.specs.Reading.{literal}
use Rattle.rrdp_text.proofs.parts.literal.Given as goal

abbrev pub invariant-loop-i : goal.invariant-loop-i
invariant-loop-i l = record {
  within : l.i ≤ length l.bytes;
  more : literal (drop l.i l.expected) (drop l.i l.bytes) ≡ literal l.expected l.bytes;
}
