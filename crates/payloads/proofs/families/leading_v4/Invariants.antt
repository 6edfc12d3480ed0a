use Rattle.std.proofs.Common.{◌≡◌, ◌+◌, drop, map}
use Rattle.payloads.specs.RoaFormats.{entry_view, leading_v4}
use Rattle.payloads.proofs.families.leading_v4.Given as goal

abbrev pub invariant-loop-entry : goal.invariant-loop-entry
invariant-loop-entry l = record {
  place : l.count ≡ l.entry-index;
  same : leading_v4 (λ e. e.v6) (map entry_view l.entries) ≡ l.entry-index + leading_v4 (λ e. e.v6) (map entry_view (drop l.entry-index l.entries));
}
