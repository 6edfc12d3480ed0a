use Rattle.std.proofs.Common.{◌≡◌, length}
use Rattle.std.specs.Prelude.{true}
use Rattle.std.specs.List.{AllByRecursion}
use Rattle.std.specs.Str.{is_utf8}
use Rattle.pub_set.specs.Changes.{uri_of}
use Rattle.press_records.proofs.types.uris_are_texts.Given as goal

abbrev pub invariant-loop-change : goal.invariant-loop-change
invariant-loop-change l =
    AllByRecursion (λ change. is_utf8 (uri_of change) ≡ true) l.left
    → AllByRecursion (λ change. is_utf8 (uri_of change) ≡ true) l.fn.changes

abbrev pub decreases-loop-change : goal.decreases-loop-change
decreases-loop-change l = length l.left
