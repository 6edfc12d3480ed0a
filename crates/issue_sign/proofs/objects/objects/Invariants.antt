use Rattle.std.proofs.Common.{◌≡◌, ◌++◌, false, length, map}
use Rattle.std.specs.Prelude.{All}
use Rattle.std.specs.Vec.Iter.{into_iter_items, into_iter_len}
use Rattle.issue_sign.specs.declared.steps.Half.TheVariants.{Made}
use Rattle.issue_sign.specs.inner.Steps.{is_begun}
use Rattle.issue_sign.proofs.objects.objects.Given as goal

abbrev pub invariant-loop-half : goal.invariant-loop-half
invariant-loop-half l = record {
  count : into_iter_len l.half-iterator ≡ length (into_iter_items l.half-iterator);
  rest : All (λ h. is_begun h ≡ false) (into_iter_items l.half-iterator);
  objects : map (λ o. Made o) l.objects.items ++ into_iter_items l.half-iterator ≡ l.fn.halves.items;
}
