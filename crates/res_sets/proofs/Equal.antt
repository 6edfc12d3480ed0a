-- Ranges are equal where their ends are.
use Rattle.std.proofs.Common.{◌≡◌, ◌==◌, ◌&&◌, ap}
use Rattle.std.specs.Bool.{Decides}
use Rattle.std.proofs.lemmas.Bool.{and_parts, and_from, eqb-true, eq-eqb}
use Rattle.res_sets.specs.declared.numbers.Range.{Range}
use Rattle.res_sets.specs.laws.SetLaws.{same_range}

pub ranges_decide : (a b : Range) → Decides ((a.first == b.first) && (a.last == b.last)) (a ≡ b)
ranges_decide a b = (
  λ both.
      let ends = and_parts (a.first == b.first) (a.last == b.last) both in
      same_range a b (eqb-true a.first b.first ends.0) (eqb-true a.last b.last ends.1),
  λ same. and_from _ _ (eq-eqb a.first b.first (ap (λ (r : Range). r.first) same)) (eq-eqb a.last b.last (ap (λ (r : Range). r.last) same)),
)
