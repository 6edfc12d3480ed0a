use Rattle.std.proofs.Common.{◌≡◌, ◌<◌, false, List, [], ◌∷◌, ◌++◌, length, map, sym, ap, subst, ◌∙◌, arith}
use Rattle.std.specs.Prelude.{All}
use Rattle.std.specs.Vec.Iter.{into_iter_items}
use Rattle.std.proofs.lemmas.List.Elements.{All-tail}
use Rattle.issue_sign.specs.declared.object.Object.{Object}
use Rattle.issue_sign.specs.declared.steps.Half.{Half}
use Rattle.issue_sign.specs.declared.steps.Half.TheVariants.{Made}
use Rattle.issue_sign.specs.inner.Steps.{is_begun}
use Rattle.issue_sign.proofs.Lists.{mapped-more}
use Rattle.issue_sign.proofs.objects.objects.Goals as goal

pub loop-half-preserved : goal.loop-half-preserved
loop-half-preserved c =
    let was = c.loop-half.invariant in
    let next = c.in-Some.ensures.steps.0 in
    let rest = into_iter_items c.next.new.self in
    let objects = c.loop-half.objects.items in
    record {
      count =
          let old = was.count in
          let gone = c.in-Some.ensures.steps.1 in
          let short = ap length next in
          omega arith;
      rest = All-tail (λ (h : Half). is_begun h ≡ false) c.in-Some.half rest (subst (λ (l : List Half). All (λ h. is_begun h ≡ false) l) next was.rest);
      objects = ap (λ (l : List Object). map (λ (o : Object). Made o) l ++ rest) c.in_ok-push.ensures.items
          ∙ (mapped-more (λ (o : Object). Made o) objects c.in-Made.object rest
          ∙ (ap (λ (h : Half). map (λ (o : Object). Made o) objects ++ h ∷ rest) (sym c.in-Made.is)
          ∙ (ap (λ (l : List Half). map (λ (o : Object). Made o) objects ++ l) (sym next) ∙ was.objects)));
    }
