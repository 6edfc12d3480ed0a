use Rattle.std.proofs.Common.{◌≡◌, ◌∷◌, ◌++◌, [], ◌∙◌, refl, sym, ap, subst, length, arith, rules, List}
use Rattle.std.specs.Vec.Iter.{into_iter_items}
use Rattle.std.proofs.lemmas.List.{append_assoc}
use Rattle.pub_set.specs.declared.objects.Object.{Object}
use Rattle.pub_set.specs.Objects.{uri_at, IsAscending}
use Rattle.pub_set.specs.laws.LookupLaws.{below-middle}
use Rattle.editions.proofs.standing.set_of.Goals as goal

pub loop-object-init : goal.loop-object-init
loop-object-init c =
    let all = c.into_iter-object-iterator.ensures.into_iter_gives in
    rw (all.0, c.new-set.ensures) (record { all = refl; left = search (rules, all.1) })

pub push-requires : goal.push-requires
push-requires c =
    let object = c.in-Some.object in
    let rest = into_iter_items c.next.new.self in
    let whole : c.loop-object.set ++ object ∷ rest ≡ c.args.objects.items =
    sym (ap (λ (l : List Object). c.loop-object.set ++ l) c.in-Some.ensures.steps.0) ∙ c.loop-object.invariant.all in
    below-middle uri_at c.loop-object.set object rest (subst IsAscending (sym whole) c.requires)

pub loop-object-preserved : goal.loop-object-preserved
loop-object-preserved c =
    let object = c.in-Some.object in
    let rest = into_iter_items c.next.new.self in
    let step : into_iter_items c.loop-object.object-iterator ≡ object ∷ rest = c.in-Some.ensures.steps.0 in
    let put : c.push.new.self ≡ c.loop-object.set ++ object ∷ [] = search rules in
    record {
      all = ap (λ (l : List Object). l ++ rest) put ∙ (append_assoc c.loop-object.set (object ∷ []) rest
          ∙ (sym (ap (λ (l : List Object). c.loop-object.set ++ l) step) ∙ c.loop-object.invariant.all));
      left = let shorter = ap length step in omega (arith, c.in-Some.ensures.steps.1);
    }
