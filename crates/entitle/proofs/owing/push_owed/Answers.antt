use Rattle.std.proofs.Common.{◌≡◌, ◌+◌, ◌++◌, ◌∷◌, [], sym, ◌∙◌, ap, subst, take, rules}
use Rattle.std.proofs.lemmas.List.{take_more}
use Rattle.origins.specs.declared.Origin.{Origin}
use Rattle.res_sets.specs.Triples.{has}
use Rattle.entitle.specs.declared.trees.Owed.{Owed}
use Rattle.entitle.specs.Owed.{HasEach, AreThose}
use Rattle.entitle.proofs.Those.{those-held, those-not_held, pushed-held}
use Rattle.entitle.proofs.owing.push_owed.Goals as goal
use Rattle.entitle.proofs.owing.push_owed.Goals.{then-is_certified+in_ok-push, else-is_certified}

pub loop-origin-preserved : goal.loop-origin-preserved
loop-origin-preserved c =
    let IsHeld : Origin → Type 0 = λ origin. HasEach (has c.args.set.now) origin.prefix in
    let i = c.loop-origin.origin-index in
    let all = c.args.origins.now in
    let o = c.origin-item.result in
    let xs = take i all in
    let own = c.loop-origin.invariant.0 in
    let longer : take (i + 1) all ≡ xs ++ o ∷ [] = take_more all i o c.loop-origin-test.true ∙ ap (λ (x : Origin). xs ++ x ∷ []) (sym c.origin-item.is) in
    elim c.if-is_certified.branch [
      | then-is_certified+in_ok-push w ↦
          let yes : IsHeld o = c.is_certified.ensures.0 w.if-is_certified.true in
          let new : Owed = record { desk = c.args.desk; origin = o } in
          let put : c.if-is_certified.owed.items ≡ c.loop-origin.owed.items ++ new ∷ [] = search rules in (
            own ++ o ∷ [],
            subst (λ l. AreThose IsHeld l (own ++ o ∷ [])) (sym longer) (those-held IsHeld xs own o c.loop-origin.invariant.1 yes),
            put ∙ pushed-held c.args.owed.now.items c.loop-origin.owed.items c.args.desk own o c.loop-origin.invariant.2,
          )
      | else-is_certified w ↦
          let no : IsHeld o → ⊥ = search rules in
          let kept : c.if-is_certified.owed.items ≡ c.loop-origin.owed.items = search rules in
          (own, subst (λ l. AreThose IsHeld l own) (sym longer) (those-not_held IsHeld xs own o c.loop-origin.invariant.1 no), kept ∙ c.loop-origin.invariant.2)
    ]
