use Rattle.std.proofs.Common.{◌≡◌, List, ℕ, [], sym, subst, refl, arith}
use Rattle.press_core.specs.Resuming.{AreFirsts}
use Rattle.test_press.proofs.publications.trials.load_empty.Goals as goal

-- Before the first edition no command is taken in.
none-yet : (cut : List ℕ) → cut ≡ [] → AreFirsts cut []
none-yet cut none = subst (λ (c : List ℕ). AreFirsts c []) (sym none) (record {
  desks = λ k group inside. absurd (omega (arith, inside));
  once = λ i j group before inside. absurd (omega (arith, inside));
  from = λ k group inside. absurd (omega (arith, inside));
  count = λ desk. refl;
  taken = λ desk less. absurd (omega (arith, less));
})

pub returns-clause-firsts : goal.returns-clause-firsts
returns-clause-firsts c =
    let zero : c.in-Ok.loaded.serial ≡ 0 = omega arith in
    none-yet c.in-Ok.loaded.cut (c.in-Ok.ensures.order.before zero).2
