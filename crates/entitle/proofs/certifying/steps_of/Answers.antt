use Rattle.std.proofs.Common.{◌≡◌, ℕ, ◌+◌, ◌-◌, suc, false, sym, ◌∙◌, ap, arith, inl, inr, rules}
use Rattle.std.specs.Prelude.{None, Some, option_map}
use Rattle.std.proofs.lemmas.Bool.{cases_lt}
use Rattle.entitle.specs.Certified.{Grant, is_anchor, settings_of, grant_of}
use Rattle.entitle.specs.inner.Steps.{reaches}
use Rattle.entitle.proofs.Reaching.{reaches_last, reaches_next, without_grant, with_grant}
use Rattle.entitle.proofs.certifying.steps_of.Goals as goal

pub returns-then-is_anchor : goal.returns-then-is_anchor
returns-then-is_anchor c =
    let configs = settings_of c.args.configs.now in
    let name = c.args.name.now in
    let s = c.loop-steps.steps in
    let none_more : s ≡ s + 0 = omega arith in
    record {
      within = omega arith;
      enough = ap (λ n. reaches configs n name) none_more ∙ (c.loop-steps.invariant.behind 0 ∙ (sym c.is_anchor.ensures ∙ c.if-is_anchor.true));
      least = c.loop-steps.invariant.passed;
    }

pub returns-in_err-at : goal.returns-in_err-at
returns-in_err-at c =
    let configs = settings_of c.args.configs.now in
    let name = c.args.name.now in
    let s = c.loop-steps.steps in
    let other : is_anchor c.loop-steps.at ≡ false = sym c.is_anchor.ensures ∙ c.if-is_anchor.false in
    let none : option_map (λ (g : Grant). g.parent) (grant_of configs c.loop-steps.at) ≡ None = search rules in
    let far = without_grant (grant_of configs c.loop-steps.at) none in
    let all : (parents : ℕ) → reaches configs parents name ≡ false = λ parents. elim (cases_lt parents s) [
      | inl before ↦ c.loop-steps.invariant.passed parents before
      | inr after ↦
          let split : parents ≡ s + (parents - s) = omega arith in
          ap (λ n. reaches configs n name) split ∙ (c.loop-steps.invariant.behind (parents - s)
          ∙ reaches_last configs (parents - s) c.loop-steps.at other far)
    ] in
    search (rules, all)

pub loop-steps-preserved : goal.loop-steps-preserved
loop-steps-preserved c =
    let configs = settings_of c.args.configs.now in
    let name = c.args.name.now in
    let s = c.loop-steps.steps in
    let at = c.loop-steps.at in
    let other : is_anchor at ≡ false = sym c.is_anchor.ensures ∙ c.if-is_anchor.false in
    let some : option_map (λ (g : Grant). g.parent) (grant_of configs at) ≡ Some c.in_ok-at.at = search rules in
    let grant = with_grant (grant_of configs at) c.in_ok-at.at some in
    record {
      passed = λ fewer within. elim (cases_lt fewer s) [
        | inl before ↦ c.loop-steps.invariant.passed fewer before
        | inr after ↦
            let here : fewer ≡ s + 0 = omega arith in
            ap (λ n. reaches configs n name) here ∙ (c.loop-steps.invariant.behind 0 ∙ other)
      ];
      behind = λ more.
          let next : s + 1 + more ≡ s + suc more = omega arith in
          ap (λ n. reaches configs n name) next ∙ (c.loop-steps.invariant.behind (suc more)
          ∙ (reaches_next configs more at grant.0 other grant.1 ∙ ap (λ n. reaches configs more n) grant.2));
    }
