use Rattle.std.proofs.Common.{◌≡◌, ◌∙◌, ◌+◌, ◌++◌, ◌∷◌, [], ℕ, List, ap, arith}
use Rattle.krill_top.specs.declared.generated.Wanted.{Wanted}
use Rattle.krill_top.specs.declared.generated.Wanted.TheVariants.{AddChild, AddParent, AddOrigins}
use Rattle.krill_top.specs.Generated.{generated}
use Rattle.krill_top.proofs.Granting.{generated_more}
use Rattle.krill_top.proofs.generated.generated.Goals as goal

pub loop-before-preserved : goal.loop-before-preserved
loop-before-preserved c =
    let authority : ℕ = c.loop-before.before + 1 in
    c.in_ok-push-4.ensures.items
    ∙ ap (λ (l : List Wanted). l ++ AddOrigins authority ∷ []) (c.in_ok-push-3.ensures.items
    ∙ ap (λ (l : List Wanted). l ++ AddParent authority ∷ []) (c.in_ok-push-2.ensures.items
    ∙ ap (λ (l : List Wanted). l ++ AddChild authority ∷ []) c.in_ok-push.ensures.items))
    ∙ generated_more c.loop-before.before c.loop-before.all.items c.loop-before.invariant

pub returns : goal.returns
returns c =
    let whole : c.loop-before.before ≡ c.args.authorities = omega (arith, c.loop-before-test.false, c.loop-before.auto.before-end) in
    c.loop-before.invariant ∙ ap generated whole
