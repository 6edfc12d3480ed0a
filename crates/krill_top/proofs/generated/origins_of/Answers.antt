use Rattle.std.proofs.Common.{◌≡◌, ◌∙◌, ◌+◌, ◌++◌, ◌∷◌, [], ℕ, length, ap, sym, subst, arith, rules}
use Rattle.std.proofs.lemmas.List.{length-append}
use Rattle.krill_top.specs.Generated.{IsOriginOf, AreOriginsFrom}
use Rattle.krill_top.proofs.Granting.{origins_more, origins_listed}
use Rattle.krill_top.proofs.generated.origins_of.Goals as goal

pub loop-place-preserved : goal.loop-place-preserved
loop-place-preserved c =
    let so_far = c.loop-place.invariant in
    let items = c.loop-place.origins.items in
    let origin = c.origin_of.result in
    let pushed : c.push.new.self.items ≡ items ++ origin ∷ [] = search rules in (
      ap length pushed ∙ length-append items (origin ∷ []) ∙ ap (λ (n : ℕ). n + 1) so_far.0,
      subst (AreOriginsFrom c.args.authority 0) (sym pushed)
          (origins_more c.args.authority 0 items origin so_far.1 (subst (λ (n : ℕ). IsOriginOf c.args.authority n origin) (omega (arith, so_far.0)) c.origin_of.ensures)),
    )

pub returns : goal.returns
returns c =
    let so_far = c.loop-place.invariant in
    origins_listed c.args.authority c.new.result c.loop-place.origins.items c.new.ensures (omega (arith, so_far.0, c.loop-place-test.false, c.loop-place.auto.place-end)) so_far.1
