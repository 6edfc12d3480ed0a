use Rattle.std.proofs.Common.{◌≡◌, ◌+◌, ◌-◌, suc, false, sym, subst, ap, ap₂, ◌∙◌, refl, arith, get_or, rules}
use Rattle.std.specs.Ordering.{is_lt}
use Rattle.std.specs.declared.cmp.Ordering.TheVariants.{Less}
use Rattle.std.proofs.lemmas.List.{get_or_default}
use Rattle.key_roll.specs.declared.issued.IssuedRow.{IssuedRow}
use Rattle.pub_set.specs.Objects.{uri_cmp}
use Rattle.issue_plan.proofs.PositionLemmas.{rise-adjacent, adjacent-rise}
use Rattle.issue_plan.proofs.positions.are_by_uri.Goals as goal

pub returns-then-not-is_below : goal.returns-then-not-is_below
returns-then-not-is_below c =
    let rows = c.args.issued.now in
    let position = c.loop-position.position in
    let k = position - 1 in
    let a = c.index-issued-position.result in
    let b = c.index-issued-position-in-loop-position.result in (
      λ same. absurd cc,
      λ up.
          let next : k + 1 ≡ position = omega arith in
          let less : uri_cmp (get_or rows k a).uri (get_or rows (k + 1) a).uri ≡ Less = adjacent-rise rows k a up (omega arith) in
          let first : get_or rows k a ≡ a = sym c.index-issued-position.is in
          let second : get_or rows (k + 1) a ≡ b =
          ap (λ n. get_or rows n a) next ∙ (get_or_default rows position a b (omega arith) ∙ sym c.index-issued-position-in-loop-position.is) in
          let here : uri_cmp a.uri b.uri ≡ Less = sym (ap₂ (λ (x y : IssuedRow). uri_cmp x.uri y.uri) first second) ∙ less in
          let no : is_lt (uri_cmp a.uri b.uri) ≡ false = search rules in
          let contrary : is_lt Less ≡ false = sym (ap is_lt here) ∙ no in
          absurd cc,
    )

pub returns : goal.returns
returns c =
    let rows = c.args.issued.now in (
      λ same. rise-adjacent rows (λ k d inside.
          let next : k + 1 ≡ suc k = omega arith in
          subst (λ n. uri_cmp (get_or rows k d).uri (get_or rows n d).uri ≡ Less) next
          (c.loop-position.invariant k d (omega (arith, inside)))),
      λ up. refl,
    )
