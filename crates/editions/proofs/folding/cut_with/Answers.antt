use Rattle.std.proofs.Common.{◌≡◌, ℕ, ◌<◌, ◌+◌, ◌∷◌, [], ◌∙◌, sym, ap, ap₂, subst, length, get_or, set, drop, arith}
use Rattle.std.proofs.lemmas.List.{length-set, get_or_default, drop_all}
use Rattle.editions.specs.declared.gathered.Gathered.{Gathered}
use Rattle.editions.specs.Gathering.{cut_with}
use Rattle.editions.proofs.StateLemmas.Folds.{cut-taken, cut-none}
use Rattle.editions.proofs.StateLemmas.Growing.{next-dropped}
use Rattle.editions.proofs.folding.cut_with.Goals as goal

pub loop-group-preserved : goal.loop-group-preserved
loop-group-preserved c =
    let group : Gathered = c.group-item.result in
    let gathered = c.args.gathered.now in
    let i = c.loop-group.group-index in
    let items = c.loop-group.next.items in
    let rest = drop (i + 1) gathered in
    let step : drop i gathered ≡ group ∷ rest = next-dropped gathered i group c.loop-group-test.true c.group-item.is in
    let of_cut : group.desk < length c.args.cut.now =
    subst (λ (g : Gathered). g.desk < length c.args.cut.now) (sym c.group-item.is) (c.requires.desks i group c.loop-group-test.true) in
    let inside : group.desk < length items = omega (arith, c.loop-group.invariant.long, of_cut) in
    let sum = c.in_ok-next-2.field-0 in
    let old : c.index.result.now ≡ get_or items group.desk 0 =
    c.index.ensures ∙ get_or_default items group.desk c.index.result.now 0 inside in
    let value : sum ≡ get_or items group.desk 0 + length group.commands =
    c.in_ok-next-2.ensures ∙ ap₂ (λ (a b : ℕ). a + b) old c.len.ensures in
    record {
      rest = ap (λ (n : ℕ). cut_with (set items group.desk n) rest) value
          ∙ (cut-taken 0 items group rest group.desk (omega arith) inside ∙ (sym (ap (cut_with items) step) ∙ c.loop-group.invariant.rest));
      long = length-set items group.desk sum ∙ c.loop-group.invariant.long;
    }

pub returns : goal.returns
returns c =
    let none : drop c.loop-group.group-index c.args.gathered.now ≡ [] = drop_all c.loop-group.group-index c.args.gathered.now (omega arith) in
    sym (cut-none 0 c.loop-group.next.items) ∙ (ap (cut_with c.loop-group.next.items) (sym none) ∙ c.loop-group.invariant.rest)
