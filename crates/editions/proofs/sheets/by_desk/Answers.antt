use Rattle.std.proofs.Common.{◌∷◌, ◌++◌, [], ◌∙◌, List, cond, sym, ap, arith}
use Rattle.std.specs.Prelude.{◌==◌}
use Rattle.origins.specs.declared.Origin.{Origin}
use Rattle.entitle.specs.declared.trees.Owed.{Owed}
use Rattle.editions.proofs.StateLemmas.Shown.{origins-grown}
use Rattle.editions.proofs.sheets.by_desk.Goals as goal

pub loop-each-preserved : goal.loop-each-preserved
loop-each-preserved c =
    let each : Owed = c.each-item.result in
    record {
      count = c.in_ok-push_at.ensures.count ∙ c.loop-each.invariant.count;
      lists = λ desk less.
          c.in_ok-push_at.ensures.each desk (omega (arith, less, c.loop-each.invariant.count))
          ∙ (ap (λ (l : List Origin). l ++ cond (each.desk == desk) (each.origin ∷ []) []) (c.loop-each.invariant.lists desk less)
          ∙ sym (origins-grown c.args.owed.now c.loop-each.each-index each desk c.loop-each-test.true c.each-item.is));
    }
