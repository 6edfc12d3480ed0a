use Rattle.std.proofs.Common.{◌≡◌, ℕ, rules}
use Rattle.res_sets.specs.Numbers.{any_spans, RisesFrom}
use Rattle.res_sets.proofs.Spelled.{SpellsRanges-from}
use Rattle.res_sets.proofs.texts.read_ranges.Goals as goal

pub returns-clause-read : goal.returns-clause-read
returns-clause-read c =
    let rises : RisesFrom 0 c.in_ok-join_all.field-0.items = search rules in
    let members : (n : ℕ) → any_spans c.in_ok-join_all.field-0.items n ≡ any_spans c.in_ok-ranges.ranges.items n = search rules in
    SpellsRanges-from c.args.family c.args.text.now c.in_ok-ranges.ranges.items c.in_ok-join_all.field-0.items c.in_ok-ranges.ensures.read rises members
