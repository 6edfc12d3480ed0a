use Rattle.std.proofs.Common.{◌≡◌, ◌+◌, [], ◌∷◌, ◌++◌, take, sym, ap, ◌∙◌, None, arith}
use Rattle.std.specs.Prelude.{find, nat_le, List}
use Rattle.std.proofs.lemmas.List.{take_more, take_all}
use Rattle.key_roll.specs.declared.rows.KeyRow.{KeyRow}
use Rattle.editions.specs.Moments.{end_of_counters, counters_of}
use Rattle.editions.proofs.StateLemmas.Ends.{next_key, none_from, found_all, behind_serial, all_below}
use Rattle.editions.proofs.limits.first_at_end.Goals as goal

pub loop-row-preserved : goal.loop-row-preserved
loop-row-preserved c =
    let rows = c.args.rows.now in
    let i = c.loop-row.row-index in
    let row : KeyRow = c.row-item.result in
    let longer : take (i + 1) rows ≡ take i rows ++ row ∷ [] =
    take_more rows i row c.loop-row-test.true ∙ ap (λ (r : KeyRow). take i rows ++ r ∷ []) (sym c.row-item.is) in
    let none : c.key_at_end-ended.result ≡ None = none_from c.key_at_end-ended.result c.if-is_some.ensures in
    ap (λ (l : List KeyRow). find (nat_le end_of_counters) (counters_of l)) longer
    ∙ (next_key (take i rows) row c.loop-row.invariant ∙ (sym c.key_at_end-ended.ensures ∙ none))

pub returns-then-is_some-clause-first : goal.returns-then-is_some-clause-first
returns-then-is_some-clause-first c =
    behind_serial c.args.serial c.args.rows.now c.key_at_end-ended.result (omega arith)
    (found_all c.args.rows.now c.loop-row.row-index c.row-item.result c.key_at_end-ended.result c.loop-row-test.true c.row-item.is
    c.loop-row.invariant c.key_at_end-ended.ensures (sym c.is_some.ensures ∙ c.if-is_some.true))

pub returns-clause-none : goal.returns-clause-none
returns-clause-none c = λ _.
    let whole : take c.loop-row.row-index c.args.rows.now ≡ c.args.rows.now = take_all c.loop-row.row-index c.args.rows.now (omega arith) in
    all_below c.args.serial c.args.rows.now (omega arith)
    (sym (ap (λ (l : List KeyRow). find (nat_le end_of_counters) (counters_of l)) whole) ∙ c.loop-row.invariant)
