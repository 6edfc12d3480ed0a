use Rattle.std.proofs.Common.{◌≡◌, List, [], ◌∷◌, ◌++◌, ◌∙◌, refl, sym, ap, subst, length, arith, rules}
use Rattle.std.specs.List.{AllByRecursion}
use Rattle.std.specs.Vec.Iter.{into_iter_items}
use Rattle.std.specs.declared.cmp.Ordering.TheVariants.{Less}
use Rattle.pub_set.specs.Objects.{uri_cmp, Rise, AllBelow}
use Rattle.pub_set.specs.laws.LookupLaws.{all_weaken, rise-head, rise-tail}
use Rattle.editions.specs.declared.standing.NextRow.{NextRow}
use Rattle.editions.specs.Joining.{at_uri}
use Rattle.editions.specs.Standing.{row_at, next_uri, next_row}
use Rattle.editions.proofs.StateLemmas.InPlace.{coming_next}
use Rattle.editions.proofs.StateLemmas.Tabled.{row_uri}
use Rattle.editions.proofs.row_merging.merged.Goals as goal

-- No row is below each URI.
nothing_below : (coming : List NextRow) → AllByRecursion (λ (next : NextRow). AllBelow row_uri [] (next_uri next)) coming
nothing_below [] = tt
nothing_below (next ∷ rest) = (tt, nothing_below rest)

pub loop-one-init : goal.loop-one-init
loop-one-init c =
    let all = c.into_iter-one-iterator.ensures.into_iter_gives in
    rw (all.0, c.in_ok-rows.ensures.items, c.from_vec-rest.ensures.items) (record {
      rows_rise = c.requires.old;
      rest_rise = c.requires.coming;
      behind = nothing_below c.args.coming.items;
      each = λ at. refl;
      left = search (rules, all.1);
    })

pub merge_one-requires-clause-rising : goal.merge_one-requires-clause-rising
merge_one-requires-clause-rising c = c.loop-one.invariant.rows_rise

pub merge_one-requires-clause-behind : goal.merge_one-requires-clause-behind
merge_one-requires-clause-behind c =
    (subst (λ (l : List NextRow). AllByRecursion (λ (next : NextRow). AllBelow row_uri c.loop-one.rows.items (next_uri next)) l)
    c.in-Some.ensures.steps.0 c.loop-one.invariant.behind).0

pub loop-one-preserved : goal.loop-one-preserved
loop-one-preserved c =
    let before = c.loop-one.invariant in
    let one = c.in-Some.one in
    let rest = into_iter_items c.next.new.self in
    let step : into_iter_items c.loop-one.one-iterator ≡ one ∷ rest = c.in-Some.ensures.steps.0 in
    let rise : Rise next_uri (one ∷ rest) = subst (λ (l : List NextRow). Rise next_uri l) step before.rest_rise in
    let put = c.in_ok-merge_one.ensures in
    let old = c.loop-one.rows.items ++ c.loop-one.rest.items in
    let rows = c.merge_one.new.rows.items in
    record {
      rows_rise = put.joined.rising;
      rest_rise = rise-tail next_uri one rest rise;
      behind = all_weaken (λ (next : NextRow). uri_cmp (next_uri one) (next_uri next) ≡ Less) (λ (next : NextRow). AllBelow row_uri rows (next_uri next))
          (λ next less. put.behind (next_uri next) less) rest (rise-head next_uri one rest rise);
      each = λ at.
          coming_next old (rows ++ c.merge_one.new.rest.items) one rest rise put.joined at
          ∙ (ap (λ (l : List NextRow). next_row (row_at old at) (at_uri next_uri l at)) (sym step) ∙ before.each at);
      left = let shorter = ap length step in omega (arith, c.in-Some.ensures.steps.1);
    }
