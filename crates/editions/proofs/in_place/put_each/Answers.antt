use Rattle.std.proofs.Common.{◌≡◌, List, ◌∷◌, ◌++◌, ◌∙◌, refl, sym, ap, subst, length, arith, rules}
use Rattle.std.specs.Option.{option_to_list}
use Rattle.std.specs.Vec.Iter.{into_iter_items}
use Rattle.pub_set.specs.Objects.{Rise}
use Rattle.editions.specs.declared.standing.NextRow.{NextRow}
use Rattle.editions.specs.Joining.{at_uri}
use Rattle.editions.specs.Standing.{row_at, next_uri, next_row}
use Rattle.editions.proofs.in_place.put_each.Goals as goal

pub loop-one-init : goal.loop-one-init
loop-one-init c =
    let all = c.into_iter-one-iterator.ensures.into_iter_gives in
    rw (all.0) (record {
      rows_rise = c.requires.rows;
      rest_rise = c.requires.coming;
      each = λ at. refl;
      left = search (rules, all.1);
    })

pub put_behind-requires : goal.put_behind-requires
put_behind-requires c = c.loop-one.invariant.rows_rise

pub loop-one-preserved : goal.loop-one-preserved
loop-one-preserved c =
    let before = c.loop-one.invariant in
    let one = c.in-Some.one in
    let rest = into_iter_items c.next.new.self in
    let waits = option_to_list c.loop-one.waits in
    let step : into_iter_items c.loop-one.one-iterator ≡ one ∷ rest = c.in-Some.ensures.steps.0 in
    let rise : Rise next_uri (waits ++ one ∷ rest) = subst (λ (l : List NextRow). Rise next_uri (waits ++ l)) step before.rest_rise in
    let put = c.in_ok-waits.ensures in
    let old = c.loop-one.rows.items in
    record {
      rows_rise = put.rising;
      rest_rise = put.order rest rise;
      each = λ at.
          put.each rest rise at
          ∙ (ap (λ (l : List NextRow). next_row (row_at old at) (at_uri next_uri (waits ++ l) at)) (sym step) ∙ before.each at);
      left = let shorter = ap length step in omega (arith, c.in-Some.ensures.steps.1);
    }
