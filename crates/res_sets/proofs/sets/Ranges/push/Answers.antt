use Rattle.std.proofs.Common.{subst, sym, ap, List, ◌∷◌, [], length, refl, arith, length-append}
use Rattle.res_sets.specs.declared.numbers.Range.{Range}
use Rattle.res_sets.specs.Numbers.{AreCanonical}
use Rattle.res_sets.specs.Merging.{room_from}
use Rattle.res_sets.specs.Sets.{RangeSet, GoesBehind}
use Rattle.res_sets.specs.laws.SetLaws.{canonical_with}
use Rattle.res_sets.proofs.sets.Ranges.push.Goals as goal

pub invariant_of-self-2 : goal.invariant_of-self-2
invariant_of-self-2 c =
    let set : RangeSet = record { family = c.self.inside.family; ranges = c.self.inside.ranges.items } in
    let invariant = c.self.invariant in
    let goes = c.if-not-goes_behind.ensures.0 refl in
    let place = ap (λ (rs : List Range). room_from 0 rs) c.deref.ensures.value in
    let behind : GoesBehind set c.args.range = record { apart = omega (arith, goes.0, place); within = goes.1 } in
    let is = c.in_ok-push.ensures.items in
    let size = ap (λ (rs : List Range). length rs) is in
    let more = length-append c.self.inside.ranges.items (c.args.range ∷ []) in (
      subst (λ (rs : List Range). AreCanonical c.self.inside.family rs) (sym is) (canonical_with set c.args.range invariant.0 behind),
      omega (arith, size, more, invariant.1, c.len.ensures),
    )
