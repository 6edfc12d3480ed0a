use Rattle.std.proofs.Common.{inl, inr, arith}
use Rattle.std.proofs.lemmas.Bool.{false≢true}
use Rattle.res_sets.proofs.Lookups.{Comparing-past, Comparing-covered, Comparing-none, Comparing-outside}
use Rattle.res_sets.proofs.lookup.is_inside.Goals as goal
use Rattle.res_sets.proofs.lookup.is_inside.Goals.{else-outer-inner-2-via-then-outer-inner-2+else-inner-outer, else-outer-inner-2-via-else-outer-inner-2}

pub returns-in_default-split_first : goal.returns-in_default-split_first
returns-in_default-split_first c =
    (λ no. absurd (false≢true no), λ whole. absurd (Comparing-none _ _ _ _ _ _ c.in-Some.ensures.cases.0 c.in_default-split_first.ensures.cases c.loop-inner.invariant whole))

pub loop-inner-preserved-then-outer-inner : goal.loop-inner-preserved-then-outer-inner
loop-inner-preserved-then-outer-inner c =
    Comparing-past _ _ _ _ _ _ _ _ c.in-Some.ensures.cases.0 c.in-Some-split_first.ensures.cases.0 c.if-outer-inner.true c.loop-inner.invariant

pub loop-inner-preserved : goal.loop-inner-preserved
loop-inner-preserved c =
    Comparing-covered _ _ _ _ _ _ _ _ c.in-Some.ensures.cases.0 c.in-Some-split_first.ensures.cases.0 c.if-outer-inner-2.true c.if-inner-outer.true c.loop-inner.invariant

pub returns-else-outer-inner-2 : goal.returns-else-outer-inner-2
returns-else-outer-inner-2 c =
    let outside = Comparing-outside _ _ _ _ _ _ _ _ c.in-Some.ensures.cases.0 c.in-Some-split_first.ensures.cases.0 (omega (arith, c.if-outer-inner.false)) in
    (λ no. absurd (false≢true no), λ whole. absurd (elim c.else-outer-inner-2.branch [ else-outer-inner-2-via-then-outer-inner-2+else-inner-outer w ↦ outside (inr w.if-inner-outer.false) c.loop-inner.invariant whole | else-outer-inner-2-via-else-outer-inner-2 w ↦ outside (inl w.if-outer-inner-2.false) c.loop-inner.invariant whole ]))
