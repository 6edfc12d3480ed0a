use Rattle.std.proofs.Common.{Option, List, ℕ, ◌++◌, take, subst, arith}
use Rattle.std.specs.List.{filter_map}
use Rattle.issue_plan.specs.inner.Positions.{AreMarks}
use Rattle.issue_plan.proofs.PositionLemmas.{no-mark, more-found, all-taken}
use Rattle.issue_plan.proofs.positions.mark_found.Goals as goal

pub loop-position-init : goal.loop-position-init
loop-position-init c = λ count positions are. no-mark count positions c.args.marks.now.items are

pub loop-position-preserved : goal.loop-position-preserved
loop-position-preserved c = λ count positions are.
    let found = c.args.found.now in
    let i = c.loop-position.position-index in
    subst (λ (l : List ℕ). AreMarks count l c.mark_one.new.marks.items)
    (more-found positions found i _ c.loop-position-test.true)
    (c.mark_one.ensures count (positions ++ filter_map (λ p. p) (take i found)) (c.loop-position.invariant count positions are))

pub returns : goal.returns
returns c = λ count positions are.
    subst (λ (l : List (Option ℕ)). AreMarks count (positions ++ filter_map (λ p. p) l) c.loop-position.marks.items)
    (all-taken c.args.found.now c.loop-position.position-index (omega arith))
    (c.loop-position.invariant count positions are)
