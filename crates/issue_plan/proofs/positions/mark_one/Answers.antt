use Rattle.std.proofs.Common.{Option, ℕ, [], ◌++◌, sym, subst}
use Rattle.std.specs.List.{cons_option}
use Rattle.issue_plan.specs.inner.Positions.{AreMarks}
use Rattle.issue_plan.proofs.PositionLemmas.{no-mark}
use Rattle.issue_plan.proofs.positions.mark_one.Goals as goal

pub returns-in-Some : goal.returns-in-Some
returns-in-Some c = λ count positions are.
    subst (λ (o : Option ℕ). AreMarks count (positions ++ cons_option o []) c.mark_at.new.marks.items) (sym c.in-Some.is)
    (c.mark_at.ensures count positions are)

pub returns-in-None : goal.returns-in-None
returns-in-None c = λ count positions are.
    subst (λ (o : Option ℕ). AreMarks count (positions ++ cons_option o []) c.args.marks.now.items) (sym c.in-None.is)
    (no-mark count positions c.args.marks.now.items are)
