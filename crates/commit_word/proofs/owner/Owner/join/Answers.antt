use Rattle.std.proofs.Common.{inl, sym, ap, ◌∙◌, subst, arith}
use Rattle.commit_word.specs.declared.views.View.{View}
use Rattle.commit_word.specs.Entries.{Rises}
use Rattle.commit_word.proofs.Places.{apart_as}
use Rattle.commit_word.proofs.Moves.{takes_in, looks}
use Rattle.commit_word.proofs.owner.Owner.join.Goals as goal

pub join_seat-requires : goal.join_seat-requires
join_seat-requires c =
    let one = c.word.invariant.0 in (
      ap (λ x. x.word) c.self.view_is ∙ (c.requires.word ∙ sym c.word.view_is),
      ap (λ x. x.word) c.other.view_is ∙ (c.requires.other ∙ sym c.word.view_is),
      c.other.invariant.0,
      omega arith,
      takes_in c.word.inside.table.shared.key.log _ _ _ _ c.self.invariant.1,
    )

pub load-requires : goal.load-requires
load-requires c =
    let one = c.word.invariant.0 in
    let taken = c.join_seat.ensures in (
      taken.0 ∙ (ap (λ x. x.word) c.self.view_is ∙ (c.requires.word ∙ sym c.word.view_is)),
      omega arith,
      looks c.word.inside.table.shared.key.log _ _ _ (ap (λ m. m.1) taken.2 ∙ c.self.invariant.0) (inl (ap (λ m. m.0.owns) taken.2 ∙ c.self.invariant.1)),
    )

pub returns-clause-apart : goal.returns-clause-apart
returns-clause-apart c =
    let up = subst (λ (x : View). Rises x.mine) (ap (λ m. m.0) c.join_seat.ensures.2) c.load.ensures.2.2.rises in
    apart_as c.self.inside.seat.me.0.mine c.other.inside.seat.me.0.mine _ _ up (ap (λ x. x.mine) c.self.view_is) (ap (λ x. x.mine) c.other.view_is)
