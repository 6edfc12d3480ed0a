use Rattle.std.proofs.Common.{sym, ap, ◌∙◌, subst, arith}
use Rattle.commit_word.specs.Seats.{OwnerSeat}
use Rattle.commit_word.specs.inner.Steps.{IsMadeBy}
use Rattle.commit_word.proofs.Kept.{aside_made}
use Rattle.commit_word.proofs.Moves.{sets_aside}
use Rattle.commit_word.proofs.owner.Owner.split_for.Goals as goal

pub split_seat-seat-requires : goal.split_seat-seat-requires
split_seat-seat-requires g c =
    let one = c.word.invariant.0 in (
      ap (λ x. x.word) c.self.view_is ∙ (c.requires.word ∙ sym c.word.view_is),
      omega arith,
      sets_aside c.word.inside.table.shared.key.log _ _ g.E.Entries.list c.self.invariant.1 (ap (λ (x : OwnerSeat). x.coming) c.self.view_is ∙ c.requires.none) c.requires.one,
    )

pub invariant_of-result : goal.invariant_of-result
invariant_of-result g c =
    let me = c.split_seat-seat.ensures.4 in (
      ap (λ m. m.1) me,
      ap (λ m. m.0.owns) me,
      subst IsMadeBy (sym (ap (λ m. m.0) me)) (aside_made c.self.inside.seat.me.0 g.E.Entries.list c.self.invariant.2.known c.requires.one),
    )
