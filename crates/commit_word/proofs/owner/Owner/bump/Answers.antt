use Rattle.std.proofs.Common.{◌<◌, ◌^◌, length, sym, ap, ◌∙◌, subst, arith}
use Rattle.commit_word.specs.Seats.{OwnerSeat}
use Rattle.commit_word.proofs.Moves.{bumps}
use Rattle.commit_word.proofs.owner.Owner.bump.Goals as goal

pub fetch_add-requires : goal.fetch_add-requires
fetch_add-requires c =
    let one = c.word.invariant.0 in (
      ap (λ x. x.word) c.self.view_is ∙ (c.requires.word ∙ sym c.word.view_is),
      omega arith,
      bumps c.word.inside.table.shared.key.log _ _ _ c.self.invariant.0 c.self.invariant.1 (subst (λ (x : OwnerSeat). length x.seen < 2 ^ 63) (sym c.self.view_is) c.requires.room),
    )
