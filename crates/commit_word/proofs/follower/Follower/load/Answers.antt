use Rattle.std.proofs.Common.{sym, ap, ◌∙◌, arith}
use Rattle.commit_word.proofs.Moves.{loads}
use Rattle.commit_word.proofs.follower.Follower.load.Goals as goal

pub load-requires : goal.load-requires
load-requires c =
    let one = c.word.invariant.0 in (
      ap (λ x. x.word) c.self.view_is ∙ (c.requires ∙ sym c.word.view_is),
      omega arith,
      loads c.word.inside.table.shared.key.log _ _ _ c.self.invariant.0 c.self.invariant.1,
    )
