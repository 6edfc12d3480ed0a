use Rattle.std.proofs.Common.{◌∙◌, arith}
use Rattle.commit_word.proofs.word.Word.close.Goals as goal

pub free-requires : goal.free-requires
free-requires c k low =
    let none = c.close_with-closed.ensures.counts.1 ∙ c.self.invariant.1 in
    absurd (omega arith)
