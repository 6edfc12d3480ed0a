use Rattle.std.proofs.Common.{sym, ◌∙◌, arith}
use Rattle.commit_word.proofs.Moves.{copies}
use Rattle.commit_word.proofs.word.Word.copied.Goals as goal

pub split_seat-requires : goal.split_seat-requires
split_seat-requires c =
    let one = c.self.invariant.0 in (
      c.requires ∙ sym c.self.view_is,
      omega arith,
      copies c.self.inside.table.shared.key.log _ _,
    )
