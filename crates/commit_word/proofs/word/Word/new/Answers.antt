use Rattle.std.proofs.Common.{length, ap, ◌∙◌}
use Rattle.commit_word.proofs.Kept.{first_kept}
use Rattle.commit_word.proofs.word.Word.new.Goals as goal

pub of_words-requires : goal.of_words-requires
of_words-requires g c = first_kept c.recovered.result.log c.args.count (ap length c.recovered.ensures ∙ c.requires)
