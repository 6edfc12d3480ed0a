use Rattle.std.proofs.Common.{drop, length, arith}
use Rattle.std.proofs.lemmas.List.{take_all, length-drop}
use Rattle.issue_plan.proofs.SpellingLemmas.{one-byte}
use Rattle.issue_plan.proofs.spellings.behind_byte.Goals as goal

pub returns-then-digits-low : goal.returns-then-digits-low
returns-then-digits-low c =
    let digits = c.args.digits.now in
    one-byte digits _ c.args.byte c.if-digits-lt2.false c.if-digits-high.true c.if-digits-low.true
    (take_all _ (drop 2 digits) (omega (arith, length-drop 2 digits)))
