use Rattle.std.proofs.Common.{[], refl}
use Rattle.issue_plan.proofs.SpellingLemmas.{behind-more, behind-none}
use Rattle.issue_plan.proofs.spellings.behind_text.Goals as goal

pub loop-byte-init : goal.loop-byte-init
loop-byte-init c = behind-none c.args.digits.now [] refl

pub loop-byte-preserved : goal.loop-byte-preserved
loop-byte-preserved c =
    behind-more c.args.digits.now c.args.text.now c.loop-byte.byte-index _ c.loop-byte.rest.now c.in_ok-rest.rest.now
    c.loop-byte-test.true refl c.loop-byte.invariant c.in_ok-rest.ensures
