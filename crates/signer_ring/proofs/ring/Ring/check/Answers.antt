use Rattle.std.proofs.Common.{◌<◌, ◌∙◌, length, arith, subst, List}
use Rattle.signer_api.specs.State.{SignerState}
use Rattle.signer_ring.specs.Ring.{Keeps}
use Rattle.signer_ring.proofs.RingCalls.{called_keeps}
use Rattle.signer_ring.proofs.Asked.{says_yes, yes_vouched, says_no}
use Rattle.signer_ring.proofs.ring.Ring.check.Goals as goal

pub returns-in_err-ask-clause-kept : goal.returns-in_err-ask-clause-kept
returns-in_err-ask-clause-kept g c =
    subst (λ (ring : List SignerState). Keeps ring c.ask.new.self) c.loop-number.invariant.0 (called_keeps _ _ _ c.ask.ensures.called)

pub returns-then-branch-clause-some : goal.returns-then-branch-clause-some
returns-then-branch-clause-some g c =
    let low : c.loop-number.number < length c.args.self.now = omega (arith, c.loop-number-test.true, c.loop-number.invariant.1) in
    says_yes _ _ _ _ _ c.loop-number.number _ c.loop-number.invariant.0 low c.if-branch.true c.in_ok-ask.ensures.answer

pub returns-then-branch-clause-answer : goal.returns-then-branch-clause-answer
returns-then-branch-clause-answer g c =
    yes_vouched _ _ _ _ _ (c.in_ok-ask.ensures.called ∙ c.loop-number.invariant.0) (returns-then-branch-clause-some g c)

pub loop-number-preserved : goal.loop-number-preserved
loop-number-preserved g c =
    let low : c.loop-number.number < length c.args.self.now = omega (arith, c.loop-number-test.true, c.loop-number.invariant.1) in (
      c.in_ok-ask.ensures.called ∙ c.loop-number.invariant.0,
      c.loop-number.invariant.1,
      says_no _ _ _ _ _ _ _ c.loop-number.invariant.0 low c.if-branch.false c.in_ok-ask.ensures.answer c.loop-number.invariant.2,
    )
