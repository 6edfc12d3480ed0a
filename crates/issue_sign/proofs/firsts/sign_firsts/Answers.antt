use Rattle.std.proofs.Common.{◌≡◌, length, refl, sym, ap, subst, ◌∙◌}
use Rattle.std.proofs.lemmas.Result.{err_from_is_err_and}
use Rattle.issue_drafts.specs.IssueInput.{input_of}
use Rattle.signer_ring.specs.laws.KeepsLaws.{kept-all}
use Rattle.issue_sign.proofs.PhaseEnds.{drafts-unmade, firsts-signers, firsts-kinds, firsts-halves, firsts-stopped}
use Rattle.issue_sign.proofs.firsts.sign_firsts.Goals as goal

pub returns-in_err-steps-clause-stopped : goal.returns-in_err-steps-clause-stopped
returns-in_err-steps-clause-stopped g c =
    let p = err_from_is_err_and c.from_residual.result c.from_residual.ensures.1 in
    rw (p.1, p.2) (λ b basis are. drafts-unmade (input_of c.args.sign_input.now.input.now) b c.args.drafts.now c.args.ring.now)

pub returns-in_err-steps-clause-kept : goal.returns-in_err-steps-clause-kept
returns-in_err-steps-clause-kept g c = kept-all c.args.ring.now

pub sign_steps-requires-clause-signers : goal.sign_steps-requires-clause-signers
sign_steps-requires-clause-signers g c = λ lifetimes lives.
    firsts-signers (length c.args.ring.now) c.args.drafts.now c.in_ok-steps.steps.items c.requires.signers c.in_ok-steps.ensures.steps

pub returns-in_err-halves-clause-stopped : goal.returns-in_err-halves-clause-stopped
returns-in_err-halves-clause-stopped g c =
    let p = err_from_is_err_and c.from_residual-in_err-halves.result c.from_residual-in_err-halves.ensures.1 in
    rw (p.1, p.2)
    (λ b basis are.
    firsts-stopped (input_of c.args.sign_input.now.input.now) b c.args.drafts.now c.in_ok-steps.steps.items c.args.ring.now c.sign_steps.new.ring
    c.in_err-halves.field-0.0 c.in_ok-steps.ensures.each c.in_ok-steps.ensures.steps (c.in_ok-steps.ensures.firsts b basis are)
    c.in_err-halves.ensures.stopped)

pub returns-clause-kinds : goal.returns-clause-kinds
returns-clause-kinds g c =
    firsts-kinds c.args.sign_input.now.input.now.work.now.moment c.args.drafts.now c.in_ok-steps.steps.items c.in_ok-halves.halves.items
    c.in_ok-steps.ensures.steps c.in_ok-halves.ensures.outcomes

pub returns-clause-halves : goal.returns-clause-halves
returns-clause-halves g c =
    λ b basis are.
    firsts-halves (input_of c.args.sign_input.now.input.now) b c.args.drafts.now c.in_ok-steps.steps.items c.in_ok-halves.halves.items c.args.ring.now
    c.sign_steps.new.ring c.in_ok-halves.ensures.each c.in_ok-steps.ensures.steps (c.in_ok-steps.ensures.firsts b basis are)
    c.in_ok-halves.ensures.outcomes c.in_ok-halves.ensures.called
