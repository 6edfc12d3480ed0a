use Rattle.std.proofs.Common.{◌≡◌, length, refl, sym, ap, subst, ◌∙◌}
use Rattle.std.proofs.lemmas.Result.{err_from_is_err_and}
use Rattle.issue_drafts.specs.IssueInput.{input_of}
use Rattle.signer_ring.specs.laws.KeepsLaws.{kept-all}
use Rattle.issue_sign.proofs.PhaseEnds.{contents-short, manifest-signers, lasts-stopped, lasts-made, lasts-short, all-whole}
use Rattle.issue_sign.proofs.manifests.finish_all.Goals as goal

pub returns-in_err-steps-clause-stopped : goal.returns-in_err-steps-clause-stopped
returns-in_err-steps-clause-stopped g c =
    let p = err_from_is_err_and c.from_residual.result c.from_residual.ensures.1 in
    rw (p.1, p.2)
    (λ b lists old basis are was.
    contents-short (input_of c.args.sign_input.now.input.now) b c.args.manifests.now c.args.halves.items old c.args.ring.now c.requires.each was)

pub returns-in_err-steps-clause-kept : goal.returns-in_err-steps-clause-kept
returns-in_err-steps-clause-kept g c = kept-all c.args.ring.now

pub sign_steps-requires-clause-signers : goal.sign_steps-requires-clause-signers
sign_steps-requires-clause-signers g c = λ lifetimes lives.
    manifest-signers (length c.args.ring.now) c.args.manifests.now c.in_ok-steps.steps.items c.requires.signers c.in_ok-steps.ensures.issuers

pub returns-in_err-halves-clause-stopped : goal.returns-in_err-halves-clause-stopped
returns-in_err-halves-clause-stopped g c =
    let p = err_from_is_err_and c.from_residual-in_err-halves.result c.from_residual-in_err-halves.ensures.1 in
    rw (p.1, p.2)
    (λ b lists old basis are was.
    lasts-stopped (input_of c.args.sign_input.now.input.now) b c.args.manifests.now c.args.halves.items c.in_ok-steps.steps.items old c.args.ring.now
    c.sign_steps.new.ring c.in_err-halves.field-0.0 c.requires.each c.in_ok-steps.ensures.each was c.in_ok-steps.ensures.issuers
    (c.in_ok-steps.ensures.lasts b lists basis are) c.in_err-halves.ensures.stopped)

pub objects-requires : goal.objects-requires
objects-requires g c =
    all-whole c.args.sign_input.now.input.now.work.now.moment c.in_ok-steps.steps.items c.in_ok-halves.halves.items c.in_ok-steps.ensures.made
    c.in_ok-halves.ensures.outcomes

pub returns-in_err-objects-clause-stopped : goal.returns-in_err-objects-clause-stopped
returns-in_err-objects-clause-stopped g c =
    let p = err_from_is_err_and c.from_residual-in_err-objects.result c.from_residual-in_err-objects.ensures.1 in
    rw (p.1, p.2)
    (λ b lists old basis are was.
    lasts-short (input_of c.args.sign_input.now.input.now) b c.args.manifests.now c.args.halves.items c.in_ok-steps.steps.items c.in_ok-halves.halves.items
    old c.args.ring.now c.sign_steps.new.ring c.requires.each c.in_ok-steps.ensures.each c.in_ok-halves.ensures.each was
    c.in_ok-steps.ensures.issuers (c.in_ok-steps.ensures.lasts b lists basis are) c.in_ok-steps.ensures.made c.in_ok-halves.ensures.outcomes
    c.in_ok-halves.ensures.called)

pub returns-clause-made : goal.returns-clause-made
returns-clause-made g c =
    λ b lists old basis are was.
    lasts-made c.vouched_stays.ensures (input_of c.args.sign_input.now.input.now) b c.args.manifests.now c.args.halves.items c.in_ok-steps.steps.items
    c.in_ok-halves.halves.items c.in_ok-objects.objects.items old c.args.ring.now c.sign_steps.new.ring c.requires.each c.in_ok-steps.ensures.each
    c.in_ok-halves.ensures.each c.in_ok-objects.ensures was c.in_ok-steps.ensures.issuers (c.in_ok-steps.ensures.lasts b lists basis are)
    c.in_ok-halves.ensures.outcomes c.in_ok-halves.ensures.called
