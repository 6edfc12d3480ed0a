use Rattle.std.proofs.Common.{◌<◌, List, length, sym, ap, subst, ◌∙◌}
use Rattle.std.proofs.lemmas.Result.{err_from_is_err_and}
use Rattle.std.specs.Prelude.{All}
use Rattle.std.specs.List.{filter_map}
use Rattle.signer_ring.specs.Jobs.{asked, AreAnswers, calls_for}
use Rattle.signer_ring.specs.declared.jobs.SignJob.{SignJob}
use Rattle.signer_ring.specs.declared.jobs.Signed as ring
use Rattle.signer_ring.specs.laws.KeepsLaws.{kept-all}
use Rattle.issue_sign.specs.inner.Steps.{job_of, told, AreCalled, IsAskStop}
use Rattle.issue_sign.proofs.Answered.{jobs-there}
use Rattle.issue_sign.proofs.Fronts.{unasked, ask-stop, answered-short}
use Rattle.issue_sign.proofs.PhaseEnds.{called-steps}
use Rattle.issue_sign.proofs.phases.sign_steps.Goals as goal

pub returns-in_err-jobs-clause-stopped : goal.returns-in_err-jobs-clause-stopped
returns-in_err-jobs-clause-stopped g c =
    let p = err_from_is_err_and c.from_residual.result c.from_residual.ensures.1 in
    rw (p.1, p.2) (unasked c.args.moment c.args.steps.items c.args.ring.now)

pub returns-in_err-jobs-clause-kept : goal.returns-in_err-jobs-clause-kept
returns-in_err-jobs-clause-kept g c = kept-all c.args.ring.now

pub ask-requires-clause-there : goal.ask-requires-clause-there
ask-requires-clause-there g c = λ lifetimes lives.
    let jobs = c.in_ok-jobs.ensures ∙ ap (filter_map (job_of c.args.moment)) c.deref.ensures.value in
    subst (λ (js : List SignJob). All (λ job. asked job < length c.args.ring.now) js) (sym jobs)
    (jobs-there c.args.moment (length c.args.ring.now) c.args.steps.items c.requires.signers)

pub returns-in_err-answers-clause-stopped : goal.returns-in_err-answers-clause-stopped
returns-in_err-answers-clause-stopped g c =
    let p = err_from_is_err_and c.from_residual-in_err-answers.result c.from_residual-in_err-answers.ensures.1 in
    let jobs = c.in_ok-jobs.ensures ∙ ap (filter_map (job_of c.args.moment)) c.deref.ensures.value in
    rw (p.1, p.2)
    (ask-stop c.args.moment c.args.steps.items c.args.ring.now c.ask.new.ring c.in_err-answers.field-0.0
    (subst (λ (js : List SignJob). IsAskStop js c.args.ring.now c.ask.new.ring c.in_err-answers.field-0.0) jobs c.in_err-answers.ensures.stopped))

pub halves-requires-clause-answers : goal.halves-requires-clause-answers
halves-requires-clause-answers g c =
    let jobs = c.in_ok-jobs.ensures ∙ ap (filter_map (job_of c.args.moment)) c.deref.ensures.value in
    subst (λ (l : List ring.Signed). AreAnswers (filter_map (job_of c.args.moment) c.args.steps.items) l) (sym c.deref-2.ensures.value)
    (subst (λ (js : List SignJob). AreAnswers js c.in_ok-answers.answers.items) jobs c.in_ok-answers.ensures.answered)

pub returns-in_err-halves-clause-stopped : goal.returns-in_err-halves-clause-stopped
returns-in_err-halves-clause-stopped g c =
    let p = err_from_is_err_and c.from_residual-in_err-halves.result c.from_residual-in_err-halves.ensures.1 in
    let answers = c.in_ok-answers.answers.items in
    let jobs = c.in_ok-jobs.ensures ∙ ap (filter_map (job_of c.args.moment)) c.deref.ensures.value in
    let called = subst (λ (js : List SignJob). AreCalled c.args.ring.now c.ask.new.ring (calls_for js answers)) jobs c.in_ok-answers.ensures.called in
    rw (p.1, p.2)
    (answered-short c.args.moment c.args.steps.items answers c.args.ring.now c.ask.new.ring
    (subst (λ (js : List SignJob). AreAnswers js answers) jobs c.in_ok-answers.ensures.answered) called.signers)

pub returns-clause-called : goal.returns-clause-called
returns-clause-called g c =
    let answers = c.in_ok-answers.answers.items in
    let jobs = c.in_ok-jobs.ensures ∙ ap (filter_map (job_of c.args.moment)) c.deref.ensures.value in
    called-steps c.args.moment c.args.steps.items answers c.in_ok-halves.halves.items c.args.ring.now c.ask.new.ring
    (subst (λ (js : List SignJob). AreAnswers js answers) jobs c.in_ok-answers.ensures.answered)
    (c.in_ok-halves.ensures.answers ∙ ap (told c.args.steps.items) c.deref-2.ensures.value)
    (subst (λ (js : List SignJob). AreCalled c.args.ring.now c.ask.new.ring (calls_for js answers)) jobs c.in_ok-answers.ensures.called)
