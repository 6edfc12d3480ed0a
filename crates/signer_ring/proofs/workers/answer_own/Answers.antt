use Rattle.std.proofs.Common.{◌≡◌, ◌≢◌, ◌+◌, [], ◌∷◌, ◌++◌, List, sym, ap, subst, rules, arith}
use Rattle.std.proofs.lemmas.Result.{err_from_is_err_and}
use Rattle.signer_api.specs.State.{SignerState}
use Rattle.signer_ring.specs.Calls.{change}
use Rattle.signer_ring.specs.Jobs.{asked, call_for, jobs_of}
use Rattle.signer_ring.specs.declared.jobs.Signed.{Signed}
use Rattle.signer_ring.proofs.Answered.{HasDone, short-none, done-stopped, done-more, done-short, done-other}
use Rattle.signer_ring.proofs.workers.answer_own.Goals as goal
use Rattle.signer_ring.proofs.workers.answer_own.Goals.{then-signer-number+in_ok-answer+in_ok-push, else-signer-number}

pub returns-in_err-answers : goal.returns-in_err-answers
returns-in_err-answers g c =
    let p = err_from_is_err_and c.from_residual.result c.from_residual.ensures.1 in
    rw (p.1, p.2) (short-none (jobs_of c.args.number c.args.jobs.now) (g.S.Signer.state c.args.signer.now))

pub returns-in_err-answer : goal.returns-in_err-answer
returns-in_err-answer g c =
    let p = err_from_is_err_and c.from_residual-in_err-answer.result c.from_residual-in_err-answer.ensures.1 in
    let own : asked c.job-item.result ≡ c.args.number = omega (arith, c.signer.ensures, c.if-signer-number.true) in
    rw (p.1, p.2)
    (done-stopped c.args.number c.args.jobs.now c.loop-job.job-index c.job-item.result c.loop-job.answers.items (g.S.Signer.state c.args.signer.now)
    (g.S.Signer.state c.loop-job.signer) (g.S.Signer.state c.answer.new.signer) c.in_err-answer.field-0.0 (λ a. change (call_for c.job-item.result a))
    c.loop-job-test.true c.job-item.is own c.loop-job.invariant c.in_err-answer.ensures.called)

pub returns-in_err-push : goal.returns-in_err-push
returns-in_err-push g c =
    let p = err_from_is_err_and c.from_residual-in_err-push.result c.from_residual-in_err-push.ensures.1 in
    let own : asked c.job-item.result ≡ c.args.number = omega (arith, c.signer.ensures, c.if-signer-number.true) in
    let a = c.in_ok-answer.field-0 in
    rw (p.1, p.2)
    (done-short c.args.number c.args.jobs.now (c.loop-job.job-index + 1) (c.loop-job.answers.items ++ a ∷ []) (g.S.Signer.state c.args.signer.now) (g.S.Signer.state c.answer.new.signer)
    (done-more c.args.number c.args.jobs.now c.loop-job.job-index c.job-item.result c.loop-job.answers.items a (g.S.Signer.state c.args.signer.now)
    (g.S.Signer.state c.loop-job.signer) (g.S.Signer.state c.answer.new.signer)
    c.loop-job-test.true c.job-item.is own c.loop-job.invariant c.in_ok-answer.ensures.fits c.in_ok-answer.ensures.called c.in_ok-answer.ensures.vouched))

pub loop-job-preserved : goal.loop-job-preserved
loop-job-preserved g c =
    let n = c.args.number in
    let jobs = c.args.jobs.now in
    let i = c.loop-job.job-index in
    let old : SignerState = g.S.Signer.state c.args.signer.now in
    let items : List Signed = c.loop-job.answers.items in
    elim c.if-signer-number.branch [
      | then-signer-number+in_ok-answer+in_ok-push w ↦
          let own : asked c.job-item.result ≡ n = omega (arith, c.signer.ensures, w.if-signer-number.true) in
          let put : c.if-signer-number.answers.items ≡ items ++ w.in_ok-answer.field-0 ∷ [] = search rules in
          let state : g.S.Signer.state c.if-signer-number.signer ≡ g.S.Signer.state w.answer.new.signer = ap g.S.Signer.state w.signer-is in
          subst (λ (s : SignerState). HasDone n jobs (i + 1) c.if-signer-number.answers.items old s) (sym state)
          (subst (λ (l : List Signed). HasDone n jobs (i + 1) l old (g.S.Signer.state w.answer.new.signer)) (sym put)
          (done-more n jobs i c.job-item.result items w.in_ok-answer.field-0 old (g.S.Signer.state c.loop-job.signer) (g.S.Signer.state w.answer.new.signer)
          c.loop-job-test.true c.job-item.is own c.loop-job.invariant w.in_ok-answer.ensures.fits w.in_ok-answer.ensures.called w.in_ok-answer.ensures.vouched))
      | else-signer-number w ↦
          let apart : asked c.job-item.result ≢ n = omega (arith, c.signer.ensures, w.if-signer-number.false) in
          let put : c.if-signer-number.answers.items ≡ items = search rules in
          let state : g.S.Signer.state c.if-signer-number.signer ≡ g.S.Signer.state c.loop-job.signer = ap g.S.Signer.state w.signer-is in
          subst (λ (s : SignerState). HasDone n jobs (i + 1) c.if-signer-number.answers.items old s) (sym state)
          (subst (λ (l : List Signed). HasDone n jobs (i + 1) l old (g.S.Signer.state c.loop-job.signer)) (sym put)
          (done-other n jobs i c.job-item.result items old (g.S.Signer.state c.loop-job.signer) c.loop-job-test.true c.job-item.is apart c.loop-job.invariant))
    ]
