use Rattle.std.proofs.Common.{◌≡◌, ◌<◌, ◌+◌, ℕ, List, [], ◌∷◌, ◌++◌, length, get_or, set, sym, ap, subst, ◌∙◌, arith}
use Rattle.signer_ring.specs.Jobs.{asked}
use Rattle.signer_ring.specs.declared.jobs.Signed.{Signed}
use Rattle.signer_ring.specs.inner.Working.{given}
use Rattle.signer_ring.proofs.Merged.{AreMerged, more-of, merged-more, merged-all, there-at, told-at, taken-few}
use Rattle.signer_ring.proofs.merging.merge.Goals as goal

pub answer_at-answer-requires : goal.answer_at-answer-requires
answer_at-answer-requires c =
    let jobs = c.args.jobs.now in
    let told = c.args.told.now in
    let job = c.job-item.result in
    let u = c.index-told-number.result in
    let is : c.signer-number.result ≡ asked job = c.signer-number.ensures in
    let low = there-at jobs told c.loop-job.job-index job c.requires.there c.loop-job-test.true c.job-item.is in
    let at = told-at told (asked job) u low (c.index-told-number.is ∙ ap (λ (n : ℕ). get_or told n u) is) in
    subst (λ (n : ℕ). get_or c.loop-job.taken n 0 < length (given u)) (sym is)
    (more-of jobs c.loop-job.job-index told c.loop-job.taken c.loop-job.answers.items job u c.loop-job.invariant.merged c.loop-job-test.true c.job-item.is at
    (c.requires.each (asked job) u at))

pub overflow_add-taken : goal.overflow_add-taken
overflow_add-taken c =
    let jobs = c.args.jobs.now in
    let told = c.args.told.now in
    let job = c.job-item.result in
    let is : c.signer-number.result ≡ asked job = c.signer-number.ensures in
    let low = there-at jobs told c.loop-job.job-index job c.requires.there c.loop-job-test.true c.job-item.is in
    let few = taken-few jobs c.loop-job.job-index told c.loop-job.taken c.loop-job.answers.items (asked job) c.loop-job.invariant.merged
    c.loop-job-test.true low in
    let same = ap (λ (n : ℕ). get_or c.loop-job.taken n 0) is in
    omega (arith, few, same, c.loop-job-test.true)

pub loop-job-preserved : goal.loop-job-preserved
loop-job-preserved c =
    let jobs = c.args.jobs.now in
    let told = c.args.told.now in
    let i = c.loop-job.job-index in
    let job = c.job-item.result in
    let taken = c.loop-job.taken in
    let answers = c.loop-job.answers.items in
    let u = c.index-told-number.result in
    let a = c.answer_at-answer.result in
    let is : c.signer-number.result ≡ asked job = c.signer-number.ensures in
    let low = there-at jobs told i job c.requires.there c.loop-job-test.true c.job-item.is in
    let at = told-at told (asked job) u low (c.index-told-number.is ∙ ap (λ (n : ℕ). get_or told n u) is) in
    let was = c.loop-job.invariant in
    let few = more-of jobs i told taken answers job u was.merged c.loop-job-test.true c.job-item.is at (c.requires.each (asked job) u at) in
    let read : a ≡ get_or (given u) (get_or taken (asked job) 0) a =
    c.answer_at-answer.ensures a ∙ ap (λ (n : ℕ). get_or (given u) (get_or taken n 0) a) is in
    record {
      merged = subst (λ (l : List Signed). AreMerged jobs (i + 1) told (set taken c.signer-number.result (get_or taken c.signer-number.result 0 + 1)) l)
          (sym c.put.ensures.items)
          (subst (λ (n : ℕ). AreMerged jobs (i + 1) told (set taken n (get_or taken n 0 + 1)) (answers ++ a ∷ [])) (sym is)
          (merged-more jobs i told taken answers job u a was.merged c.loop-job-test.true c.job-item.is at few read));
      room = omega (arith, was.room, c.put.ensures.room);
    }

pub returns-clause-each : goal.returns-clause-each
returns-clause-each c = λ n t at.
    merged-all c.args.jobs.now c.loop-job.job-index c.args.told.now c.loop-job.taken c.loop-job.answers.items c.loop-job.invariant.merged
    (omega (arith, c.loop-job-test.false)) c.requires.each n t at
