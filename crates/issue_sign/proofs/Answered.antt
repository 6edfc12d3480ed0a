-- Jobs of many steps, and what is answered to them.
use Rattle.std.proofs.Common.{◌≡◌, ◌<◌, ◌+◌, ℕ, suc, List, [], ◌∷◌, ◌++◌, Bool, true, false, cond, length, take, drop, get_or, Option, Some, None, refl, sym, ap, ◌∙◌}
use Rattle.std.specs.Prelude.{All, nat_lt, not}
use Rattle.std.proofs.lemmas.Bool.{lt-ltb}
use Rattle.std.specs.List.{cons_option, filter_map}
use Rattle.std.proofs.lemmas.List.{take_more, append-nil}
use Rattle.std.proofs.lemmas.List.Elements.{All-nil, All-cons, All-head, All-tail, filter_map-append}
use Rattle.signer_ring.specs.Calls.{Call}
use Rattle.signer_ring.specs.Jobs as jobs
use Rattle.signer_ring.specs.Jobs.{asked, AreAnswers, first_absent}
use Rattle.signer_ring.specs.declared.jobs.SignJob.{SignJob}
use Rattle.signer_ring.specs.declared.jobs.Signed as ring
use Rattle.signer_ring.specs.declared.jobs.Signed.TheVariants as answers
use Rattle.cms_obj.specs.Formats.{signed_attributes}
use Rattle.key_roll.specs.declared.rows.KeyRow.{KeyRow}
use Rattle.issue_sign.specs.declared.steps.Pending.{Pending}
use Rattle.issue_sign.specs.declared.steps.Pending.TheVariants as pending
use Rattle.issue_sign.specs.declared.steps.Step.{Step}
use Rattle.issue_sign.specs.Calls.{by_issuer, by_once}
use Rattle.issue_sign.specs.inner.Steps.{asks, signing, signing_once, job_for, job_of, call_for, calls_of, IsAnswered, answer_in, answers_with, told, IsKept, Pairs}

-- ---- the jobs

pub jobs-more : (m : ℕ) (steps : List Step) (i : ℕ) (st : Step) (js : List SignJob) (job : Option SignJob) → i < length steps → st ≡ get_or steps i st
    → js ≡ filter_map (job_of m) (take i steps) → job ≡ job_of m st → js ++ cons_option job [] ≡ filter_map (job_of m) (take (i + 1) steps)
jobs-more m steps i st js job inside at were is =
    ap (λ (xs : List SignJob). xs ++ cons_option job []) were
    ∙ (ap (λ (o : Option SignJob). filter_map (job_of m) (take i steps) ++ cons_option o []) is
    ∙ (sym (filter_map-append (job_of m) (take i steps) (st ∷ []))
    ∙ ap (filter_map (job_of m)) (ap (λ (x : Step). take i steps ++ x ∷ []) at ∙ sym (take_more steps i st inside))))

pub jobs-same : (m : ℕ) (steps : List Step) (i : ℕ) (st : Step) (js : List SignJob) → i < length steps → st ≡ get_or steps i st
    → js ≡ filter_map (job_of m) (take i steps) → None ≡ job_of m st → js ≡ filter_map (job_of m) (take (i + 1) steps)
jobs-same m steps i st js inside at were is = sym (append-nil js) ∙ jobs-more m steps i st js None inside at were is

asked-by : (m : ℕ) (key : KeyRow) (p : Pending) (n : ℕ) (js : List SignJob) → key.signer < n → All (λ (job : SignJob). asked job < n) js
    → All (λ (job : SignJob). asked job < n) (cons_option (job_for m key p) js)
asked-by m key (pending.Whole object) n js low all = all
asked-by m key (pending.Certificate tbs) n js low all = All-cons (λ (job : SignJob). asked job < n) (signing key tbs.items) js low all
asked-by m key (pending.Revocations tbs) n js low all = All-cons (λ (job : SignJob). asked job < n) (signing key tbs.items) js low all
asked-by m key (pending.Content kind content) n js low all =
    All-cons (λ (job : SignJob). asked job < n) (signing_once key (signed_attributes kind content.bytes.items m)) js low all
asked-by m key (pending.Entity kind content tbs) n js low all = All-cons (λ (job : SignJob). asked job < n) (signing key tbs.items) js low all

-- All signers of the jobs are there.
pub jobs-there : (m n : ℕ) (steps : List Step) → All (λ (st : Step). st.issuer.now.signer < n) steps
    → All (λ (job : SignJob). asked job < n) (filter_map (job_of m) steps)
jobs-there m n [] all = All-nil (λ (job : SignJob). asked job < n)
jobs-there m n (st ∷ steps) all =
    asked-by m st.issuer.now st.pending n (filter_map (job_of m) steps) (All-head (λ (x : Step). x.issuer.now.signer < n) st steps all)
    (jobs-there m n steps (All-tail (λ (x : Step). x.issuer.now.signer < n) st steps all))

-- None of them is absent.
pub none-absent : (count n : ℕ) (work : List SignJob) → All (λ (job : SignJob). asked job < count) work → first_absent count work ≡ Some n → ⊥
none-absent count n [] all e = absurd cc
none-absent count n (job ∷ work) all e =
    let low : nat_lt (asked job) count ≡ true = lt-ltb (asked job) count (All-head (λ (j : SignJob). asked j < count) job work all) in
    none-absent count n work (All-tail (λ (j : SignJob). asked j < count) job work all)
    (sym (ap (λ (b : Bool). cond (not b) (Some (asked job)) (first_absent count work)) low) ∙ e)

-- ---- one step and the answers that are left

pub answered-first : (m : ℕ) (key : KeyRow) (p : Pending) (js : List SignJob) (left : List ring.Signed)
    → AreAnswers (cons_option (job_for m key p) js) left → IsAnswered p left
answered-first m key (pending.Whole object) js left are = tt
answered-first m key (pending.Certificate tbs) js [] are = are
answered-first m key (pending.Certificate tbs) js (answers.Signature s ∷ left) are = tt
answered-first m key (pending.Certificate tbs) js (answers.Once once ∷ left) are = are.0
answered-first m key (pending.Revocations tbs) js [] are = are
answered-first m key (pending.Revocations tbs) js (answers.Signature s ∷ left) are = tt
answered-first m key (pending.Revocations tbs) js (answers.Once once ∷ left) are = are.0
answered-first m key (pending.Content kind content) js [] are = are
answered-first m key (pending.Content kind content) js (answers.Signature s ∷ left) are = are.0
answered-first m key (pending.Content kind content) js (answers.Once once ∷ left) are = tt
answered-first m key (pending.Entity kind content tbs) js [] are = are
answered-first m key (pending.Entity kind content tbs) js (answers.Signature s ∷ left) are = tt
answered-first m key (pending.Entity kind content tbs) js (answers.Once once ∷ left) are = are.0

pub answered-rest : (m : ℕ) (key : KeyRow) (p : Pending) (js : List SignJob) (left : List ring.Signed)
    → AreAnswers (cons_option (job_for m key p) js) left → AreAnswers js (cond (asks p) (drop 1 left) left)
answered-rest m key (pending.Whole object) js left are = are
answered-rest m key (pending.Certificate tbs) js [] are = absurd are
answered-rest m key (pending.Certificate tbs) js (a ∷ left) are = are.1
answered-rest m key (pending.Revocations tbs) js [] are = absurd are
answered-rest m key (pending.Revocations tbs) js (a ∷ left) are = are.1
answered-rest m key (pending.Content kind content) js [] are = absurd are
answered-rest m key (pending.Content kind content) js (a ∷ left) are = are.1
answered-rest m key (pending.Entity kind content tbs) js [] are = absurd are
answered-rest m key (pending.Entity kind content tbs) js (a ∷ left) are = are.1

step-calls : (m : ℕ) (key : KeyRow) (p : Pending) (js : List SignJob) (left : List ring.Signed) (more : List Call)
    → AreAnswers (cons_option (job_for m key p) js) left → jobs.calls_for js (cond (asks p) (drop 1 left) left) ≡ more
    → jobs.calls_for (cons_option (job_for m key p) js) left ≡ cons_option (call_for m key p (answers_with p left)) more
step-calls m key (pending.Whole object) js left more are e = e
step-calls m key (pending.Certificate tbs) js [] more are e = absurd are
step-calls m key (pending.Certificate tbs) js (answers.Signature s ∷ left) more are e = ap (λ (rest : List Call). by_issuer key tbs.items s.bytes ∷ rest) e
step-calls m key (pending.Certificate tbs) js (answers.Once once ∷ left) more are e = absurd are.0
step-calls m key (pending.Revocations tbs) js [] more are e = absurd are
step-calls m key (pending.Revocations tbs) js (answers.Signature s ∷ left) more are e = ap (λ (rest : List Call). by_issuer key tbs.items s.bytes ∷ rest) e
step-calls m key (pending.Revocations tbs) js (answers.Once once ∷ left) more are e = absurd are.0
step-calls m key (pending.Content kind content) js [] more are e = absurd are
step-calls m key (pending.Content kind content) js (answers.Signature s ∷ left) more are e = absurd are.0
step-calls m key (pending.Content kind content) js (answers.Once once ∷ left) more are e =
    ap (λ (rest : List Call). by_once key (signed_attributes kind content.bytes.items m) (answer_in (answers.Once once ∷ left)) ∷ rest) e
step-calls m key (pending.Entity kind content tbs) js [] more are e = absurd are
step-calls m key (pending.Entity kind content tbs) js (answers.Signature s ∷ left) more are e = ap (λ (rest : List Call). by_issuer key tbs.items s.bytes ∷ rest) e
step-calls m key (pending.Entity kind content tbs) js (answers.Once once ∷ left) more are e = absurd are.0

-- The calls for the jobs are those for the steps, with all that was answered.
pub calls-told : (m : ℕ) (steps : List Step) (left : List ring.Signed) → AreAnswers (filter_map (job_of m) steps) left
    → jobs.calls_for (filter_map (job_of m) steps) left ≡ calls_of m steps (told steps left)
calls-told m [] left are = refl
calls-told m (st ∷ steps) left are =
    step-calls m st.issuer.now st.pending (filter_map (job_of m) steps) left (calls_of m steps (told steps (cond (asks st.pending) (drop 1 left) left))) are
    (calls-told m steps (cond (asks st.pending) (drop 1 left) left) (answered-rest m st.issuer.now st.pending (filter_map (job_of m) steps) left are))

pub told-long : (steps : List Step) (left : List ring.Signed) → length (told steps left) ≡ length steps
told-long [] left = refl
told-long (st ∷ steps) left = ap suc (told-long steps (cond (asks st.pending) (drop 1 left) left))

kept-with : (p : Pending) (left : List ring.Signed) → IsKept p (answers_with p left)
kept-with (pending.Whole object) left = refl
kept-with (pending.Certificate tbs) left = tt
kept-with (pending.Revocations tbs) left = tt
kept-with (pending.Content kind content) left = tt
kept-with (pending.Entity kind content tbs) left = refl

pub told-kept : (steps : List Step) (left : List ring.Signed) → Pairs (λ st a. IsKept st.pending a) steps (told steps left)
told-kept [] left = tt
told-kept (st ∷ steps) left = (kept-with st.pending left, told-kept steps (cond (asks st.pending) (drop 1 left) left))
