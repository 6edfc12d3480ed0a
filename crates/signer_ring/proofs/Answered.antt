-- Jobs and their answers, of all signers and of one.
use Rattle.std.proofs.Common.{◌≡◌, ◌≢◌, ◌<◌, ◌≤◌, ◌+◌, ℕ, suc, List, [], ◌∷◌, ◌++◌, Bool, true, false, cond, eqb, length, take, drop, get_or, Err, refl, sym, ap, subst, ◌∙◌, arith, length-append}
use Rattle.std.proofs.lemmas.Bool.{eqb-true, eq-eqb, ne_eqb}
use Rattle.std.proofs.lemmas.List.{take-append-drop, length_push}
use Rattle.std.specs.Prelude.{All}
use Rattle.std.proofs.lemmas.List.Elements.{All-head, All-tail, filter-append, filter_more}
use Rattle.signer_api.specs.State.{SignerState, CountsFault, Answers}
use Rattle.signer_api.specs.declared.signer.SignerStop.{SignerStop}
use Rattle.signer_api.specs.declared.signer.SignerStop.TheVariants as Stop
use Rattle.signer_ring.specs.Calls as calls
use Rattle.signer_ring.specs.Calls.{Call, signer_of, change}
use Rattle.signer_ring.specs.Calls.Call.{Makes, Signs}
use Rattle.signer_ring.specs.Jobs.{asked, jobs_of, calls_on, Fits, AreAnswers, call_for, calls_for, IsCallFor, AreFirst}
use Rattle.signer_ring.specs.declared.jobs.SignJob.{SignJob}
use Rattle.signer_ring.specs.declared.jobs.SignJob.TheVariants as jobs
use Rattle.signer_ring.specs.declared.jobs.Signed.{Signed}
use Rattle.signer_ring.specs.declared.jobs.Signed.TheVariants as answers
use Rattle.signer_ring.specs.inner.Working.{changed, VouchesFor, VouchesForAll, IsDone, IsFailed, IsCutShort, HasWorked, answers_of}
use Rattle.signer_ring.proofs.Own.{AreOn, changed-push, vouches-push}

signer-of-call : (job : SignJob) (a : Signed) → signer_of (call_for job a) ≡ asked job
signer-of-call (jobs.Sign n key digest) (answers.Signature s) = refl
signer-of-call (jobs.Sign n key digest) (answers.Once once) = refl
signer-of-call (jobs.Once n digest) (answers.Signature s) = refl
signer-of-call (jobs.Once n digest) (answers.Once once) = refl

for-none : (work : List SignJob) → calls_for work [] ≡ []
for-none [] = refl
for-none (job ∷ work) = refl

first-for : (job : SignJob) (a : Signed) (made : List Call) (own : List SignJob) (given : List Signed) (b : Bool) → made ≡ calls_for own given
    → cond b (call_for job a ∷ made) made ≡ calls_for (cond b (job ∷ own) own) (cond b (a ∷ given) given)
first-for job a made own given true is = ap (λ (rest : List Call). call_for job a ∷ rest) is
first-for job a made own given false is = is

-- The calls on one signer are those for its own jobs.
pub calls-on-for : (n : ℕ) (work : List SignJob) (given : List Signed)
    → calls_on n (calls_for work given) ≡ calls_for (jobs_of n work) (answers_of n work given)
calls-on-for n [] given = refl
calls-on-for n (job ∷ work) [] = sym (for-none (cond (eqb (asked job) n) (job ∷ jobs_of n work) (jobs_of n work)))
calls-on-for n (job ∷ work) (a ∷ given) =
    ap (λ (m : ℕ). cond (eqb m n) (call_for job a ∷ calls_on n (calls_for work given)) (calls_on n (calls_for work given))) (signer-of-call job a)
    ∙ first-for job a (calls_on n (calls_for work given)) (jobs_of n work) (answers_of n work given) (eqb (asked job) n) (calls-on-for n work given)

head-answers : (job : SignJob) (a : Signed) (work : List SignJob) (given : List Signed) (b : Bool) → b ≡ true
    → AreAnswers (cond b (job ∷ work) work) (cond b (a ∷ given) given) → Fits job a
head-answers job a work given true is are = are.0
head-answers job a work given false is are = absurd cc

rest-answers : (job : SignJob) (a : Signed) (work : List SignJob) (given : List Signed) (b : Bool)
    → AreAnswers (cond b (job ∷ work) work) (cond b (a ∷ given) given) → AreAnswers work given
rest-answers job a work given true are = are.1
rest-answers job a work given false are = are

-- What is answered to each signer's own jobs is answered to all.
pub answers-all : (work : List SignJob) (given : List Signed) → length given ≡ length work
    → ((n : ℕ) → AreAnswers (jobs_of n work) (answers_of n work given)) → AreAnswers work given
answers-all [] [] long each = tt
answers-all [] (a ∷ given) long each = absurd (omega (arith, long))
answers-all (job ∷ work) [] long each = absurd (omega (arith, long))
answers-all (job ∷ work) (a ∷ given) long each = (
  head-answers job a (jobs_of (asked job) work) (answers_of (asked job) work given) (eqb (asked job) (asked job))
      (eq-eqb (asked job) (asked job) refl) (each (asked job)),
  answers-all work given (omega (arith, long))
      (λ n. rest-answers job a (jobs_of n work) (answers_of n work given) (eqb (asked job) n) (each n)),
)

-- ---- the first jobs of one signer

call-is : (job : SignJob) (a : Signed) → Fits job a → IsCallFor job (call_for job a)
call-is (jobs.Sign n key digest) (answers.Signature s) fits = (refl, refl, refl)
call-is (jobs.Sign n key digest) (answers.Once once) fits = absurd fits
call-is (jobs.Once n digest) (answers.Signature s) fits = absurd fits
call-is (jobs.Once n digest) (answers.Once once) fits = (refl, refl)

pub first-none : (work : List SignJob) → AreFirst work []
first-none [] = tt
first-none (job ∷ work) = tt

pub first-answered : (own rest : List SignJob) (given : List Signed) → AreAnswers own given → AreFirst (own ++ rest) (calls_for own given)
first-answered [] rest [] are = first-none rest
first-answered [] rest (a ∷ given) are = absurd are
first-answered (job ∷ own) rest [] are = absurd are
first-answered (job ∷ own) rest (a ∷ given) are = (call-is job a are.0, first-answered own rest given are.1)

pub answered-long : (own : List SignJob) (given : List Signed) → AreAnswers own given → length given ≡ length own
answered-long [] [] are = refl
answered-long [] (a ∷ given) are = absurd are
answered-long (job ∷ own) [] are = absurd are
answered-long (job ∷ own) (a ∷ given) are = ap suc (answered-long own given are.1)

pub calls-long : (own : List SignJob) (given : List Signed) → AreAnswers own given → length (calls_for own given) ≡ length own
calls-long [] [] are = refl
calls-long [] (a ∷ given) are = absurd are
calls-long (job ∷ own) [] are = absurd are
calls-long (job ∷ own) (a ∷ given) are = ap suc (calls-long own given are.1)

answers-push : (own : List SignJob) (given : List Signed) (job : SignJob) (a : Signed) → AreAnswers own given → Fits job a
    → AreAnswers (own ++ job ∷ []) (given ++ a ∷ [])
answers-push [] [] job a are fits = (fits, tt)
answers-push [] (b ∷ given) job a are fits = absurd are
answers-push (first ∷ own) [] job a are fits = absurd are
answers-push (first ∷ own) (b ∷ given) job a are fits = (are.0, answers-push own given job a are.1 fits)

for-push : (own : List SignJob) (given : List Signed) (job : SignJob) (a : Signed) → AreAnswers own given
    → calls_for (own ++ job ∷ []) (given ++ a ∷ []) ≡ calls_for own given ++ call_for job a ∷ []
for-push [] [] job a are = refl
for-push [] (b ∷ given) job a are = absurd are
for-push (first ∷ own) [] job a are = absurd are
for-push (first ∷ own) (b ∷ given) job a are = ap (λ (rest : List Call). call_for first b ∷ rest) (for-push own given job a are.1)

-- A signer's calls are on it.
signer-is : (job : SignJob) (call : Call) → IsCallFor job call → signer_of call ≡ asked job
signer-is (jobs.Sign n key digest) (Makes m k) is = absurd is
signer-is (jobs.Sign n key digest) (Signs m one) is = is.0
signer-is (jobs.Sign n key digest) (calls.Call.Once m one) is = absurd is
signer-is (jobs.Once n digest) (Makes m k) is = absurd is
signer-is (jobs.Once n digest) (Signs m one) is = absurd is
signer-is (jobs.Once n digest) (calls.Call.Once m one) is = is.0

first-on-by : (n : ℕ) (job : SignJob) (own : List SignJob) (made : List Call) (b : Bool) → eqb (asked job) n ≡ b
    → ((rest : List Call) → AreFirst own rest → AreOn n rest) → AreFirst (cond b (job ∷ own) own) made → AreOn n made
first-on-by n job own [] true is on first = tt
first-on-by n job own (call ∷ made) true is on first = (signer-is job call first.0 ∙ eqb-true (asked job) n is, on made first.1)
first-on-by n job own made false is on first = on made first

pub first-on : (n : ℕ) (work : List SignJob) (made : List Call) → AreFirst (jobs_of n work) made → AreOn n made
first-on n [] [] first = tt
first-on n [] (call ∷ made) first = absurd first
first-on n (job ∷ work) made first =
    first-on-by n job (jobs_of n work) made (eqb (asked job) n) refl (λ rest is. first-on n work rest is) first

-- ---- one signer at work

-- It did its jobs among the first ones.
abbrev pub HasDone : ℕ → List SignJob → ℕ → List Signed → SignerState → SignerState → Type 0
HasDone n work i given old new = IsDone (jobs_of n (take i work)) given old new

pub done-none : (n : ℕ) (work : List SignJob) (given : List Signed) (s : SignerState) → given ≡ [] → HasDone n work 0 given s s
done-none n work given s none = subst (λ (g : List Signed). HasDone n work 0 g s s) (sym none) (record { answers = tt; state = refl; vouched = tt })

pub done-all : (n : ℕ) (work : List SignJob) (i : ℕ) (given : List Signed) (old new : SignerState) → take i work ≡ work
    → HasDone n work i given old new → IsDone (jobs_of n work) given old new
done-all n work i given old new all done = subst (λ (w : List SignJob). IsDone (jobs_of n w) given old new) all done

pub rest-of : (n : ℕ) (work : List SignJob) (i : ℕ) → jobs_of n work ≡ jobs_of n (take i work) ++ jobs_of n (drop i work)
rest-of n work i =
    ap (jobs_of n) (sym (take-append-drop i work)) ∙ filter-append (λ (job : SignJob). eqb (asked job) n) (take i work) (drop i work)

-- What the job at a place adds to those before it.
abbrev pub Turns : ℕ → List SignJob → ℕ → SignJob → List SignJob → Type 0
Turns n work i job more = jobs_of n (take (i + 1) work) ≡ jobs_of n (take i work) ++ more

turn : (n : ℕ) (work : List SignJob) (i : ℕ) (job : SignJob) → i < length work → job ≡ get_or work i job
    → (b : Bool) → eqb (asked job) n ≡ b → Turns n work i job (cond b (job ∷ []) [])
turn n work i job inside is b test =
    filter_more (λ (j : SignJob). eqb (asked j) n) work i job inside
    ∙ (ap (λ (j : SignJob). jobs_of n (take i work) ++ cond (eqb (asked j) n) (j ∷ []) []) (sym is)
    ∙ ap (λ (c : Bool). jobs_of n (take i work) ++ cond c (job ∷ []) []) test)

pub turn-own : (n : ℕ) (work : List SignJob) (i : ℕ) (job : SignJob) → i < length work → job ≡ get_or work i job
    → asked job ≡ n → Turns n work i job (job ∷ [])
turn-own n work i job inside is own = turn n work i job inside is true (eq-eqb (asked job) n own)

append-nil : (xs : List SignJob) → xs ++ [] ≡ xs
append-nil [] = refl
append-nil (x ∷ xs) = ap (λ (rest : List SignJob). x ∷ rest) (append-nil xs)

pub done-other : (n : ℕ) (work : List SignJob) (i : ℕ) (job : SignJob) (given : List Signed) (old new : SignerState)
    → i < length work → job ≡ get_or work i job → asked job ≢ n → HasDone n work i given old new → HasDone n work (i + 1) given old new
done-other n work i job given old new inside is apart done =
    subst (λ (own : List SignJob). IsDone own given old new)
    (sym (turn n work i job inside is false (ne_eqb (asked job) n apart) ∙ append-nil (jobs_of n (take i work)))) done

pub done-more : (n : ℕ) (work : List SignJob) (i : ℕ) (job : SignJob) (given : List Signed) (a : Signed) (old between new : SignerState)
    → i < length work → job ≡ get_or work i job → asked job ≡ n → HasDone n work i given old between
    → Fits job a → new ≡ change (call_for job a) between → VouchesFor new (call_for job a)
    → HasDone n work (i + 1) (given ++ a ∷ []) old new
done-more n work i job given a old between new inside is own done fits called vouches =
    let own_jobs = jobs_of n (take i work) in
    let push = for-push own_jobs given job a done.answers in
    subst (λ (w : List SignJob). IsDone w (given ++ a ∷ []) old new) (sym (turn-own n work i job inside is own)) (record {
      answers = answers-push own_jobs given job a done.answers fits;
      state = called ∙ (ap (change (call_for job a)) done.state ∙ (sym (changed-push (calls_for own_jobs given) (call_for job a) old)
          ∙ ap (λ (made : List Call). changed made old) (sym push)));
      vouched = subst (VouchesForAll new) (sym push)
          (vouches-push between new (calls_for own_jobs given) (call_for job a) called done.vouched vouches);
    })

-- Memory ran out behind them.
pub done-short : (n : ℕ) (work : List SignJob) (i : ℕ) (given : List Signed) (old new : SignerState)
    → HasDone n work i given old new → IsCutShort (jobs_of n work) old new
done-short n work i given old new done = record {
  made = calls_for (jobs_of n (take i work)) given;
  first = subst (λ (own : List SignJob). AreFirst own (calls_for (jobs_of n (take i work)) given)) (sym (rest-of n work i))
      (first-answered (jobs_of n (take i work)) (jobs_of n (drop i work)) given done.answers);
  state = done.state;
}

-- It failed at the next.
pub done-failed : (n : ℕ) (work : List SignJob) (i : ℕ) (job : SignJob) (given : List Signed) (old between new : SignerState)
    → i < length work → job ≡ get_or work i job → asked job ≡ n → HasDone n work i given old between → CountsFault between new
    → IsFailed (jobs_of n work) old new
done-failed n work i job given old between new inside is own done fault =
    let own_jobs = jobs_of n (take i work) in
    let long = calls-long own_jobs given done.answers in
    let split = ap length (rest-of n work (i + 1)) in
    let next = ap length (turn-own n work i job inside is own) in
    record {
      made = calls_for own_jobs given;
      first = subst (λ (own : List SignJob). AreFirst own (calls_for own_jobs given)) (sym (rest-of n work i))
          (first-answered own_jobs (jobs_of n (drop i work)) given done.answers);
      more = omega (arith, long, split, next, length-append (jobs_of n (take (i + 1) work)) (jobs_of n (drop (i + 1) work)), length_push own_jobs job);
      fault = subst (λ (s : SignerState). CountsFault s new) done.state fault;
    }

-- It stopped at the next.
pub done-stopped : (n : ℕ) (work : List SignJob) (i : ℕ) (job : SignJob) (given : List Signed) (old between new : SignerState) (stop : SignerStop)
    (after : Signed → SignerState → SignerState) → i < length work → job ≡ get_or work i job → asked job ≡ n → HasDone n work i given old between
    → Answers after (Err stop) between new → HasWorked (jobs_of n work) (Err stop) old new
done-stopped n work i job given old between new Stop.Fault after inside is own done fault = done-failed n work i job given old between new inside is own done fault
done-stopped n work i job given old between new Stop.Memory after inside is own done same =
    let short = done-short n work i given old between done in
    record { made = short.made; first = short.first; state = same ∙ short.state }

pub short-none : (own : List SignJob) (s : SignerState) → IsCutShort own s s
short-none own s = record { made = []; first = first-none own; state = refl }

pub short-same : (own : List SignJob) (old between new : SignerState) → new ≡ between → IsCutShort own old between → IsCutShort own old new
short-same own old between new same short = record { made = short.made; first = short.first; state = same ∙ short.state }

-- ---- jobs of signers that aren't there

none-own : (n : ℕ) (job : SignJob) (work : List SignJob) (b : Bool) → b ≡ false → jobs_of n work ≡ [] → cond b (job ∷ jobs_of n work) (jobs_of n work) ≡ []
none-own n job work true is none = absurd cc
none-own n job work false is none = none

pub own-none : (work : List SignJob) (count : ℕ) → All (λ job. asked job < count) work → (n : ℕ) → count ≤ n → jobs_of n work ≡ []
own-none [] count there n past = refl
own-none (job ∷ work) count there n past =
    let low : asked job < count = All-head (λ (j : SignJob). asked j < count) job work there in
    none-own n job work (eqb (asked job) n) (ne_eqb (asked job) n (λ e. omega (arith, low, past, e)))
    (own-none work count (All-tail (λ (j : SignJob). asked j < count) job work there) n past)
