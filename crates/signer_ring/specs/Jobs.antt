-- Jobs for signers that work side by side: each takes its own, in their order.
use Rattle.std.specs.Prelude.{◌≡◌, ◌<◌, ◌==◌, ℕ, List, [], ◌∷◌, length, map, filter, find, Option, None, Some, slice_get, ◌⊎◌, ⊤, nat_lt, not}
use Rattle.signer_api.specs.State.{SignerState, CountsFault}
use Rattle.signer_ring.specs.Calls as calls
use Rattle.signer_ring.specs.Calls.{Call, signer_of, after_calls}
use Rattle.signer_ring.specs.Calls.Call.{Makes, Signs}
use Rattle.signer_ring.specs.declared.jobs.SignJob.{SignJob}
use Rattle.signer_ring.specs.declared.jobs.SignJob.TheVariants as jobs
use Rattle.signer_ring.specs.declared.jobs.Signed.{Signed}
use Rattle.signer_ring.specs.declared.jobs.Signed.TheVariants as answers
use Rattle.signer_ring.specs.declared.fault.RingFault.{RingFault}
use Rattle.signer_ring.specs.declared.fault.RingFault.TheVariants.{NoSuchSigner, SignerFault, Memory}

-- The number of the signer that a job asks.
abbrev pub asked : SignJob → ℕ
asked (jobs.Sign n key digest) = n
asked (jobs.Once n digest) = n

-- The jobs of one signer, and the calls on it, in their order.
abbrev pub jobs_of : ℕ → List SignJob → List SignJob
jobs_of n work = filter (λ job. asked job == n) work

abbrev pub calls_on : ℕ → List Call → List Call
calls_on n made = filter (λ call. signer_of call == n) made

-- ---- answers

-- The answer is of the job's kind: a signature, or a one-use key with its signature.
abbrev pub Fits : SignJob → Signed → Type 0
Fits (jobs.Sign n key digest) (answers.Signature s) = ⊤
Fits (jobs.Sign n key digest) (answers.Once once) = ⊥
Fits (jobs.Once n digest) (answers.Signature s) = ⊥
Fits (jobs.Once n digest) (answers.Once once) = ⊤

-- There is one for each job, in their order.
abbrev pub AreAnswers : List SignJob → List Signed → Type 0
AreAnswers [] [] = ⊤
AreAnswers [] (a ∷ given) = ⊥
AreAnswers (job ∷ work) [] = ⊥
AreAnswers (job ∷ work) (a ∷ given) = Fits job a × AreAnswers work given

-- The call that a job was, with an answer that fits.
abbrev pub call_for : SignJob → Signed → Call
call_for (jobs.Sign n key digest) (answers.Signature s) =
    Signs n (record { key = key.bytes; digest = digest.bytes; signature = s.bytes })
call_for (jobs.Sign n key digest) (answers.Once once) = Makes n []
call_for (jobs.Once n digest) (answers.Signature s) = Makes n []
call_for (jobs.Once n digest) (answers.Once once) =
    calls.Call.Once n (record { key = once.key.bytes; digest = digest.bytes; signature = once.signature.bytes })

abbrev pub calls_for : List SignJob → List Signed → List Call
calls_for [] given = []
calls_for (job ∷ work) [] = []
calls_for (job ∷ work) (a ∷ given) = call_for job a ∷ calls_for work given

-- ---- why it stopped

-- The call is the job's, whatever was answered.
abbrev pub IsCallFor : SignJob → Call → Type 0
IsCallFor (jobs.Sign n key digest) (Makes m k) = ⊥
IsCallFor (jobs.Sign n key digest) (Signs m one) =
    (m ≡ n) × (one.key ≡ key.bytes) × (one.digest ≡ digest.bytes)
IsCallFor (jobs.Sign n key digest) (calls.Call.Once m one) = ⊥
IsCallFor (jobs.Once n digest) (Makes m k) = ⊥
IsCallFor (jobs.Once n digest) (Signs m one) = ⊥
IsCallFor (jobs.Once n digest) (calls.Call.Once m one) = (m ≡ n) × (one.digest ≡ digest.bytes)

-- The calls are those of the first jobs.
abbrev pub AreFirst : List SignJob → List Call → Type 0
AreFirst [] [] = ⊤
AreFirst [] (call ∷ made) = ⊥
AreFirst (job ∷ work) [] = ⊤
AreFirst (job ∷ work) (call ∷ made) = IsCallFor job call × AreFirst work made

-- The calls on each signer are those of the first of its own jobs.
abbrev pub AreFronts : List SignJob → List Call → Type 0
AreFronts work made = (n : ℕ) → AreFirst (jobs_of n work) (calls_on n made)

-- One signer counted a fault or did not.
abbrev pub MayCount : Option SignerState → Option SignerState → Type 0
MayCount None after = after ≡ None
MayCount (Some s) None = ⊥
MayCount (Some s) (Some t) = (t ≡ s) ⊎ CountsFault s t

-- The signer of that number counted a fault, none before it did, and each behind it may have.
-- Nothing else changed.
pub record CountFaults (number : ℕ) (old new : List SignerState) : Type 0 where
  pub before : SignerState
  pub after : SignerState
  pub was : slice_get old number ≡ Some before
  pub is : slice_get new number ≡ Some after
  pub fault : CountsFault before after
  pub least : (n : ℕ) → n < number → slice_get new n ≡ slice_get old n
  pub others : (n : ℕ) → MayCount (slice_get old n) (slice_get new n)

-- Each signer made calls for the first of its jobs. Of those that failed at the job that came next,
-- which they counted, that one is the least.
pub record AreFailed (work : List SignJob) (number : ℕ) (old new : List SignerState) : Type 0 where
  pub made : List Call
  pub fronts : AreFronts work made
  pub more : length (calls_on number made) < length (jobs_of number work)
  pub fault : CountFaults number (after_calls old made) new

-- Each signer made calls for the first of its jobs, and did nothing else.
pub record AreCutShort (work : List SignJob) (old new : List SignerState) : Type 0 where
  pub made : List Call
  pub fronts : AreFronts work made
  pub signers : new ≡ after_calls old made

-- The first signer that is asked and isn't there, of so many.
abbrev pub first_absent : ℕ → List SignJob → Option ℕ
first_absent count work = find (λ n. not (nat_lt n count)) (map asked work)

abbrev pub IsForAllStop : List SignJob → List SignerState → List SignerState → RingFault → Type 0
IsForAllStop work old new (NoSuchSigner n) = (first_absent (length old) work ≡ Some n) × (new ≡ old)
IsForAllStop work old new (SignerFault n) = AreFailed work n old new
IsForAllStop work old new Memory = AreCutShort work old new
