-- What one signer does with its own jobs, and how the answers of all come together.
use Rattle.std.specs.Prelude.{◌≡◌, ◌<◌, ◌==◌, ℕ, List, [], ◌∷◌, length, Result, Ok, Err, Vec, cond, ⊤, slice_get, Some}
use Rattle.std.specs.declared.alloc.Global.{Global}
use Rattle.signer_api.specs.State.{SignerState, Tells, Vouches, CountsFault}
use Rattle.signer_api.specs.declared.signer.SignerStop.{SignerStop}
use Rattle.signer_api.specs.declared.signer.SignerStop.TheVariants as Stop
use Rattle.signer_ring.specs.Calls as calls
use Rattle.signer_ring.specs.Calls.{Call, change}
use Rattle.signer_ring.specs.Calls.Call.{Makes, Signs}
use Rattle.signer_ring.specs.Jobs.{asked, jobs_of, AreAnswers, calls_for, AreFirst}
use Rattle.signer_ring.specs.declared.fault.RingFault.{RingFault}
use Rattle.signer_ring.specs.declared.fault.RingFault.TheVariants.{NoSuchSigner, SignerFault, Memory}
use Rattle.signer_ring.specs.declared.jobs.SignJob.{SignJob}
use Rattle.signer_ring.specs.declared.jobs.Signed.{Signed}

-- What calls leave of their signer, one after another.
abbrev pub changed : List Call → SignerState → SignerState
changed [] signer = signer
changed (call ∷ made) signer = changed made (change call signer)

-- The signer vouches for what it signed by the call, if it tells.
abbrev pub VouchesFor : SignerState → Call → Type 0
VouchesFor signer (Makes n key) = ⊤
VouchesFor signer (Signs n one) = Tells signer → Vouches signer one.key one.digest one.signature
VouchesFor signer (calls.Call.Once n one) = Tells signer → Vouches signer one.key one.digest one.signature

abbrev pub VouchesForAll : SignerState → List Call → Type 0
VouchesForAll signer [] = ⊤
VouchesForAll signer (call ∷ made) = VouchesFor signer call × VouchesForAll signer made

-- It did its jobs.
pub record IsDone (own : List SignJob) (given : List Signed) (old new : SignerState) : Type 0 where
  pub answers : AreAnswers own given
  pub state : new ≡ changed (calls_for own given) old
  pub vouched : VouchesForAll new (calls_for own given)

-- It did the first of them, and failed at the next.
pub record IsFailed (own : List SignJob) (old new : SignerState) : Type 0 where
  pub made : List Call
  pub first : AreFirst own made
  pub more : length made < length own
  pub fault : CountsFault (changed made old) new

-- It did the first of them, and memory ran out.
pub record IsCutShort (own : List SignJob) (old new : SignerState) : Type 0 where
  pub made : List Call
  pub first : AreFirst own made
  pub state : new ≡ changed made old

abbrev pub Told : Type 0
Told = Result (Vec Signed Global) SignerStop

abbrev pub HasWorked : List SignJob → Told → SignerState → SignerState → Type 0
HasWorked own (Ok given) old new = IsDone own given.items old new
HasWorked own (Err Stop.Fault) old new = IsFailed own old new
HasWorked own (Err Stop.Memory) old new = IsCutShort own old new

-- Each did its own jobs.
pub record AllWorked (work : List SignJob) (told : List Told) (old new : List SignerState) : Type 0 where
  pub was : length old ≡ length told
  pub is : length new ≡ length told
  pub each : (n : ℕ) (t : Told) (before after : SignerState) → slice_get told n ≡ Some t
      → slice_get old n ≡ Some before → slice_get new n ≡ Some after
      → HasWorked (jobs_of n work) t before after

-- It answered all of its jobs.
abbrev pub IsTold : Told → Type 0
IsTold (Ok answers) = ⊤
IsTold (Err stop) = ⊥

abbrev pub AreTold : List Told → Type 0
AreTold told = (n : ℕ) (t : Told) → slice_get told n ≡ Some t → IsTold t

-- The answers that one signer gave.
abbrev pub given : Told → List Signed
given (Ok answers) = answers.items
given (Err stop) = []

-- The answers to the jobs of one signer, in their order.
abbrev pub answers_of : ℕ → List SignJob → List Signed → List Signed
answers_of n [] answers = []
answers_of n (job ∷ work) [] = []
answers_of n (job ∷ work) (a ∷ answers) =
    cond (asked job == n) (a ∷ answers_of n work answers) (answers_of n work answers)

-- None of the signers failed, before that one.
abbrev pub NoFault : Told → Type 0
NoFault (Ok answers) = ⊤
NoFault (Err Stop.Fault) = ⊥
NoFault (Err Stop.Memory) = ⊤

-- The first that failed; or none did, and for one memory ran out.
abbrev pub IsFirstStop : List Told → RingFault → Type 0
IsFirstStop told (NoSuchSigner n) = ⊥
IsFirstStop told (SignerFault n) = (slice_get told n ≡ Some (Err Stop.Fault))
    × ((m : ℕ) (t : Told) → m < n → slice_get told m ≡ Some t → NoFault t)
IsFirstStop told Memory = (m : ℕ) (t : Told) → slice_get told m ≡ Some t → NoFault t

-- It stopped at signers that are there.
abbrev pub IsOfTheRing : RingFault → Type 0
IsOfTheRing (NoSuchSigner n) = ⊥
IsOfTheRing (SignerFault n) = ⊤
IsOfTheRing Memory = ⊤
