-- Several signers in a row, and what a call on one of them does.
use Rattle.std.specs.Prelude.{◌≡◌, ◌≤◌, ◌<◌, ℕ, List, length, slice_get, slice_set, Some, Result, Ok, Err, All, Any}
use Rattle.signer_api.specs.State.{SignerState, Tells, Vouches, CountsFault}
use Rattle.signer_api.specs.declared.signer.SignerStop.{SignerStop}
use Rattle.signer_api.specs.declared.signer.SignerStop.TheVariants as Stop
use Rattle.signer_ring.specs.declared.fault.RingFault.{RingFault}
use Rattle.signer_ring.specs.declared.fault.RingFault.TheVariants.{NoSuchSigner, SignerFault, Memory}

-- Each says for which signatures it vouches.
abbrev pub AllTell : List SignerState → Type 0
AllTell signers = All Tells signers

-- A key, a digest and a signature are vouched where some signer vouches for them.
abbrev pub Vouched : List SignerState → List ℕ → List ℕ → List ℕ → Type 0
Vouched signers key digest signature = Any (λ signer. Vouches signer key digest signature) signers

-- The signer of that number is changed so, and no other.
pub record ChangesOne (number : ℕ) (change : SignerState → SignerState → Type 0) (old new : List SignerState) : Type 0 where
  pub before : SignerState
  pub after : SignerState
  pub was : slice_get old number ≡ Some before
  pub is : new ≡ slice_set old number after
  pub changes : change before after

-- What a signer answered, to those who called it by its number.
abbrev pub answer_of : {T : Type 0} → ℕ → Result T SignerStop → Result T RingFault
answer_of number (Ok x) = Ok x
answer_of number (Err Stop.Fault) = Err (SignerFault number)
answer_of number (Err Stop.Memory) = Err Memory

-- What the answer of a call on one signer makes of them all. There is no such signer exactly where
-- the number isn't below their count.
abbrev pub CallsOne : {T : Type 0} → (T → SignerState → SignerState) → ℕ → Result T RingFault → List SignerState → List SignerState → Type 0
CallsOne after number (Ok x) old new = ChangesOne number (λ signer called. called ≡ after x signer) old new
CallsOne after number (Err (NoSuchSigner n)) old new = (n ≡ number) × (length old ≤ number) × (new ≡ old)
CallsOne after number (Err (SignerFault n)) old new = (n ≡ number) × ChangesOne number CountsFault old new
CallsOne after number (Err Memory) old new = (number < length old) × (new ≡ old)

-- What the answer of a call on one after another makes of them.
abbrev pub CallsAll : {T : Type 0} → Result T RingFault → List SignerState → List SignerState → Type 0
CallsAll (Ok x) old new = new ≡ old
CallsAll (Err (NoSuchSigner n)) old new = ⊥
CallsAll (Err (SignerFault n)) old new = ChangesOne n CountsFault old new
CallsAll (Err Memory) old new = new ≡ old

-- What is vouched stays vouched.
pub record Keeps (old new : List SignerState) : Type 0 where
  pub count : length new ≡ length old
  pub told : AllTell old → AllTell new
  pub vouched : (key digest signature : List ℕ) → Vouched old key digest signature → Vouched new key digest signature
