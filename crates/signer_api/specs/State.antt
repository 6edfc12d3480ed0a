-- What a signer is to those who call it, and what a call does to it. Keys and signatures are
-- those of RFC 7935 sections 2 and 3.
use Rattle.std.specs.Prelude.{◌≡◌, ◌⊎◌, ◌+◌, ◌-◌, ◌^◌, ℕ, List, [], ◌∷◌, ◌++◌, Bool, not, nat_eq, Option, option_map, Result, Ok, Err, Contains, filter, min, ⊤}
use Rattle.std.specs.Cmp.Lexicographic.{pointwise}
use Rattle.signer_api.specs.Hashed.{hashed_signature}
use Rattle.signer_api.specs.declared.signer.SignerStop.{SignerStop}
use Rattle.signer_api.specs.declared.signer.SignerStop.TheVariants.{Fault, Memory}

-- A key's signature of a digest, all three as their bytes.
pub record Signed : Type 0 where
  pub key : List ℕ
  pub digest : List ℕ
  pub signature : List ℕ

-- What a signer tells of the signatures for which it vouches.
pub data Vouching : Type 0 where
  -- Nothing.
  NotTold : Vouching
  -- It vouches for these and for no others.
  Listed : List Signed → Vouching
  -- It vouches for each signature that is made of hashes by the rule, and for no others.
  Hashed : Vouching

-- A signer.
pub record SignerState : Type 0 where
  pub vouching : Vouching
  -- The keys that it holds, where it tells them.
  pub keys : Option (List (List ℕ))
  -- How many signatures it gave.
  pub signatures : ℕ
  -- How many of these it gave each with a new key, which signs once.
  pub once : ℕ
  -- How many of its calls failed.
  pub faults : ℕ

abbrev pub TellsBy : Vouching → Type 0
TellsBy NotTold = ⊥
TellsBy (Listed given) = ⊤
TellsBy Hashed = ⊤

-- It says for which signatures it vouches.
abbrev pub Tells : SignerState → Type 0
Tells signer = TellsBy signer.vouching

abbrev pub VouchesBy : Vouching → List ℕ → List ℕ → List ℕ → Type 0
VouchesBy NotTold key digest signature = ⊥
VouchesBy (Listed given) key digest signature = Contains given (record { key = key; digest = digest; signature = signature })
VouchesBy Hashed key digest signature = signature ≡ hashed_signature key digest

-- It vouches for this signature of the digest under the key.
abbrev pub Vouches : SignerState → List ℕ → List ℕ → List ℕ → Type 0
Vouches signer key digest signature = VouchesBy signer.vouching key digest signature

-- A count after one more, which stands still at the last value of a u64.
abbrev pub next_count : ℕ → ℕ
next_count n = min (n + 1) (2 ^ 64 - 1)

-- A signer that holds one key more.
abbrev pub with_key : List ℕ → SignerState → SignerState
with_key key signer = record signer { keys = option_map (λ keys. keys ++ key ∷ []) signer.keys }

abbrev pub is_other : List ℕ → List ℕ → Bool
is_other key held = not (pointwise nat_eq held key)

-- A signer that holds this key no longer.
abbrev pub without_key : List ℕ → SignerState → SignerState
without_key key signer = record signer { keys = option_map (λ keys. filter (is_other key) keys) signer.keys }

abbrev pub also_vouching : Signed → Vouching → Vouching
also_vouching one NotTold = NotTold
also_vouching one (Listed given) = Listed (given ++ one ∷ [])
also_vouching one Hashed = Hashed

-- A signer that gave this signature.
abbrev pub with_signature : Signed → SignerState → SignerState
with_signature one signer = record signer { vouching = also_vouching one signer.vouching; signatures = next_count signer.signatures }

-- A signer that gave this signature with a new key, which signed once.
abbrev pub with_once : Signed → SignerState → SignerState
with_once one signer = record (with_signature one signer) { once = next_count signer.once }

-- One call more failed. A count stands still at the last value of a u64.
abbrev pub RisesByOne : ℕ → ℕ → Type 0
RisesByOne before after = (after ≡ before + 1) ⊎ ((before ≡ 2 ^ 64 - 1) × (after ≡ 2 ^ 64 - 1))

-- A call that failed: this is counted, and nothing else changes.
pub record CountsFault (old new : SignerState) : Type 0 where
  pub risen : RisesByOne old.faults new.faults
  pub others : new ≡ record old { faults = new.faults }

-- What a call's answer makes of the signer: at Ok what is said, after a fault its count alone, and
-- nothing for want of memory.
abbrev pub Answers : {T : Type 0} → (T → SignerState → SignerState) → Result T SignerStop → SignerState → SignerState → Type 0
Answers after (Ok x) old new = new ≡ after x old
Answers after (Err Fault) old new = CountsFault old new
Answers after (Err Memory) old new = new ≡ old

-- A key was dropped, whether or not that failed.
pub record DropsKey (key : List ℕ) (old new : SignerState) : Type 0 where
  pub faults : (new.faults ≡ old.faults) ⊎ RisesByOne old.faults new.faults
  pub others : new ≡ record (without_key key old) { faults = new.faults }
