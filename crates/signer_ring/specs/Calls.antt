-- Calls on signers, what they leave of the signers, and what these vouch for.
use Rattle.std.specs.Prelude.{◌≡◌, ℕ, List, [], ◌∷◌, slice_get, slice_set, IfSome, ⊤}
use Rattle.std.specs.Option.{option_map_or}
use Rattle.sha2.specs.Sha256.{sha256}
use Rattle.signer_api.specs.State.{SignerState, Signed, Tells, Vouches, CountsFault, with_key, with_signature, with_once}
use Rattle.signer_ring.specs.Ring.{ChangesOne}
use Rattle.signer_ring.specs.declared.call_fault.CallFault.{CallFault}
use Rattle.signer_ring.specs.declared.call_fault.CallFault.TheVariants.{SignerFault, Memory}

-- A call on the signer of that number, with its answer: a key was made, or a signature was given by
-- a key that stays, or by a new one, which signs once.
pub data Call : Type 0 where
  Makes : ℕ → List ℕ → Call
  Signs : ℕ → Signed → Call
  Once : ℕ → Signed → Call

-- A signature of bytes under a key.
abbrev pub signed_of : List ℕ → List ℕ → List ℕ → Signed
signed_of key bytes signature = record { key = key; digest = sha256 bytes; signature = signature }

abbrev pub signer_of : Call → ℕ
signer_of (Makes n key) = n
signer_of (Signs n one) = n
signer_of (Once n one) = n

-- What a call leaves of its signer.
abbrev pub change : Call → SignerState → SignerState
change (Makes n key) signer = with_key key signer
change (Signs n one) signer = with_signature one signer
change (Once n one) signer = with_once one signer

-- What it leaves of all of them.
abbrev pub after_call : List SignerState → Call → List SignerState
after_call ring call =
    option_map_or (λ signer. slice_set ring (signer_of call) (change call signer)) (slice_get ring (signer_of call)) ring

-- One call after another.
abbrev pub after_calls : List SignerState → List Call → List SignerState
after_calls ring [] = ring
after_calls ring (call ∷ calls) = after_calls (after_call ring call) calls

-- The signer of that number vouches for what it signed, if it tells.
abbrev pub IsVouched : List SignerState → Call → Type 0
IsVouched ring (Makes n key) = ⊤
IsVouched ring (Signs n one) =
    IfSome (slice_get ring n) (λ signer. Tells signer → Vouches signer one.key one.digest one.signature)
IsVouched ring (Once n one) =
    IfSome (slice_get ring n) (λ signer. Tells signer → Vouches signer one.key one.digest one.signature)

-- A call on that signer stopped: the signer counted a fault, or memory ran out. Nothing else changed.
abbrev pub IsStopped : ℕ → List SignerState → List SignerState → CallFault → Type 0
IsStopped number old new (SignerFault n) = (n ≡ number) × ChangesOne number CountsFault old new
IsStopped number old new Memory = new ≡ old
