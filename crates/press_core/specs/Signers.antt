-- What the signers of a press vouch for, and the keys that they hold.
use Rattle.std.specs.Prelude.{◌≡◌, ℕ, true, List, Option, None, Some, slice_get, Contains, Any}
use Rattle.signer_api.specs.State.{SignerState, Tells, Vouches}
use Rattle.rp_rules.specs.Certificates.{Vouched}

-- What one of the signers vouches for, as far as it tells, is vouched.
abbrev pub HasAllVouched : Vouched → List SignerState → Type 0
HasAllVouched vouched signers = (key digest signature : List ℕ)
    → Any (λ signer. Tells signer → Vouches signer key digest signature) signers
    → vouched key digest signature ≡ true

-- It is among the keys, where these are told.
abbrev pub IsAmong : Option (List (List ℕ)) → List ℕ → Type 0
IsAmong None key = ⊥
IsAmong (Some keys) key = Contains keys key

-- Each signer still holds the keys that it held.
abbrev pub HoldKeys : List SignerState → List SignerState → Type 0
HoldKeys old new = (number : ℕ) (before : SignerState) (key : List ℕ)
    → slice_get old number ≡ Some before → IsAmong before.keys key
    → (after : SignerState) × (slice_get new number ≡ Some after) × IsAmong after.keys key
