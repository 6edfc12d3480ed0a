-- Which signatures the signers of a ring vouch for, as a function. One that doesn't tell is taken
-- to vouch for each.
use Rattle.std.specs.Prelude.{ℕ, Bool, true, ◌&&◌, List}
use Rattle.std.specs.List.{list_any}
use Rattle.std.specs.Str.{bytes_eq}
use Rattle.signer_api.specs.Hashed.{hashed_signature}
use Rattle.signer_api.specs.State.{SignerState, Signed, Vouching, NotTold, Listed, Hashed}
use Rattle.rp_rules.specs.Certificates.{Vouched}

abbrev pub is_signed : List ℕ → List ℕ → List ℕ → Signed → Bool
is_signed key digest signature one =
    bytes_eq one.key key && bytes_eq one.digest digest && bytes_eq one.signature signature

abbrev pub vouched_by : Vouching → Vouched
vouched_by NotTold key digest signature = true
vouched_by (Listed given) key digest signature = list_any (is_signed key digest signature) given
vouched_by Hashed key digest signature = bytes_eq signature (hashed_signature key digest)

-- Some signer vouches.
abbrev pub vouched_in : List SignerState → Vouched
vouched_in signers key digest signature =
    list_any (λ (signer : SignerState). vouched_by signer.vouching key digest signature) signers
