-- What an audit answers (RFC 6487 section 7, RFC 9286 section 6).
use Rattle.std.specs.Prelude.{◌≡◌, ℕ, List, Result, Ok, Err, ⊤}
use Rattle.key_ids.specs.Uris.{Bases}
use Rattle.pub_set.specs.declared.objects.Object.{Object}
use Rattle.signer_api.specs.State.{SignerState, CountsFault}
use Rattle.signer_ring.specs.Ring.{AllTell, ChangesOne}
use Rattle.rp_rules.specs.declared.rules.Rule.TheVariants as rule
use Rattle.rp_rules.specs.Certificates.{WalkContext}
use Rattle.rp_rules.specs.Yield.{AuditedValue}
use Rattle.rp_rules.specs.Sound.{IsRefused, IsUnreached, IsAuditOf}
use Rattle.rp_audit.specs.Vouching.{vouched_in}
use Rattle.rp_audit.specs.declared.refusal.AuditRefused.{AuditRefused}
use Rattle.rp_audit.specs.declared.refusal.AuditRefused.TheVariants.{Refused, Unreached, SignerFault, Memory}
use Rattle.std.specs.String.{string_bytes}

-- How a set is looked at where these signers are asked.
abbrev pub asking : List SignerState → List ℕ → Bases → ℕ → WalkContext
asking signers anchor bases moment =
    record { vouched = vouched_in signers; anchor = anchor; bases = bases; moment = moment }

-- Why the set isn't sound: a refusal by the rule of signatures where all signers tell, any other
-- one in any case. Of a signer that failed, and of memory, nothing is told of the set.
abbrev pub IsTold : List SignerState → WalkContext → List Object → AuditRefused → Type 0
IsTold signers s objects (Refused uri broken) =
    (broken ≡ rule.Signature → AllTell signers) → IsRefused s objects (string_bytes uri) broken
IsTold signers s objects (Unreached uri) = IsUnreached s objects (string_bytes uri)
IsTold signers s objects (SignerFault signer) = ⊤
IsTold signers s objects Memory = ⊤

-- The signers are as they were, but for the count of the one that failed, which rose.
abbrev pub Asks : Result AuditedValue AuditRefused → List SignerState → List SignerState → Type 0
Asks (Ok audited) old new = new ≡ old
Asks (Err (Refused uri rule)) old new = new ≡ old
Asks (Err (Unreached uri)) old new = new ≡ old
Asks (Err (SignerFault signer)) old new = ChangesOne signer CountsFault old new
Asks (Err Memory) old new = new ≡ old
