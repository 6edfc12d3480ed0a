-- The signatures that the signers of an edition gave, which are vouched.
use Rattle.std.specs.Prelude.{◌≡◌, ⊤, true}
use Rattle.signer_ring.specs.Calls.{Call}
use Rattle.signer_ring.specs.Calls.Call.{Makes, Signs, Once}
use Rattle.rp_rules.specs.Certificates.{Vouched}

-- The signature that the call gave is vouched. The making of a key gives none.
abbrev pub IsVouchedBy : Vouched → Call → Type 0
IsVouchedBy vouched (Makes signer key) = ⊤
IsVouchedBy vouched (Signs signer one) = vouched one.key one.digest one.signature ≡ true
IsVouchedBy vouched (Once signer one) = vouched one.key one.digest one.signature ≡ true
