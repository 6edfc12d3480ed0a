use Rattle.std.proofs.Common.{rules, ◌≡◌, length}
use Rattle.signer_api.proofs.BlockLemmas.{IsPublicKey-parts}
use Rattle.signer_api.proofs.hashed.hashed_key.Goals as goal

pub invariant_of-result : goal.invariant_of-result
invariant_of-result c =
    let long : length c.modulus-modulus.result ≡ 256 = search rules in
    record { spelled = IsPublicKey-parts _ c.modulus-modulus.result c.spelled.ensures long c.modulus-modulus.ensures.full }
