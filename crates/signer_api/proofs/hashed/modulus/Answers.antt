use Rattle.std.proofs.Common.{rules, arith, ◌≡◌, length}
use Rattle.std.proofs.lemmas.Nat.{le_or_r}
use Rattle.signer_api.proofs.BlockLemmas.{first-kept}
use Rattle.signer_api.proofs.hashed.modulus.Goals as goal

pub returns-clause-full : goal.returns-clause-full
returns-clause-full c =
    let long : length c.args.bytes ≡ 256 = search rules in
    first-kept c.args.bytes _ _ (omega (arith, long)) (le_or_r _ 128)
