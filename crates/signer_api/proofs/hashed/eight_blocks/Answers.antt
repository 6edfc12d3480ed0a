use Rattle.std.proofs.Common.{rules, ◌≡◌, ◌++◌, ℕ, ◌*◌, List, [], ◌∷◌, refl, ap}
use Rattle.sha2.specs.Sha256.{sha256}
use Rattle.signer_api.specs.Hashed.{blocks}
use Rattle.signer_api.proofs.BlockLemmas.{blocks-put}
use Rattle.signer_api.proofs.hashed.eight_blocks.Goals as goal

pub loop-i-init : goal.loop-i-init
unfolding blocks
loop-i-init c = (refl, refl)

pub loop-i-preserved : goal.loop-i-preserved
loop-i-preserved c =
    let seed : List ℕ = c.args.first.now ++ c.args.second.now in
    let digest : c.finalize.result ≡ sha256 (seed ++ c.loop-i.i ∷ []) = search rules in
    let place : 32 * c.from.result ≡ 32 * c.loop-i.i = ap (λ (n : ℕ). 32 * n) c.from.ensures in (
      blocks-put seed _ _ _ c.loop-i.i _ c.put.ensures place c.loop-i.invariant.0 digest,
      search rules,
    )
