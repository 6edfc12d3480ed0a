use Rattle.std.proofs.Common.{rules, inl, refl, List, ℕ}
use Rattle.std.proofs.lemmas.Fn.{filter_same}
use Rattle.signer_api.specs.State.{is_other}
use Rattle.signer_api.specs.declared.values.PublicKey.{PublicKey}
use Rattle.signer_api.proofs.MemoryLemmas.{keys_left}
use Rattle.signer_api.proofs.memory.MemorySignerSigner.drop_key.Goals as goal

pub returns-clause-dropped : goal.returns-clause-dropped
returns-clause-dropped c =
    let key : List ℕ = c.args.key.now.bytes in
    let left = filter_same _ (λ (held : PublicKey). is_other key held.bytes) _ (λ x b q h. (search rules, search rules)) _ _ c.retain.ensures.filtered in
    let keys = keys_left key _ _ left in
    record { faults = inl refl; others = rw keys refl }
