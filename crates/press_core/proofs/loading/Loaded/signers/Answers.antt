use Rattle.std.proofs.Common.{◌≡◌, ◌⊎◌, ◌+◌, List, ap, subst, ◌∙◌}
use Rattle.std.specs.List.{Any}
use Rattle.key_roll.specs.declared.rows.KeyRow.{KeyRow}
use Rattle.press_core.specs.Loading.{LoadedValue}
use Rattle.press_core.proofs.loading.Loaded.signers.Goals as goal

pub returns-clause-needed : goal.returns-clause-needed
returns-clause-needed g c =
    subst (λ (l : List KeyRow). (c.signers_needed.result ≡ 0) ⊎ Any (λ row. row.signer + 1 ≡ c.signers_needed.result) l)
    (c.as_slice.ensures ∙ ap (λ (v : LoadedValue _). v.rows) c.self.view_is) c.signers_needed.ensures.needed
