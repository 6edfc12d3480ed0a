use Rattle.std.proofs.Common.{◌≡◌, ℕ, List, sym, ap, ◌∙◌, rules}
use Rattle.std.specs.List.{list_any}
use Rattle.std.specs.Str.{bytes_eq}
use Rattle.key_ids.specs.declared.identifier.KeyId.{KeyId}
use Rattle.issue_keys.specs.Keys.{id_of}
use Rattle.editions.proofs.StateLemmas.Growing.{any-map}
use Rattle.editions.proofs.ended.is_among.Goals as goal

pub returns : goal.returns
returns c = λ rows same.
    let own : List ℕ = id_of c.args.row.now in
    let found : c.is_in.result ≡ list_any (λ (id : KeyId). bytes_eq id.bytes own) c.args.ids.now = search rules in
    found
    ∙ (sym (any-map (λ (id : List ℕ). bytes_eq id own) (λ (id : KeyId). id.bytes) c.args.ids.now)
    ∙ (ap (list_any (λ (id : List ℕ). bytes_eq id own)) same
    ∙ any-map (λ (id : List ℕ). bytes_eq id own) id_of rows))
