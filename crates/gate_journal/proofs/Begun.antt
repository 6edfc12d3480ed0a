-- A new journal.
use Rattle.std.proofs.Common.{◌≡◌, ◌<◌, ℕ, Option, Some, None, List, [], ◌∷◌, ◌++◌, length, IfSome, ◌∙◌, ap, arith}
use Rattle.std.proofs.lemmas.List.{drop_all, append-nil}
use Rattle.std.specs.Option.{option_map}
use Rattle.disk_api.specs.Content.{overwritten, BothKnown}
use Rattle.gate_journal.specs.Format.{header}

pub new_short : (content now : Option (List ℕ)) → now ≡ option_map (λ _. header ++ 0 ∷ []) content → BothKnown (λ _ bytes. length bytes < 18) content now
new_short None now is = is
new_short (Some bytes) now is = (header ++ 0 ∷ [], is, omega arith)

-- the header and a closed gate take the place of all that is there
pub written_new : (content now : Option (List ℕ)) → IfSome content (λ bytes. length bytes < 18) → now ≡ option_map (overwritten 0 (header ++ 0 ∷ [])) content → now ≡ option_map (λ _. header ++ 0 ∷ []) content
written_new None now short is = is
written_new (Some bytes) now short is = is ∙ ap (λ (l : List ℕ). Some (header ++ 0 ∷ [] ++ l)) (drop_all 17 bytes (omega (arith, short))) ∙ ap (λ (l : List ℕ). Some l) (append-nil (header ++ 0 ∷ []))
