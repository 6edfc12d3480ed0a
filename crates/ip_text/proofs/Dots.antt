-- Whether a text has a dot.
use Rattle.std.proofs.Common.{◌≡◌, ℕ, true, false, ◌==◌, eq-eqb, eqb-true, List, [], ◌∷◌, sym, ◌∙◌, inl, inr}
use Rattle.std.proofs.lemmas.Bool.{false≢true, or_cases, or_parts}
use Rattle.std.specs.List.{list_any}
use Rattle.ip_text.specs.laws.Ipv6Laws.{HasNoDot}

-- where no byte of a text is found to be a dot, none is
pub no_dot_found : (text : List ℕ) → list_any (λ b. b == 46) text ≡ false → HasNoDot text
no_dot_found [] h = tt
no_dot_found (c ∷ text) h =
    let parts = or_parts (c == 46) (list_any (λ b. b == 46) text) h in
    ((λ (e : c ≡ 46). false≢true (sym parts.0 ∙ eq-eqb c 46 e)), no_dot_found text parts.1)

pub dot_found : (text : List ℕ) → list_any (λ b. b == 46) text ≡ true → HasNoDot text → ⊥
dot_found [] h no_dot = false≢true h
dot_found (c ∷ text) h no_dot = elim (or_cases (c == 46) _ h) [
  | inl dot ↦ no_dot.0 (eqb-true c 46 dot)
  | inr later ↦ dot_found text later no_dot.1
]
