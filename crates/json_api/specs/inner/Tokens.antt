-- The replies as tokens of JSON, for private clauses.
use Rattle.std.specs.Prelude.{ℕ, List, [], ◌∷◌, ◌++◌, codes, decimal}
use Rattle.json.specs.Token.{Token, begin_object, end_object, key, string, number}

abbrev pub text_member : List ℕ → List ℕ → List Token
text_member name text = key name ∷ string text ∷ []

abbrev pub number_member : List ℕ → ℕ → List Token
number_member name n = key name ∷ number (decimal n) ∷ []

abbrev pub refusal_tokens : ℕ → List ℕ → List ℕ → List Token
refusal_tokens code detail refused =
    begin_object
    ∷ (number_member (codes "code") code
    ++ text_member (codes "detail") detail
    ++ text_member (codes "refused") refused
    ++ end_object ∷ [])
