-- A line's tokens, as they are taken from the line itself, for private clauses.
use Rattle.std.specs.Prelude.{◌≡◌, ◌⊎◌, ℕ, List, [], ◌∷◌, ◌++◌, Bool, true, false, ◌&&◌, ◌||◌, ◌==◌, nat_le}
use Rattle.std.specs.List.{AllPass}
use Rattle.json.specs.Token.{Token}
use Rattle.json.specs.Lex.{lex, between, punctuate, fresh, after_value, after_comma}
use Rattle.json_api.specs.declared.plain.Place.{Place}
use Rattle.json_api.specs.declared.plain.Place.TheVariants.{Fresh, AfterValue, AfterComma}

-- the tokens of these bytes
abbrev pub left_at : Place → List ℕ → List Token
left_at Fresh left = punctuate fresh (lex between left)
left_at AfterValue left = punctuate after_value (lex between left)
left_at AfterComma left = punctuate after_comma (lex between left)

-- a value or a key may begin
abbrev pub begins_at : Place → Bool
begins_at Fresh = true
begins_at AfterValue = false
begins_at AfterComma = true

-- a closing bracket may stand
abbrev pub closes_at : Place → Bool
closes_at Fresh = true
closes_at AfterValue = true
closes_at AfterComma = false

-- a byte of ASCII that stands for itself in a text
abbrev pub is_plain : ℕ → Bool
is_plain c = (nat_le 35 c && nat_le c 91) || (nat_le 93 c && nat_le c 126) || (c == 32) || (c == 33)

abbrev pub is_blank : ℕ → Bool
is_blank c = (c == 32) || (c == 9) || (c == 13) || (c == 10)

-- a text of such bytes stands here between quotation marks, and this behind it
pub record IsTextAt (left text behind : List ℕ) : Type 0 where
  pub quoted : left ≡ 34 ∷ (text ++ 34 ∷ behind)
  pub plain : AllPass is_plain text

-- a comma or a closing bracket stands here
abbrev pub EndsValue : List ℕ → Type 0
EndsValue [] = ⊥
EndsValue (c ∷ left) = (c ≡ 44) ⊎ (c ≡ 93) ⊎ (c ≡ 125)
