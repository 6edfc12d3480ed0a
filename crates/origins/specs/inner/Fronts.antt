-- The front of a text, and what follows it.
use Rattle.std.specs.Prelude.{◌≡◌, ℕ, Bool, true, false, not, ◌||◌, List, [], ◌∷◌, ◌++◌, ◌==◌, codes}
use Rattle.std.specs.List.{AllByRecursion, list_any}
use Rattle.origins.specs.Text.{IsBlank}

abbrev pub is_blank : ℕ → Bool
is_blank byte = (byte == 32) || (byte == 9)

-- the byte is none of these
abbrev pub is_none_of : List ℕ → ℕ → Bool
is_none_of stops byte = not (list_any (λ stop. stop == byte) stops)

-- each byte passes
abbrev pub Passes : (ℕ → Bool) → List ℕ → Type 0
Passes p a = AllByRecursion (λ c. p c ≡ true) a

-- the first byte, if there is one, does not pass
abbrev pub Stops : (ℕ → Bool) → List ℕ → Type 0
Stops p [] = Unit {0}
Stops p (c ∷ cs) = p c ≡ false

-- texts round `=>` and blanks: no blank or `=` is in the first, and the second begins with no blank
pub record IsAround (text before behind : List ℕ) : Type 0 where
  pub blanks_before : List ℕ
  pub blanks_after : List ℕ
  pub spelled : text ≡ before ++ blanks_before ++ codes "=>" ++ blanks_after ++ behind
  pub word : Passes (is_none_of (codes " \t=")) before
  pub all_before : AllByRecursion IsBlank blanks_before
  pub all_after : AllByRecursion IsBlank blanks_after
  pub bare : Stops is_blank behind
