-- An object is tested by rules, one after another, and refused by the first that it breaks.
use Rattle.std.specs.Prelude.{ℕ, Bool, if◌then◌else◌, List, [], ◌∷◌, Option, None, Some, Result, Ok, Err}
use Rattle.rp_rules.specs.declared.rules.Rule.{Rule}

-- A refusal: the URI of the object, and the rule that it breaks.
pub record Refused : Type 0 where
  pub uri : List ℕ
  pub rule : Rule

-- What is accepted, or the first refusal.
abbrev pub Checked : Type 0 → Type 0
Checked A = Result A Refused

abbrev pub refused : {A : Type 0} → List ℕ → Rule → Checked A
refused uri rule = Err (record { uri = uri; rule = rule })

-- What is accepted is handed on; a refusal ends all.
infixl 10 ◌>>=◌
abbrev pub ◌>>=◌ : {A B : Type 0} → Checked A → (A → Checked B) → Checked B
(Ok x) >>= f = f x
(Err e) >>= f = Err e

-- A rule, and whether it is kept.
abbrev pub Test : Type 0
Test = Rule × Bool

-- What is accepted where each rule is kept. The first one broken refuses the object at the URI.
abbrev pub tested : {A : Type 0} → List ℕ → List Test → A → Checked A
tested uri [] x = Ok x
tested uri (test ∷ tests) x = if test.1 then tested uri tests x else refused uri test.0

-- What is there. By the rule something has to be.
abbrev pub found : {A : Type 0} → List ℕ → Rule → Option A → Checked A
found uri rule None = refused uri rule
found uri rule (Some x) = Ok x
