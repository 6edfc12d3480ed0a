-- What passes all tests is accepted.
use Rattle.std.proofs.Common.{◌≡◌, ℕ, true, cond, Option, Some, List, [], ◌∷◌, Ok, refl, ap, ◌∙◌}
use Rattle.rp_rules.specs.declared.rules.Rule.{Rule}
use Rattle.rp_rules.specs.Checks.{Checked, Test, ◌>>=◌, tested, found, refused}

abbrev pub AllKept : List Test → Type 0
AllKept [] = Unit {0}
AllKept (test ∷ tests) = (test.1 ≡ true) × AllKept tests

pub tested-kept : {A : Type 0} (uri : List ℕ) (tests : List Test) (x : A) → AllKept tests
    → tested uri tests x ≡ Ok x
tested-kept uri [] x kept = refl
tested-kept uri (test ∷ tests) x kept =
    ap (λ b. cond b (tested uri tests x) (refused uri test.0)) kept.0
    ∙ tested-kept uri tests x kept.1

pub found-there : {A : Type 0} (uri : List ℕ) (rule : Rule) (o : Option A) (x : A) → o ≡ Some x
    → found uri rule o ≡ Ok x
found-there uri rule o x there = ap (found uri rule) there

pub handed-on : {A B : Type 0} (r : Checked A) (x : A) (f : A → Checked B) → r ≡ Ok x
    → (r >>= f) ≡ f x
handed-on {A} r x f is = ap (λ (c : Checked A). c >>= f) is
