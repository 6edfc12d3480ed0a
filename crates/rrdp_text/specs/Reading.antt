-- How a text is read from its front: what stands there and the bytes behind it, or how many bytes
-- are left at a fault. At the place of a fault stands a byte that can't, or the text ends there
-- (RFC 8182 section 3.5).
use Rattle.std.specs.Prelude.{ℕ, zero, suc, Bool, false, ◌==◌, List, [], ◌∷◌, length, take, drop, Option, Some, None, Result, Ok, Err, if◌then◌else◌}
use Rattle.std.specs.List.{prefix_len}

infixl 10 ◌>>=◌
abbrev pub ◌>>=◌ : {A B : Type 0} → Result A ℕ → (A → Result B ℕ) → Result B ℕ
(Ok x) >>= f = f x
(Err left) >>= f = Err left

-- These bytes: what is behind them.
unfoldable pub literal : List ℕ → List ℕ → Result (List ℕ) ℕ
literal [] s = Ok s
literal (c ∷ cs) [] = Err 0
literal (c ∷ cs) (b ∷ s) = if b == c then literal cs s else Err (suc (length s))

-- A value between its bytes and the one behind them: the bytes that may stand in it, how it is
-- spelled, and what is read.
pub record Field (A : Type 0) : Type 0 where
  pub allowed : ℕ → Bool
  pub spelled : A → List ℕ
  pub value : List ℕ → Option A

abbrev pub told : {A : Type 0} → Option A → List ℕ → Result (A × List ℕ) ℕ
told (Some a) rest = Ok (a, rest)
told None rest = Err (suc (length rest))

-- The content of a field is behind, and then the byte that ends it.
abbrev pub closed : {A : Type 0} → ℕ → Option A → List ℕ → Result (A × List ℕ) ℕ
closed ends value [] = Err 0
closed ends value (b ∷ rest) = if b == ends then told value rest else Err (suc (length rest))

-- A value up to the byte that ends it, and the bytes behind that one. Content that is no value is a
-- fault at the byte that ends it.
unfoldable pub field : {A : Type 0} → Field A → ℕ → List ℕ → Result (A × List ℕ) ℕ
field f ends s =
    let size = prefix_len f.allowed s in
    closed ends (f.value (take size s)) (drop size s)

-- Whether the text goes on with this byte.
abbrev pub begins : ℕ → List ℕ → Bool
begins c [] = false
begins c (b ∷ s) = b == c

-- Elements, each behind the URI of the one before it, and then the end. An element begins with a
-- space.
unfoldable pub elements : {E : Type 0} → (List ℕ → List ℕ → Result (E × List ℕ) ℕ) → (E → List ℕ)
    → List ℕ → ℕ → List ℕ → List ℕ → Result (List E × List ℕ) ℕ
elements one uri end zero previous s = Err 0
elements one uri end (suc n) previous s =
    if begins 32 s
    then (one previous s >>= λ e. elements one uri end n (uri e.0) e.1
    >>= λ more. Ok (e.0 ∷ more.0, more.1))
    else (literal end s >>= λ rest. Ok ([], rest))

-- The text ends here.
abbrev pub whole : {A : Type 0} → A × List ℕ → Result A ℕ
whole (a, rest) = elim rest [ [] ↦ Ok a | b ∷ more ↦ Err (suc (length more)) ]
