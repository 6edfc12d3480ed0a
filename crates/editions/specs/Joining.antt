-- Two lists of things by rising URI, gone through together.
use Rattle.std.specs.Prelude.{◌≡◌, ⊤, ℕ, List, [], ◌∷◌, Option, None, Some}
use Rattle.std.specs.Ordering.{match_ordering}
use Rattle.pub_set.specs.Objects.{uri_cmp, found_at, Rise}

-- The first thing at a URI.
abbrev pub at_uri : {A : Type 0} → (A → List ℕ) → List A → List ℕ → Option A
at_uri at things uri = found_at at (λ a. a) things uri

-- By rising URI, at each URI what comes of what the two lists have there.
pub record IsJoined {A B C : Type 0} (a_at : A → List ℕ) (b_at : B → List ℕ) (c_at : C → List ℕ)
    (joined : Option A → Option B → Option C) (left : List A) (right : List B) (all : List C)
    : Type 0 where
  pub rising : Rise c_at all
  pub each : (uri : List ℕ)
      → at_uri c_at all uri ≡ joined (at_uri a_at left uri) (at_uri b_at right uri)

-- What there may be is at the URI.
abbrev pub IsAt : {A : Type 0} → (A → List ℕ) → List ℕ → Option A → Type 0
IsAt at uri None = ⊤
IsAt at uri (Some a) = at a ≡ uri

-- ---- how the two lists are gone through

-- The first of the one list, of the other, or of both, where they are at one URI.
abbrev pub first_pair : {A B : Type 0} → (A → List ℕ) → (B → List ℕ)
    → List A → List B → Option A × Option B
first_pair a_at b_at [] [] = (None, None)
first_pair a_at b_at (a ∷ left) [] = (Some a, None)
first_pair a_at b_at [] (b ∷ right) = (None, Some b)
first_pair a_at b_at (a ∷ left) (b ∷ right) =
    match_ordering (uri_cmp (a_at a) (b_at b))
    (Some a, None) (Some a, Some b) (None, Some b)

-- What is left without the first, if it is taken.
abbrev pub rest_of : {A : Type 0} → Option A → List A → List A
rest_of None things = things
rest_of (Some first) [] = []
rest_of (Some first) (thing ∷ rest) = rest
