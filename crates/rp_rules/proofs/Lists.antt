-- Elements of lists, and lists that have none twice.
use Rattle.std.proofs.Common.{◌≡◌, ℕ, Bool, true, false, not, ◌||◌, List, [], ◌∷◌, ◌++◌, refl, sym, ap, ◌∙◌, inl, inr}
use Rattle.std.specs.List.{Contains}
use Rattle.std.specs.Str.{bytes_eq}
use Rattle.std.proofs.lemmas.List.Folds.{list_any-append}
use Rattle.std.proofs.lemmas.Slice.Eq.{bytes_eq-Decides}
use Rattle.std.proofs.lemmas.Bool.{and_parts, and_from, or_parts, or_left, or_right, false_from_ne_true}
use Rattle.items.specs.laws.ElementLaws.{none, first-or-rest}
use Rattle.rp_rules.specs.Certificates.{is_among}
use Rattle.rp_rules.specs.Points.{are_distinct}

-- What stands before an element and behind it.
pub record Split {X : Type 0} (xs : List X) (x : X) : Type 0 where
  pub before : List X
  pub after : List X
  pub whole : xs ≡ before ++ x ∷ after

pub split : {X : Type 0} (xs : List X) (x : X) → Contains xs x → Split xs x
split [] x c = absurd (none x c)
split (y ∷ ys) x c = elim (first-or-rest y ys x c) [
  | inl same ↦ record { before = []; after = ys; whole = ap (λ z. z ∷ ys) same }
  | inr rest ↦ let s = split ys x rest in record { before = y ∷ s.before; after = s.after; whole = ap (λ zs. y ∷ zs) s.whole }
]

pub append-step : {X : Type 0} (xs : List X) (y : X) (ys : List X) → xs ++ y ∷ ys ≡ (xs ++ y ∷ []) ++ ys
append-step [] y ys = refl
append-step (x ∷ xs) y ys = ap (λ zs. x ∷ zs) (append-step xs y ys)

-- ---- URIs

pub same-bytes : (xs ys : List ℕ) → bytes_eq xs ys ≡ true → xs ≡ ys
same-bytes xs ys e = (bytes_eq-Decides xs ys).0 e

pub bytes-same : (xs ys : List ℕ) → xs ≡ ys → bytes_eq xs ys ≡ true
bytes-same xs ys e = (bytes_eq-Decides xs ys).1 e

pub not-true : (b : Bool) → not b ≡ true → b ≡ false
not-true true e = absurd cc
not-true false e = refl

neither : (a b : Bool) → a ≡ false → b ≡ false → (a || b) ≡ false
neither true b e f = absurd cc
neither false b e f = f

apart : (xs ys : List ℕ) → bytes_eq xs ys ≡ false → bytes_eq ys xs ≡ false
apart xs ys e = false_from_ne_true (bytes_eq ys xs) (λ t. clash (bytes_eq xs ys) (bytes-same xs ys (sym (same-bytes ys xs t))) e)
  where
    clash : (b : Bool) → b ≡ true → b ≡ false → ⊥
    clash b t f = cc

pub among-left : (xs ys : List (List ℕ)) (uri : List ℕ) → is_among xs uri ≡ true → is_among (xs ++ ys) uri ≡ true
among-left xs ys uri e = list_any-append (λ other. bytes_eq other uri) xs ys ∙ or_left (is_among xs uri) (is_among ys uri) e

pub among-right : (xs ys : List (List ℕ)) (uri : List ℕ) → is_among ys uri ≡ true → is_among (xs ++ ys) uri ≡ true
among-right xs ys uri e = list_any-append (λ other. bytes_eq other uri) xs ys ∙ or_right (is_among xs uri) (is_among ys uri) e

pub among-from : (xs : List (List ℕ)) (uri : List ℕ) → Contains xs uri → is_among xs uri ≡ true
among-from [] uri c = absurd (none uri c)
among-from (x ∷ xs) uri c = elim (first-or-rest x xs uri c) [
  | inl same ↦ or_left (bytes_eq x uri) (is_among xs uri) (bytes-same x uri same)
  | inr rest ↦ or_right (bytes_eq x uri) (is_among xs uri) (among-from xs uri rest)
]

pub distinct-push : (xs : List (List ℕ)) (uri : List ℕ) → are_distinct xs ≡ true → is_among xs uri ≡ false → are_distinct (xs ++ uri ∷ []) ≡ true
distinct-push [] uri d new = refl
distinct-push (x ∷ xs) uri d new =
    let a = and_parts (not (is_among xs x)) (are_distinct xs) d in
    let b = or_parts (bytes_eq x uri) (is_among xs uri) new in
    let none : is_among (xs ++ uri ∷ []) x ≡ false = list_any-append (λ other. bytes_eq other x) xs (uri ∷ [])
    ∙ neither (is_among xs x) (is_among (uri ∷ []) x) (not-true (is_among xs x) a.0) (neither (bytes_eq uri x) false (apart x uri b.0) refl) in
    and_from (not (is_among (xs ++ uri ∷ []) x)) (are_distinct (xs ++ uri ∷ [])) (ap not none) (distinct-push xs uri a.1 b.1)
