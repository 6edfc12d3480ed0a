-- Origins of which none stands twice have ROAs at URIs that are apart.
use Rattle.std.proofs.Common.{◌≡◌, ◌≢◌, ◌<◌, ◌||◌, suc, Bool, true, false, cond, None, Some, List, [], ◌∷◌, ◌++◌, length, get_or, map, sym, ap, subst, ◌∙◌, refl, arith}
use Rattle.std.specs.List.{All, AllPairs}
use Rattle.std.specs.Ordering.{is_eq}
use Rattle.std.proofs.lemmas.Cmp.{tied_itself}
use Rattle.std.proofs.lemmas.List.{get_or-map, length-map}
use Rattle.std.proofs.lemmas.List.Elements.{All-nil, All-cons}
use Rattle.std.proofs.lemmas.List.Kept.{AllPairs-cons}
use Rattle.origins.specs.declared.Origin.{Origin}
use Rattle.origins.specs.laws.Ordered.{origin_total}
use Rattle.authority_book.specs.Origins.{is_same, is_there, first_repeated, first_repeated_after}

same-self : (o : Origin) → is_same o o ≡ true
same-self o = ap is_eq (tied_itself origin_total o)

absent : (o : Origin) (xs : List Origin) → is_there xs o ≡ false → All (λ x. x ≢ o) xs
absent o [] none = All-nil (λ x. x ≢ o)
absent o (x ∷ xs) none = by (is_same o x) refl none (absent o xs)
  where
    by : (b : Bool) → is_same o x ≡ b → (b || is_there xs o) ≡ false → (is_there xs o ≡ false → All (λ y. y ≢ o) xs)
        → All (λ y. y ≢ o) (x ∷ xs)
    by true e h rest = absurd cc
    by false e h rest =
        All-cons (λ y. y ≢ o) x xs
        (λ same. let yes : is_same o x ≡ true = subst (λ (y : Origin). is_same o y ≡ true) (sym same) (same-self o) in absurd cc)
        (rest h)

front : (xs : List Origin) (x y : Origin) → All (λ z. z ≢ y) (xs ++ x ∷ []) → All (λ z. z ≢ y) xs
front [] x y all = All-nil (λ z. z ≢ y)
front (z ∷ xs) x y all =
    All-cons (λ z. z ≢ y) z xs (all 0 z (omega arith)) (front xs x y (λ k d lt. all (suc k) d (omega arith)))

behind : (xs : List Origin) (x y : Origin) → All (λ z. z ≢ y) (xs ++ x ∷ []) → x ≢ y
behind [] x y all = all 0 x (omega arith)
behind (z ∷ xs) x y all = behind xs x y (λ k d lt. all (suc k) d (omega arith))

each : (earlier xs : List Origin) → first_repeated_after earlier xs ≡ None
    → (All (λ x. All (λ y. y ≢ x) earlier) xs) × AllPairs (λ x y. x ≢ y) xs
each earlier [] none = (All-nil (λ x. All (λ y. y ≢ x) earlier), λ i j d low high. absurd (omega arith))
each earlier (x ∷ xs) none = by (is_there earlier x) refl none (each (earlier ++ x ∷ []) xs)
  where
    by : (b : Bool) → is_there earlier x ≡ b → cond b (Some x) (first_repeated_after (earlier ++ x ∷ []) xs) ≡ None
        → (first_repeated_after (earlier ++ x ∷ []) xs ≡ None
        → (All (λ z. All (λ y. y ≢ z) (earlier ++ x ∷ [])) xs) × AllPairs (λ z y. z ≢ y) xs)
        → (All (λ z. All (λ y. y ≢ z) earlier) (x ∷ xs)) × AllPairs (λ z y. z ≢ y) (x ∷ xs)
    by true e h rest = absurd cc
    by false e h rest =
        let more = rest h in (
          All-cons (λ z. All (λ y. y ≢ z) earlier) x xs (absent x earlier e)
              (λ k d lt. front earlier x (get_or xs k d) (more.0 k d lt)),
          AllPairs-cons (λ z y. z ≢ y) x xs (λ k d lt. behind earlier x (get_or xs k d) (more.0 k d lt)) more.1,
        )

told-apart : {X Y : Type 0} (f : X → Y) → ((x y : X) → f x ≡ f y → x ≡ y) → (xs : List X) → AllPairs (λ x y. x ≢ y) xs
    → AllPairs (λ a b. a ≢ b) (map f xs)
told-apart f once [] apart = λ i j d low high. absurd (omega arith)
told-apart f once (x ∷ xs) apart = λ i j d low high e.
    let long = length-map (x ∷ xs) f in
    let inside : j < length (x ∷ xs) = omega (arith, long, high) in
    apart i j x low inside
    (once (get_or (x ∷ xs) i x) (get_or (x ∷ xs) j x)
    (sym (get_or-map f (x ∷ xs) i x d (omega (arith, low, inside))) ∙ (e ∙ get_or-map f (x ∷ xs) j x d inside)))

pub none-twice : {Y : Type 0} (f : Origin → Y) → ((x y : Origin) → f x ≡ f y → x ≡ y) → (origins : List Origin)
    → first_repeated origins ≡ None → AllPairs (λ a b. a ≢ b) (map f origins)
none-twice f once origins none = told-apart f once origins (each [] origins none).1
