-- Lists and loops over them.
use Rattle.std.proofs.Common.{◌≡◌, ℕ, zero, suc, ◌≤◌, Bool, true, None, List, [], ◌∷◌, ◌++◌, length, take, drop, map, refl, sym, ap, ◌∙◌, append_assoc, arith}
use Rattle.std.specs.List.{flat_map}
use Rattle.std.proofs.lemmas.List.{append-nil}
use Rattle.payloads.specs.Order.{rises, first_unordered}

-- One value alone rises.
pub short-ordered : {A : Type 0} (below : A → A → Bool) (xs : List (ℕ × A)) → length xs ≤ 1 → first_unordered below xs ≡ None
short-ordered below [] few = refl
short-ordered below (x ∷ []) few = refl
short-ordered below (x ∷ y ∷ xs) few = absurd (omega arith)

pub short-rises : {A : Type 0} (below : A → A → Bool) (xs : List A) → length xs ≤ 1 → rises below xs ≡ true
short-rises below [] few = refl
short-rises below (x ∷ []) few = refl
short-rises below (x ∷ y ∷ xs) few = absurd (omega arith)

-- The values without their places, seen.
pub unplaced : {A B : Type 0} (view : A → B) (xs : List (ℕ × A)) → map (λ (y : ℕ × B). y.1) (map (λ (x : ℕ × A). (x.0, view x.1)) xs) ≡ map view (map (λ (x : ℕ × A). x.1) xs)
unplaced view [] = refl
unplaced {B = B} view (x ∷ xs) = ap (λ (l : List B). view x.1 ∷ l) (unplaced view xs)

-- The spellings of one value more.
pub spelled-more : {A B : Type 0} (spelling : B → List ℕ) (view : A → B) (xs : List A) (x : A) → flat_map spelling (map view (xs ++ (x ∷ []))) ≡ flat_map spelling (map view xs) ++ spelling (view x)
spelled-more spelling view [] x = append-nil (spelling (view x))
spelled-more spelling view (y ∷ xs) x = ap (λ (l : List ℕ). spelling (view y) ++ l) (spelled-more spelling view xs x) ∙ sym (append_assoc (spelling (view y)) (flat_map spelling (map view xs)) (spelling (view x)))

pub map-take : {A B : Type 0} (f : A → B) (n : ℕ) (xs : List A) → take n (map f xs) ≡ map f (take n xs)
map-take f zero xs = refl
map-take f (suc n) [] = refl
map-take {B = B} f (suc n) (x ∷ xs) = ap (λ (l : List B). f x ∷ l) (map-take f n xs)

pub map-drop : {A B : Type 0} (f : A → B) (n : ℕ) (xs : List A) → drop n (map f xs) ≡ map f (drop n xs)
map-drop f zero xs = refl
map-drop f (suc n) [] = refl
map-drop f (suc n) (x ∷ xs) = map-drop f n xs
