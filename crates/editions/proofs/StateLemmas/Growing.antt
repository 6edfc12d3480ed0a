-- Lists that grow by one item at a time.
use Rattle.std.proofs.Common.{◌≡◌, ℕ, ◌<◌, ◌+◌, suc, true, false, cond, refl, sym, ◌∙◌, ap, arith, length, get_or, take, drop, map, List, [], ◌∷◌, ◌++◌, Some, inl, inr, add-one, drop-cons}
use Rattle.std.specs.Prelude.{Bool, filter, ◌||◌, slice_get}
use Rattle.std.proofs.lemmas.Bool.{cases_eq}
use Rattle.std.proofs.Math.Seq.{get_or-append_seam}
use Rattle.std.proofs.lemmas.Option.{get_or_from_slice_get, slice_get-get_or}
use Rattle.std.specs.List.{list_any}
use Rattle.std.proofs.lemmas.List.{take_more, map-append, length-append, get_or_append_left}
use Rattle.std.proofs.lemmas.List.Elements.{filter-append}

pub map-grown : {X Y Z : Type 0} (f : X → Z) (h : Y → Z) (xs after : List X) (ys : List Y) (i : ℕ) (x : X) (y : Y) → i < length ys → y ≡ get_or ys i y →
    map f xs ≡ map h (take i ys) → after ≡ xs ++ x ∷ [] → f x ≡ h y → map f after ≡ map h (take (i + 1) ys)
map-grown {X} {Y} {Z} f h xs after ys i x y inside is was now same =
    let longer : take (i + 1) ys ≡ take i ys ++ y ∷ [] = take_more ys i y inside ∙ ap (λ (z : Y). take i ys ++ z ∷ []) (sym is) in
    ap (map f) now
    ∙ (map-append f xs (x ∷ [])
    ∙ (ap (λ (l : List Z). l ++ f x ∷ []) was
    ∙ (ap (λ (z : Z). map h (take i ys) ++ z ∷ []) same
    ∙ (sym (map-append h (take i ys) (y ∷ [])) ∙ ap (map h) (sym longer)))))

-- Of those that pass, told one by one.
pub passed-grown : {X Y : Type 0} (p : X → Bool) (f : X → Y) (xs : List X) (x : X) → map f (filter p (xs ++ x ∷ [])) ≡ map f (filter p xs) ++ cond (p x) (f x ∷ []) []
passed-grown p f xs x =
    ap (map f) (filter-append p xs (x ∷ []))
    ∙ (map-append f (filter p xs) (filter p (x ∷ []))
    ∙ ap (λ l. map f (filter p xs) ++ l) (elim (p x) as (λ b. map f (cond b (x ∷ []) []) ≡ cond b (f x ∷ []) []) [ true ↦ refl | false ↦ refl ]))

pub any-map : {X Y : Type 0} (p : Y → Bool) (f : X → Y) (xs : List X) → list_any p (map f xs) ≡ list_any (λ x. p (f x)) xs
any-map p f [] = refl
any-map p f (x ∷ xs) = ap (λ b. p (f x) || b) (any-map p f xs)

-- What holds of each place, with one item more.
pub each-grown : {X : Type 0} (want : ℕ → X) (xs : List X) (x : X) → ((k : ℕ) → k < length xs → slice_get xs k ≡ Some (want k)) → x ≡ want (length xs) →
    (k : ℕ) → k < length xs + 1 → slice_get (xs ++ x ∷ []) k ≡ Some (want k)
each-grown {X} want xs x each is = λ k less.
    elim (cases_eq k (length xs)) [
      | inl here ↦
          let inside : k < length (xs ++ x ∷ []) = simp length-append (omega arith) in
          let at : get_or (xs ++ x ∷ []) k x ≡ x = ap (λ (n : ℕ). get_or (xs ++ x ∷ []) n x) here ∙ get_or-append_seam xs x [] x in
          slice_get-get_or (xs ++ x ∷ []) k x inside ∙ ap (λ (y : X). Some y) (at ∙ (is ∙ ap want (sym here)))
      | inr other ↦
          let inside : k < length (xs ++ x ∷ []) = simp length-append (omega arith) in
          let at : get_or (xs ++ x ∷ []) k x ≡ get_or xs k x = get_or_append_left xs (x ∷ []) x k (omega arith) in
          let was : get_or xs k x ≡ want k = get_or_from_slice_get xs k (want k) x (each k (omega arith)) in
          slice_get-get_or (xs ++ x ∷ []) k x inside ∙ ap (λ (y : X). Some y) (at ∙ was)
    ]

-- What is left of a list from a place on.
pub next-dropped : {X : Type 0} (xs : List X) (i : ℕ) (x : X) → i < length xs → x ≡ get_or xs i x → drop i xs ≡ x ∷ drop (i + 1) xs
next-dropped {X} xs i x inside is = rw add-one (drop-cons xs i x inside ∙ ap (λ (y : X). y ∷ drop (suc i) xs) (sym is))
