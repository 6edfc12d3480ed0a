-- What an index finds of a list.
use Rattle.std.proofs.Common.{◌≡◌, ℕ, ◌+◌, ◌<◌, zero, suc, Bool, true, false, cond, ◌&&◌, Option}
use Rattle.std.proofs.Common.{None, Some, List, [], ◌∷◌, length, map, filter}
use Rattle.std.proofs.Common.{refl, sym, ap, subst, ◌∙◌, arith}
use Rattle.std.specs.List.{slice_get, cons_option}
use Rattle.std.specs.Str.{bytes_eq}
use Rattle.std.proofs.lemmas.List.Elements.{All-nil, All-cons}
use Rattle.key_ids.specs.declared.identifier.KeyId.{KeyId}
use Rattle.issue_keys.specs.declared.key_index.KeyPosition.{KeyPosition}
use Rattle.issue_keys.specs.Under.{positions_under}
use Rattle.issue_keys.specs.Indexes.{key_positions, has_id, IsIndex}
use Rattle.issue_drafts.specs.inner.Positions.{items_at, AreInside}

-- The rest of a list from a position on.
pub record Behind {A : Type 0} (whole : List A) (n : ℕ) (rest : List A) : Type 0 where
  pub is : (k : ℕ) → slice_get whole (n + k) ≡ slice_get rest k

next : {A : Type 0} (whole : List A) (n : ℕ) (x : A) (rest : List A) → Behind whole n (x ∷ rest)
    → Behind whole (n + 1) rest
next whole n x rest b = record {
  is = λ k.
      let e : (n + 1) + k ≡ n + suc k = omega arith in
      ap (slice_get whole) e ∙ b.is (suc k);
}

here : {A : Type 0} (whole : List A) (n : ℕ) (x : A) (rest : List A) → Behind whole n (x ∷ rest)
    → slice_get whole n ≡ Some x
here whole n x rest b =
    let e : n ≡ n + 0 = omega arith in
    ap (slice_get whole) e ∙ b.is 0

pub inside-get : {A : Type 0} (xs : List A) (n : ℕ) (x : A) → slice_get xs n ≡ Some x → n < length xs
inside-get [] n x e = absurd cc
inside-get (y ∷ ys) zero x e = omega arith
inside-get (y ∷ ys) (suc n) x e =
    let h = inside-get ys n x e in
    omega arith

at-found : {A : Type 0} (f : A → Option KeyId) (whole : List A) (id : List ℕ) (n : ℕ) (rest : List A)
    → Behind whole n rest
    → items_at whole (positions_under id (key_positions n (map f rest))) ≡ filter (λ x. has_id id (f x)) rest
at-found f whole id n [] b = refl
at-found {A} f whole id n (x ∷ rest) b = by (f x) (at-found f whole id (n + 1) rest (next whole n x rest b))
  where
    by : (o : Option KeyId)
        → items_at whole (positions_under id (key_positions (n + 1) (map f rest))) ≡ filter (λ x. has_id id (f x)) rest
        → items_at whole (positions_under id (key_positions n (o ∷ map f rest))) ≡ cond (has_id id o)
        (x ∷ filter (λ x. has_id id (f x)) rest) (filter (λ x. has_id id (f x)) rest)
    by None more = more
    by (Some key) more = at (bytes_eq key.bytes id)
      where
        at : (t : Bool)
            → items_at whole (cond t (record { key = key; position = n } ∷ positions_under id
            (key_positions (n + 1) (map f rest))) (positions_under id (key_positions (n + 1) (map f rest)))) ≡
            cond t (x ∷ filter (λ x. has_id id (f x)) rest) (filter (λ x. has_id id (f x)) rest)
        at true =
            ap (λ (o : Option A). cons_option o (items_at whole
            (positions_under id (key_positions (n + 1) (map f rest))))) (here whole n x rest b)
            ∙ ap (λ (l : List A). x ∷ l) more
        at false = more

all-inside : {A : Type 0} (f : A → Option KeyId) (whole : List A) (id : List ℕ) (n : ℕ) (rest : List A)
    → Behind whole n rest → AreInside whole (positions_under id (key_positions n (map f rest)))
all-inside f whole id n [] b = All-nil (λ (e : KeyPosition). e.position < length whole)
all-inside {A} f whole id n (x ∷ rest) b = by (f x) (all-inside f whole id (n + 1) rest (next whole n x rest b))
  where
    by : (o : Option KeyId) → AreInside whole (positions_under id (key_positions (n + 1) (map f rest)))
        → AreInside whole (positions_under id (key_positions n (o ∷ map f rest)))
    by None more = more
    by (Some key) more = at (bytes_eq key.bytes id)
      where
        at : (t : Bool)
            → AreInside whole (cond t (record { key = key; position = n } ∷ positions_under id
            (key_positions (n + 1) (map f rest))) (positions_under id (key_positions (n + 1) (map f rest))))
        at true = All-cons (λ (e : KeyPosition). e.position < length whole) _ _
            (inside-get whole n x (here whole n x rest b)) more
        at false = more

start : {A : Type 0} (whole : List A) → Behind whole 0 whole
start whole = record { is = λ k. ap (slice_get whole) (omega arith) }

-- The items that have the key with that identifier.
pub found : {A : Type 0} (f : A → Option KeyId) (xs : List A) (index positions : List KeyPosition) (id : List ℕ)
    → IsIndex (map f xs) index → positions ≡ positions_under id index
    → items_at xs positions ≡ filter (λ x. has_id id (f x)) xs
found f xs index positions id h is =
    ap (items_at xs) (is ∙ h id) ∙ at-found f xs id 0 xs (start xs)

pub inside : {A : Type 0} (f : A → Option KeyId) (xs : List A) (index positions : List KeyPosition) (id : List ℕ)
    → IsIndex (map f xs) index → positions ≡ positions_under id index → AreInside xs positions
inside f xs index positions id h is =
    subst (AreInside xs) (sym (is ∙ h id)) (all-inside f xs id 0 xs (start xs))

-- ---- items with a key under a test

and-true : (b : Bool) → b ≡ (b && true)
and-true true = refl
and-true false = refl

and-false : (b : Bool) → false ≡ (b && false)
and-false true = refl
and-false false = refl

pub has-under : (id : List ℕ) (key : KeyId) (t : Bool)
    → has_id id (cond t (Some key) None) ≡ (bytes_eq key.bytes id && t)
has-under id key true = and-true (bytes_eq key.bytes id)
has-under id key false = and-false (bytes_eq key.bytes id)

-- The item at a position.
pub at-position : {A : Type 0} (xs : List A) (position : KeyPosition) (x : A) → slice_get xs position.position ≡ Some x
    → items_at xs (position ∷ []) ≡ x ∷ []
at-position {A} xs position x e = ap (λ (o : Option A). cons_option o []) e
