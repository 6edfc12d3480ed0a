-- What an answer says where the reading of a body is known: the same for every body.
use Rattle.std.proofs.Common.{◌≡◌, ℕ, ◌^◌, Bool, true, false, cond, ltb, Option, Some, None, List, length, Result, Ok, Err, refl, sym, ap, subst, ◌∙◌}
use Rattle.der.specs.Grammar.{AreBytes}
use Rattle.der.specs.declared.shape_fault.ShapeFault.{ShapeFault}
use Rattle.der.specs.declared.shape_fault.ShapeFault.TheVariants.{Shape as NoShape, Memory as NoMemory}
use Rattle.der.specs.Part.{start, ◌>>=◌}
use Rattle.der.specs.Form.{Whole, IsWhole}
use Rattle.der.specs.Object.{Spells, read_object, IsTruePlace}
use Rattle.der.specs.laws.ObjectLaws.{object-taken, object-again, object-fault}
use Rattle.der.specs.laws.FormLaws.{same-ok, not-both}
use Rattle.payloads.specs.declared.fault.BodyFault.TheVariants.{Shape, Order}
use Rattle.payloads.specs.Outcome.{value_or, ordered}
use Rattle.payloads.specs.laws.PlacedLaws.{Sees}

-- A format without regard to order, its reading with places, and the test of the order.
pub record IsOrdering {A B : Type 0} (f : Whole A) (g : Whole B) (see : B → A)
    (place : B → Option ℕ) (test : A → Bool) : Type 0 where
  pub law : IsWhole f
  pub sees : Sees see f g
  pub none : (y : B) → place y ≡ None → test (see y) ≡ true
  pub some : (y : B) (at : ℕ) → place y ≡ Some at → test (see y) ≡ false

-- The whole object is seen alike.
object-sees : {A B : Type 0} (f : Whole A) (g : Whole B) (see : B → A) → Sees see f g
    → (bytes : List ℕ) → read_object f bytes ≡ (read_object g bytes >>= (λ y. Ok (see y)))
object-sees f g see sees bytes = go (ltb (length bytes) (2 ^ 32))
  where
    go : (b : Bool) → cond b (f.read (start bytes)) (Err (NoShape (length bytes)))
        ≡ (cond b (g.read (start bytes)) (Err (NoShape (length bytes))) >>= (λ y. Ok (see y)))
    go true = sees (start bytes)
    go false = refl

-- What the reading with places came to, where the answer is a value.
answered-ok : {A B : Type 0} (see : B → A) (place : B → Option ℕ) (r : Result B ShapeFault)
    (v : A) → ordered see place r ≡ Ok v → (y : B) × (r ≡ Ok y) × (place y ≡ None) × (see y ≡ v)
answered-ok {A = A} {B = B} see place (Err e) v h = absurd cc
answered-ok {A = A} {B = B} see place (Ok y) v h = let s = step (place y) h in (y, refl, s.0, s.1)
  where
    step : (o : Option ℕ) → value_or (see y) o ≡ Ok v → (o ≡ None) × (see y ≡ v)
    step None h = (refl, cc)
    step (Some at) h = absurd cc

answered-order : {A B : Type 0} (see : B → A) (place : B → Option ℕ) (r : Result B ShapeFault)
    (at : ℕ) → ordered see place r ≡ Err (Order at) → (y : B) × (r ≡ Ok y) × (place y ≡ Some at)
answered-order see place (Err (NoShape n)) at h = absurd cc
answered-order see place (Err NoMemory) at h = absurd cc
answered-order see place (Ok y) at h = (y, refl, step (place y) h)
  where
    step : (o : Option ℕ) → value_or (see y) o ≡ Err (Order at) → o ≡ Some at
    step None h = absurd cc
    step (Some n) h = cc

answered-shape : {A B : Type 0} (see : B → A) (place : B → Option ℕ) (r : Result B ShapeFault)
    (at : ℕ) → ordered see place r ≡ Err (Shape at) → r ≡ Err (NoShape at)
answered-shape see place (Err (NoShape n)) at h = cc
answered-shape see place (Err NoMemory) at h = absurd cc
answered-shape see place (Ok y) at h = absurd (step (place y) h)
  where
    step : (o : Option ℕ) → value_or (see y) o ≡ Err (Shape at) → ⊥
    step None h = cc
    step (Some n) h = cc

pub body-taken : {A B : Type 0} (f : Whole A) (g : Whole B) (see : B → A) (place : B → Option ℕ)
    (test : A → Bool) → IsOrdering f g see place test → (bytes : List ℕ) → AreBytes bytes
    → (v : A) → ordered see place (read_object g bytes) ≡ Ok v
    → Spells f v bytes × (test v ≡ true)
body-taken {A = A} {B = B} f g see place test is bytes fits v h =
    let a = answered-ok see place (read_object g bytes) v h in
    let read : read_object f bytes ≡ Ok (see a.0) = object-sees f g see is.sees bytes
    ∙ ap (λ (r : Result B ShapeFault). r >>= (λ y. Ok (see y))) a.1 in
    subst (λ (x : A). Spells f x bytes × (test x ≡ true)) a.3
    (object-taken f is.law (see a.0) bytes fits read, is.none a.0 a.2)

pub body-disorder : {A B : Type 0} (f : Whole A) (g : Whole B) (see : B → A)
    (place : B → Option ℕ) (test : A → Bool) → IsOrdering f g see place test → (bytes : List ℕ)
    → AreBytes bytes → (at : ℕ) → ordered see place (read_object g bytes) ≡ Err (Order at)
    → (v : A) × Spells f v bytes × (test v ≡ false)
body-disorder {A = A} {B = B} f g see place test is bytes fits at h =
    let a = answered-order see place (read_object g bytes) at h in
    let read : read_object f bytes ≡ Ok (see a.0) = object-sees f g see is.sees bytes
    ∙ ap (λ (r : Result B ShapeFault). r >>= (λ y. Ok (see y))) a.1 in
    (see a.0, object-taken f is.law (see a.0) bytes fits read, is.some a.0 at a.2)

pub body-shape : {A B : Type 0} (f : Whole A) (g : Whole B) (see : B → A) (place : B → Option ℕ)
    (test : A → Bool) → IsOrdering f g see place test → (bytes : List ℕ) → AreBytes bytes
    → (at : ℕ) → ordered see place (read_object g bytes) ≡ Err (Shape at)
    → IsTruePlace f bytes at × ((v : A) → Spells f v bytes → ⊥)
body-shape {A = A} {B = B} f g see place test is bytes fits at h =
    let read : read_object f bytes ≡ Err (NoShape at) = object-sees f g see is.sees bytes
    ∙ ap (λ (r : Result B ShapeFault). r >>= (λ y. Ok (see y)))
    (answered-shape see place (read_object g bytes) at h) in (
      object-fault f is.law (NoShape at) bytes fits read,
      λ v spells. not-both (read_object f bytes) v (NoShape at)
          (object-again f is.law v bytes fits spells) read,
    )

-- What the reading with places comes to where the other reading has a value.
seen-ok : {A B : Type 0} (see : B → A) (r : Result B ShapeFault) (v : A)
    → (r >>= (λ y. Ok (see y))) ≡ Ok v → (y : B) × (r ≡ Ok y) × (see y ≡ v)
seen-ok {A = A} see (Ok y) v h = (y, refl, same-ok {A = A} (see y) v h)
seen-ok see (Err e) v h = absurd cc

not-both-ways : (b : Bool) → b ≡ true → b ≡ false → ⊥
not-both-ways true h e = absurd cc
not-both-ways false h e = absurd cc

pub body-again : {A B : Type 0} (f : Whole A) (g : Whole B) (see : B → A) (place : B → Option ℕ)
    (test : A → Bool) → IsOrdering f g see place test → (bytes : List ℕ) → AreBytes bytes
    → (v : A) → Spells f v bytes → test v ≡ true → ordered see place (read_object g bytes) ≡ Ok v
body-again {A = A} {B = B} f g see place test is bytes fits v spells up =
    let a = seen-ok see (read_object g bytes) v
    (sym (object-sees f g see is.sees bytes) ∙ object-again f is.law v bytes fits spells) in
    ap (ordered see place) a.1 ∙ step a.0 (place a.0) refl a.2
  where
    step : (y : B) (o : Option ℕ) → place y ≡ o → see y ≡ v → value_or (see y) o ≡ Ok v
    step y None e same = ap (λ (x : A). Ok x) same
    step y (Some at) e same =
        absurd (not-both-ways (test v) up (sym (ap test same) ∙ is.some y at e))

pub body-unordered : {A B : Type 0} (f : Whole A) (g : Whole B) (see : B → A)
    (place : B → Option ℕ) (test : A → Bool) → IsOrdering f g see place test → (bytes : List ℕ)
    → AreBytes bytes → (v : A) → Spells f v bytes → test v ≡ false
    → (at : ℕ) × (ordered see place (read_object g bytes) ≡ Err (Order at))
body-unordered {A = A} {B = B} f g see place test is bytes fits v spells down =
    let a = seen-ok see (read_object g bytes) v
    (sym (object-sees f g see is.sees bytes) ∙ object-again f is.law v bytes fits spells) in
    let s = step a.0 (place a.0) refl a.2 in
    (s.0, ap (ordered see place) a.1 ∙ s.1)
  where
    step : (y : B) (o : Option ℕ) → place y ≡ o → see y ≡ v
        → (at : ℕ) × (value_or (see y) o ≡ Err (Order at))
    step y None e same = absurd (not-both-ways (test v) (sym (ap test same) ∙ is.none y e) down)
    step y (Some at) e same = (at, refl)
