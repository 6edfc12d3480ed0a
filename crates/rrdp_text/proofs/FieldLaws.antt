-- A field is exact where its values are spelled with bytes that may stand in it.
use Rattle.std.proofs.Common.{◌≡◌, ℕ, suc, ◌+◌, Bool, true, false, ◌==◌, List, [], ◌∷◌, ◌++◌, length, take, drop, ◌⊎◌, inl, inr, Ok, Err, Option, Some, None, refl, sym, ap, ◌∙◌, arith, append_assoc}
use Rattle.std.specs.List.{prefix_len, list_all}
use Rattle.std.proofs.lemmas.Bool.{cases_Bool, eqb-true, eq-eqb, and_parts}
use Rattle.std.proofs.lemmas.List.{take-append-drop, take_at, drop_at}
use Rattle.rrdp_text.specs.Reading.{Field, field, closed, told}
use Rattle.rrdp_text.proofs.Exact.{Exact, Stops}

-- the bytes of a value may stand in the field, and are read as it; what is read is good and spelled so
pub record IsField {A : Type 0} (Good : A → Type 0) (f : Field A) : Type 0 where
  pub within : (a : A) → Good a → list_all f.allowed (f.spelled a) ≡ true
  pub again : (a : A) → Good a → f.value (f.spelled a) ≡ Some a
  pub taken : (bytes : List ℕ) (a : A) → list_all f.allowed bytes ≡ true → f.value bytes ≡ Some a → Good a × (bytes ≡ f.spelled a)

-- ---- the longest front of such bytes

one_more : (n : ℕ) → 1 + n ≡ suc n
one_more n = omega arith

pub front_all : (p : ℕ → Bool) (s : List ℕ) → list_all p (take (prefix_len p s) s) ≡ true
front_all p [] = refl
front_all p (b ∷ s) = elim (cases_Bool (p b)) [
  | inl may ↦ rw (may, one_more (prefix_len p s)) (rw may (front_all p s))
  | inr not ↦ rw not refl
]

pub front_is : (p : ℕ → Bool) (xs : List ℕ) (e : ℕ) (rest : List ℕ) → list_all p xs ≡ true → p e ≡ false
    → prefix_len p (xs ++ (e ∷ rest)) ≡ length xs
front_is p [] e rest all none = rw none refl
front_is p (x ∷ xs) e rest all none =
    let parts = and_parts (p x) (list_all p xs) all in
    let inner = front_is p xs e rest parts.1 none in
    rw parts.0 (omega (arith, inner))

pub front_stops : (p : ℕ → Bool) (s : List ℕ) (b : ℕ) (rest : List ℕ) → drop (prefix_len p s) s ≡ b ∷ rest → p b ≡ false
front_stops p [] b rest h = cc h
front_stops p (x ∷ s) b rest h = elim (cases_Bool (p x)) [
  | inl may ↦ front_stops p s b rest (rw (may, one_more (prefix_len p s)) at h)
  | inr not ↦
      let e = rw not at h in
      let same : x ≡ b = cc e in
      rw (← same) not
]

-- fronts of allowed bytes and what ends them are alike in one list
fronts_meet : (p : ℕ → Bool) (xs ys : List ℕ) (d e : ℕ) (more tail : List ℕ) → list_all p xs ≡ true → list_all p ys ≡ true
    → p d ≡ false → p e ≡ false → xs ++ (d ∷ more) ≡ ys ++ (e ∷ tail) → (xs ≡ ys) × (d ≡ e)
fronts_meet p [] [] d e more tail all_x all_y not_d not_e h = (refl, cc h)
fronts_meet p [] (y ∷ ys) d e more tail all_x all_y not_d not_e h =
    let parts = and_parts (p y) (list_all p ys) all_y in
    let same : d ≡ y = cc h in
    let bad = rw same at not_d in
    cc (bad, parts.0)
fronts_meet p (x ∷ xs) [] d e more tail all_x all_y not_d not_e h =
    let parts = and_parts (p x) (list_all p xs) all_x in
    let same : x ≡ e = cc h in
    let bad = rw (← same) at not_e in
    cc (bad, parts.0)
fronts_meet p (x ∷ xs) (y ∷ ys) d e more tail all_x all_y not_d not_e h =
    let inner = fronts_meet p xs ys d e more tail (and_parts (p x) _ all_x).1 (and_parts (p y) _ all_y).1 not_d not_e (cc h) in
    let head : x ≡ y = cc h in
    let rest : xs ≡ ys = inner.0 in
    (cc, inner.1)

-- ---- the field

told_ok : {A : Type 0} (o : Option A) (a : A) (rest behind : List ℕ) → told o behind ≡ Ok (a, rest) → (o ≡ Some a) × (behind ≡ rest)
told_ok {A} (Some x) a rest behind h =
    let e : ◌≡◌ {A = A × List ℕ} (x, behind) (a, rest) = cc h in
    (ap (λ (p : A × List ℕ). Some p.0) e, ap (λ (p : A × List ℕ). p.1) e)
told_ok None a rest behind h = cc h

told_err : {A : Type 0} (o : Option A) (left : ℕ) (behind : List ℕ) → told o behind ≡ Err left → (o ≡ None) × (left ≡ suc (length behind))
told_err (Some x) left behind h = cc h
told_err None left behind h = (refl, cc h)

pub closed_ok : {A : Type 0} (ends : ℕ) (o : Option A) (s : List ℕ) (a : A) (rest : List ℕ) → closed ends o s ≡ Ok (a, rest)
    → (o ≡ Some a) × (s ≡ ends ∷ rest)
closed_ok ends o [] a rest h = cc h
closed_ok ends o (b ∷ s) a rest h = elim (cases_Bool (b == ends)) [
  | inl is ↦
      let inner = told_ok o a rest s (rw is at h) in
      let end : b ≡ ends = eqb-true b ends is in
      let tail : s ≡ rest = inner.1 in
      (inner.0, cc)
  | inr isnt ↦ let bad = rw isnt at h in cc bad
]

-- why a field is refused: the text ends, another byte ends it, or its content is no value
closed_err : {A : Type 0} (ends : ℕ) (o : Option A) (s : List ℕ) (left : ℕ) → closed ends o s ≡ Err left
    → (left ≡ 0) ⊎ ((b : ℕ) × (rest : List ℕ) × (s ≡ b ∷ rest) × (left ≡ suc (length rest)) × (b ≡ ends → o ≡ None))
closed_err ends o [] left h = inl (cc h)
closed_err ends o (b ∷ s) left h = elim (cases_Bool (b == ends)) [
  | inl is ↦ let inner = told_err o left s (rw is at h) in inr (b, s, refl, inner.1, λ _. inner.0)
  | inr isnt ↦
      let place = rw isnt at h in
      inr (b, s, refl, cc place, λ same. let is : b == ends ≡ true = eq-eqb b ends same in cc (is, isnt))
]

field-stops : {A : Type 0} {Good : A → Type 0} {f : Field A} (ends : ℕ) (s : List ℕ) (left b : ℕ) (rest : List ℕ) → IsField Good f → f.allowed ends ≡ false
    → drop (prefix_len f.allowed s) s ≡ b ∷ rest → left ≡ suc (length rest)
    → (b ≡ ends → f.value (take (prefix_len f.allowed s) s) ≡ None)
    → Stops Good (λ a. f.spelled a ++ (ends ∷ [])) s left
field-stops {A} {Good} {f} ends s left b rest is apart back place none =
    let size = prefix_len f.allowed s in
    record {
      front = take size s;
      byte = b;
      back = rest;
      bytes = sym (take-append-drop size s) ∙ ap (λ (l : List ℕ). take size s ++ l) back;
      place = place;
      none = λ a good more tail e.
          let ended : f.spelled a ++ (ends ∷ more) ≡ take size s ++ (b ∷ tail) = sym (append_assoc (f.spelled a) (ends ∷ []) more) ∙ e in
          let meet = fronts_meet f.allowed (f.spelled a) (take size s) ends b more tail (is.within a good) (front_all f.allowed s) apart (front_stops f.allowed s b rest back) ended in
          let again = is.again a good in
          let refused = none (sym meet.1) in
          let read : f.value (f.spelled a) ≡ f.value (take size s) = ap f.value meet.0 in
          cc (again, refused, read);
    }

pub field_exact : {A : Type 0} {Good : A → Type 0} {f : Field A} (ends : ℕ) → IsField Good f → f.allowed ends ≡ false
    → Exact Good (λ a. f.spelled a ++ (ends ∷ [])) (field f ends)
unfolding field
field_exact {A} {Good} {f} ends is apart = record {
  again = λ a good rest.
      let bytes = f.spelled a in
      let size : prefix_len f.allowed (bytes ++ (ends ∷ rest)) ≡ length bytes = front_is f.allowed bytes ends rest (is.within a good) apart in
      let front : take (length bytes) (bytes ++ (ends ∷ rest)) ≡ bytes = take_at bytes (ends ∷ rest) (length bytes) refl in
      let back : drop (length bytes) (bytes ++ (ends ∷ rest)) ≡ ends ∷ rest = drop_at bytes (ends ∷ rest) (length bytes) refl in
      rw (append_assoc bytes (ends ∷ []) rest, size, front, back, is.again a good) (rw (eq-eqb ends ends refl) refl);
  taken = λ s a rest h.
      let size = prefix_len f.allowed s in
      let parts = closed_ok ends (f.value (take size s)) (drop size s) a rest h in
      let inner = is.taken (take size s) a (front_all f.allowed s) parts.0 in (
        inner.0,
        sym (take-append-drop size s) ∙ ap (λ (l : List ℕ). take size s ++ l) parts.1 ∙ ap (λ (l : List ℕ). l ++ (ends ∷ rest)) inner.1
            ∙ sym (append_assoc (f.spelled a) (ends ∷ []) rest),
      );
  stops = λ s left h.
      let size = prefix_len f.allowed s in
      elim (closed_err ends (f.value (take size s)) (drop size s) left h) [
        | inl end ↦ inl end
        | inr (b, rest, back, place, none) ↦ inr (field-stops ends s left b rest is apart back place none)
      ];
}
