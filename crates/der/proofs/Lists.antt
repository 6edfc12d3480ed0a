-- A loop over the values of a list.
use Rattle.std.proofs.Common.{◌≡◌, ◌<◌, true, false, List, [], ◌∷◌, ◌++◌, length, Result, Ok, Err, refl, sym, ap, ◌∙◌, append_assoc, arith}
use Rattle.std.proofs.lemmas.List.{length-append, append-nil}
use Rattle.der.specs.declared.shape_fault.ShapeFault.{ShapeFault}
use Rattle.der.specs.declared.part.Part.{Part}
use Rattle.der.specs.Part.{Place, IsPlace, ◌>>=◌, place, is_empty}
use Rattle.der.specs.Form.{Front}
use Rattle.der.specs.Forms.{many}
use Rattle.der.specs.laws.ListLaws.{IsMoving, many-read, many-none}

-- The values so far, and then those of the place that was come to.
abbrev pub ReadsFurther : {A : Type 0} → Front A → Place → List A → Place → Type 0
ReadsFurther f p xs q = (many f).read p ≡ ((many f).read q >>= (λ ys. Ok (xs ++ ys)))

pub at-first : {A : Type 0} (f : Front A) (p : Place) → ReadsFurther f p [] p
at-first {A = A} f p = same ((many f).read p)
  where
    same : (r : Result (List A) ShapeFault) → r ≡ (r >>= (λ ys. Ok ys))
    same (Ok xs) = refl
    same (Err e) = refl

pub one-more : {A : Type 0} (f : Front A) → IsMoving f → (p : Place) (xs : List A) (q t : Place) (x : A) → ReadsFurther f p xs q → IsPlace q → is_empty q.left ≡ false → f.read q ≡ Ok (x, t) → ReadsFurther f p (xs ++ (x ∷ [])) t
one-more {A = A} f law p xs q t x on is some e =
    let step : (many f).read q ≡ ((many f).read t >>= (λ ys. Ok (x ∷ ys))) = many-read f law q is some ∙ ap (λ (r : Result (A × Place) ShapeFault). r >>= (λ x. (many f).read x.1 >>= (λ ys. Ok (x.0 ∷ ys)))) e in
    on ∙ ap (λ (r : Result (List A) ShapeFault). r >>= (λ ys. Ok (xs ++ ys))) step ∙ grouped ((many f).read t)
  where
    grouped : (r : Result (List A) ShapeFault) → ((r >>= (λ ys. Ok (x ∷ ys))) >>= (λ ys. Ok (xs ++ ys))) ≡ (r >>= (λ ys. Ok ((xs ++ (x ∷ [])) ++ ys)))
    grouped (Ok ys) = ap (λ (l : List A). Ok l) (sym (append_assoc xs (x ∷ []) ys))
    grouped (Err e) = refl

pub at-last : {A : Type 0} (f : Front A) (p : Place) (xs : List A) (q : Place) → ReadsFurther f p xs q → is_empty q.left ≡ true → (many f).read p ≡ Ok xs
at-last {A = A} f p xs q on none =
    on ∙ ap (λ (r : Result (List A) ShapeFault). r >>= (λ ys. Ok (xs ++ ys))) (many-none f (length q.left) q none) ∙ ap (λ (l : List A). Ok l) (append-nil xs)

pub stopped : {A : Type 0} (f : Front A) → IsMoving f → (p : Place) (xs : List A) (q : Place) (e : ShapeFault) → ReadsFurther f p xs q → IsPlace q → is_empty q.left ≡ false → f.read q ≡ Err e → (many f).read p ≡ Err e
stopped {A = A} f law p xs q e on is some h =
    let step : (many f).read q ≡ Err e = many-read f law q is some ∙ ap (λ (r : Result (A × Place) ShapeFault). r >>= (λ x. (many f).read x.1 >>= (λ ys. Ok (x.0 ∷ ys)))) h in
    on ∙ ap (λ (r : Result (List A) ShapeFault). r >>= (λ ys. Ok (xs ++ ys))) step

pub fewer-left : {A : Type 0} (f : Front A) → IsMoving f → (q t : Place) (x : A) → IsPlace q → f.read q ≡ Ok (x, t) → length t.left < length q.left
fewer-left f law q t x is e = law.fewer x q t is e
