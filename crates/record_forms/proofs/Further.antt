-- Lists that are read one value after another.
use Rattle.std.proofs.Common.{◌≡◌, ℕ, suc, ◌+◌, ◌-◌, ◌<◌, List, [], ◌∷◌, ◌++◌, Option, Some, None, refl, sym, ap, ◌∙◌, append_assoc, append-nil, arith}
use Rattle.std.specs.Prelude.{Err}
use Rattle.record_forms.specs.declared.fault.ReadFault.{ReadFault}
use Rattle.record_forms.specs.declared.fault.ReadFault.TheVariants.{Bad, Memory}
use Rattle.record_forms.specs.Outcome.{Gives}
use Rattle.record_forms.specs.Forms.{◌>>=◌, so_many}
use Rattle.record_forms.specs.laws.ByteLaws.{some-of}

-- Some values, and behind them those that are read from there on.
abbrev pub behind : {A : Type 0} → List A → Option (List A × List ℕ) → Option (List A × List ℕ)
behind xs r = r >>= (λ ys. Some (xs ++ ys.0, ys.1))

-- So many values were read so far, up to these bytes.
pub ReadsFurther : {A : Type 0} → (List ℕ → Option (A × List ℕ)) → List ℕ → List A → ℕ → List ℕ → Type 0
ReadsFurther read start xs count left = (n : ℕ) → so_many read (n + count) start ≡ behind xs (so_many read n left)

behind-none : {A : Type 0} (r : Option (List A × List ℕ)) → r ≡ behind [] r
behind-none (Some ys) = refl
behind-none None = refl

pub at-first : {A : Type 0} (read : List ℕ → Option (A × List ℕ)) (start : List ℕ) → ReadsFurther read start [] 0 start
unfolding ReadsFurther
at-first read start n =
    let e : n + 0 ≡ n = omega arith in
    ap (λ (m : ℕ). so_many read m start) e ∙ behind-none (so_many read n start)

one : {A : Type 0} (read : List ℕ → Option (A × List ℕ)) (n : ℕ) (left : List ℕ)
    → so_many read (suc n) left ≡ (read left >>= (λ x. so_many read n x.1 >>= (λ xs. Some (x.0 ∷ xs.0, xs.1))))
unfolding so_many
one read n left = refl

behind-one : {A : Type 0} (xs : List A) (x : A) (r : Option (List A × List ℕ))
    → behind xs (r >>= (λ ys. Some (x ∷ ys.0, ys.1))) ≡ behind (xs ++ x ∷ []) r
behind-one xs x (Some ys) = ap (λ (l : List _). some-of (l, ys.1)) (sym (append_assoc xs (x ∷ []) ys.0))
behind-one xs x None = refl

pub one-more : {A : Type 0} (read : List ℕ → Option (A × List ℕ)) (start : List ℕ) (xs : List A) (count : ℕ) (left rest : List ℕ) (x : A)
    → ReadsFurther read start xs count left → read left ≡ Some (x, rest) → ReadsFurther read start (xs ++ x ∷ []) (count + 1) rest
unfolding ReadsFurther
one-more read start xs count left rest x so_far next n =
    let e : n + (count + 1) ≡ suc n + count = omega arith in
    ap (λ (m : ℕ). so_many read m start) e ∙ so_far (suc n) ∙ ap (behind xs) (one read n left)
    ∙ ap (λ (r : Option (_ × List ℕ)). behind xs (r >>= (λ x. so_many read n x.1 >>= (λ xs. Some (x.0 ∷ xs.0, xs.1))))) next
    ∙ behind-one xs x (so_many read n rest)

pub at-last : {A : Type 0} (read : List ℕ → Option (A × List ℕ)) (start : List ℕ) (xs : List A) (count : ℕ) (left : List ℕ)
    → ReadsFurther read start xs count left → so_many read count start ≡ Some (xs, left)
unfolding ReadsFurther so_many
at-last read start xs count left so_far =
    let e : count ≡ 0 + count = omega arith in
    ap (λ (m : ℕ). so_many read m start) e ∙ so_far 0 ∙ ap (λ (l : List _). some-of (l, left)) (append-nil xs)

pub stopped : {A : Type 0} (read : List ℕ → Option (A × List ℕ)) (start : List ℕ) (xs : List A) (count total : ℕ) (left : List ℕ)
    → ReadsFurther read start xs count left → count < total → read left ≡ None → so_many read total start ≡ None
unfolding ReadsFurther
stopped read start xs count total left so_far more none =
    let n : ℕ = total - count - 1 in
    let e : total ≡ suc n + count = omega arith in
    ap (λ (m : ℕ). so_many read m start) e ∙ so_far (suc n) ∙ ap (behind xs) (one read n left)
    ∙ ap (λ (r : Option (_ × List ℕ)). behind xs (r >>= (λ x. so_many read n x.1 >>= (λ xs. Some (x.0 ∷ xs.0, xs.1))))) none

-- The same of what a call answers.
pub stopped-by : {A : Type 0} (read : List ℕ → Option (A × List ℕ)) (start : List ℕ) (xs : List A) (count total : ℕ) (left : List ℕ)
    (e : ReadFault) → ReadsFurther read start xs count left → count < total
    → Gives {X = A × List ℕ} (λ x. x) (Err e) (read left) → Gives {X = List A × List ℕ} (λ x. x) (Err e) (so_many read total start)
stopped-by read start xs count total left Bad so_far more none = stopped read start xs count total left so_far more none
stopped-by read start xs count total left Memory so_far more none = tt
