-- What the reading of a whole object comes to.
use Rattle.std.proofs.Common.{◌≡◌, ℕ, suc, ◌+◌, ◌<◌, ◌≤◌, ◌^◌, List, [], ◌∷◌, ◌++◌, length, take, Result, Ok, Err, refl, sym, ap, subst, ◌∙◌, append_assoc, arith, ◌⊎◌, inl, inr}
use Rattle.std.proofs.lemmas.Bool.{cases_lt, lt-ltb, le-ltb}
use Rattle.std.proofs.lemmas.List.{length-append, take_at}
use Rattle.der.specs.Grammar.{AreBytes}
use Rattle.der.specs.declared.shape_fault.ShapeFault.{ShapeFault}
use Rattle.der.specs.declared.shape_fault.ShapeFault.TheVariants.{Shape, Memory}
use Rattle.der.specs.Part.{start, IsInput}
use Rattle.der.specs.Form.{Whole, Takes, Dies, IsTold, IsWhole}
use Rattle.der.specs.Object.{Spells, read_object, IsTruePlace, IsTrueFault}
use Rattle.std.specs.Prelude.{IfOk, IfErr}
use Rattle.der.specs.Outcome.{GivesUnlessMemory, UnlessMemory}
use Rattle.der.specs.laws.PlaceLaws.{start-place}
use Rattle.der.specs.laws.FormLaws.{not-both, same-ok, same-err}

short-read : {A : Type 0} (f : Whole A) (bytes : List ℕ) → length bytes < 2 ^ 32 → read_object f bytes ≡ f.read (start bytes)
short-read f bytes short = rw (lt-ltb (length bytes) (2 ^ 32) short) refl

long-read : {A : Type 0} (f : Whole A) (bytes : List ℕ) → 2 ^ 32 ≤ length bytes → read_object f bytes ≡ Err (Shape (length bytes))
long-read f bytes long = rw (le-ltb (length bytes) (2 ^ 32) long) refl

-- What is read is spelled so.
pub object-taken : {A : Type 0} (f : Whole A) → IsWhole f → (x : A) (bytes : List ℕ) → AreBytes bytes → read_object f bytes ≡ Ok x → Spells f x bytes
object-taken f law x bytes fits e =
    elim (cases_lt (length bytes) (2 ^ 32)) [
      | inl short ↦
          let t = law.taken x (start bytes) (start-place bytes (record { bytes = fits; short = short })) (sym (short-read f bytes short) ∙ e) in
          record { good = t.0; short = short; spelled = t.1 }
      | inr long ↦ absurd (not-both _ x (Shape (length bytes)) e (long-read f bytes long))
    ]

-- What is spelled so is read.
pub object-again : {A : Type 0} (f : Whole A) → IsWhole f → (x : A) (bytes : List ℕ) → AreBytes bytes → Spells f x bytes → read_object f bytes ≡ Ok x
object-again f law x bytes fits is =
    short-read f bytes is.short ∙ law.again x (start bytes) is.good (start-place bytes (record { bytes = fits; short = is.short })) is.spelled

at-the-end : {A : Type 0} (f : Whole A) (bytes : List ℕ) → IsTruePlace f bytes (length bytes)
at-the-end f bytes = record { within = omega arith; none = λ below value other rest fits begun is. omega arith }

true-place : {A : Type 0} (f : Whole A) (bytes : List ℕ) (at : ℕ) → (at ≡ length bytes) ⊎ Dies (Takes f) (start bytes) at → IsTruePlace f bytes at
true-place f bytes at (inl last) = subst (IsTruePlace f bytes) (sym last) (at-the-end f bytes)
true-place f bytes at (inr dies) =
    let count : length bytes ≡ length dies.front + suc (length dies.more) = ap length dies.parts ∙ length-append dies.front (dies.byte ∷ dies.more) in
    record {
      within = omega (arith, dies.place);
      none = λ below value other rest fits begun is.
          let grouped : bytes ≡ (dies.front ++ (dies.byte ∷ [])) ++ dies.more = dies.parts ∙ sym (append_assoc dies.front (dies.byte ∷ []) dies.more) in
          let front : take (at + 1) bytes ≡ dies.front ++ (dies.byte ∷ []) = ap (take (at + 1)) grouped ∙ take_at (dies.front ++ (dies.byte ∷ [])) dies.more (at + 1) (omega (arith, dies.place, length-append dies.front (dies.byte ∷ []))) in
          let whole : other ≡ dies.front ++ (dies.byte ∷ rest) = begun ∙ ap (λ (l : List ℕ). l ++ rest) front ∙ append_assoc dies.front (dies.byte ∷ []) rest in
          let input : IsInput other = record { bytes = fits; short = is.short } in
          dies.dead rest (subst IsInput whole input) (record { value = value; good = is.good; spelled = sym whole ∙ is.spelled });
    }

true-told : {A : Type 0} (f : Whole A) (bytes : List ℕ) (e : ShapeFault) → IsTold (Takes f) (start bytes) e → IsTrueFault f bytes e
true-told f bytes (Shape at) told = true-place f bytes at told
true-told f bytes Memory told = absurd told

pub object-fault : {A : Type 0} (f : Whole A) → IsWhole f → (e : ShapeFault) (bytes : List ℕ) → AreBytes bytes → read_object f bytes ≡ Err e → IsTrueFault f bytes e
object-fault {A = A} f law e bytes fits h =
    elim (cases_lt (length bytes) (2 ^ 32)) [
      | inl short ↦ true-told f bytes e (law.fault e (start bytes) (start-place bytes (record { bytes = fits; short = short })) (sym (short-read f bytes short) ∙ h))
      | inr long ↦ subst (IsTrueFault f bytes) (same-err {A = A} (Shape (length bytes)) e (sym (long-read f bytes long) ∙ h)) (at-the-end f bytes)
    ]

another : (at : ℕ) → Shape at ≡ Memory → ⊥
another at e = cc

-- What an answer that is the reading's says.
pub found_from : {X A : Type 0} (view : X → A) (f : Whole A) → IsWhole f → (bytes : List ℕ) → AreBytes bytes → (result : Result X ShapeFault) → GivesUnlessMemory view result (read_object f bytes) → IfOk result (λ x. Spells f (view x) bytes)
found_from view f law bytes fits (Ok x) gives = object-taken f law (view x) bytes fits gives
found_from view f law bytes fits (Err e) gives = tt

pub only_from : {X A : Type 0} (view : X → A) (f : Whole A) → IsWhole f → (bytes : List ℕ) → AreBytes bytes → (result : Result X ShapeFault) → GivesUnlessMemory view result (read_object f bytes) → (v : A) → Spells f v bytes → UnlessMemory (λ x. view x ≡ v) result
only_from view f law bytes fits (Ok x) gives v is = same-ok (view x) v (sym gives ∙ object-again f law v bytes fits is)
only_from view f law bytes fits (Err Memory) gives v is = refl
only_from view f law bytes fits (Err (Shape at)) gives v is = absurd (not-both _ v (Shape at) (object-again f law v bytes fits is) (gives (λ e. another at e)))

pub fault_from : {X A : Type 0} (view : X → A) (f : Whole A) → IsWhole f → (bytes : List ℕ) → AreBytes bytes → (result : Result X ShapeFault) → GivesUnlessMemory view result (read_object f bytes) → IfErr result (IsTrueFault f bytes)
fault_from view f law bytes fits (Ok x) gives = tt
fault_from view f law bytes fits (Err Memory) gives = tt
fault_from view f law bytes fits (Err (Shape at)) gives = object-fault f law (Shape at) bytes fits (gives (λ e. another at e))
