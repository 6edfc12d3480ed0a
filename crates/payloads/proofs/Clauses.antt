-- The clauses of a body's reading, out of its answer: the same for every body.
use Rattle.std.proofs.Common.{◌≡◌, ◌≢◌, ℕ, Bool, true, false, Option, List, Result, Ok, Err, IfOk, IfErr, refl, sym, ◌∙◌}
use Rattle.der.specs.Grammar.{AreBytes}
use Rattle.der.specs.Form.{Whole}
use Rattle.der.specs.Object.{Spells, read_object}
use Rattle.payloads.specs.declared.fault.BodyFault.{BodyFault}
use Rattle.payloads.specs.declared.fault.BodyFault.TheVariants.{Shape, Order, Memory}
use Rattle.payloads.specs.Outcome.{ordered, GivesBody, UnlessNoMemory, IsOrderOrMemory, IsTrueBodyFault}
use Rattle.payloads.specs.laws.AnswerLaws.{IsOrdering, body-taken, body-again, body-unordered, body-shape, body-disorder}

-- The ordered format beside the one without regard to order.
pub record IsOrderedForm {A : Type 0} (f h : Whole A) (test : A → Bool) : Type 0 where
  pub same : (v : A) → h.spelling v ≡ f.spelling v
  pub into : (v : A) → h.good v → f.good v × (test v ≡ true)
  pub back : (v : A) → f.good v → test v ≡ true → h.good v

shape-is : (at : ℕ) → Shape at ≢ Memory
shape-is at e = cc

order-is : (at : ℕ) → Order at ≢ Memory
order-is at e = cc

same-value : {A : Type 0} (x y : A) (r : Result A BodyFault) → r ≡ Ok x → r ≡ Ok y → x ≡ y
same-value {A = A} x y r a b = values (sym a ∙ b)
  where
    values : ◌≡◌ {A = Result A BodyFault} (Ok x) (Ok y) → x ≡ y
    values e = cc

no-both : {A : Type 0} (x : A) (e : BodyFault) (r : Result A BodyFault) → r ≡ Ok x → r ≡ Err e → ⊥
no-both {A = A} x e r a b = apart (sym a ∙ b)
  where
    apart : ◌≡◌ {A = Result A BodyFault} (Ok x) (Err e) → ⊥
    apart h = cc

same-fault : {A : Type 0} (d e : BodyFault) (r : Result A BodyFault) → r ≡ Err d → r ≡ Err e → d ≡ e
same-fault {A = A} d e r a b = faults (sym a ∙ b)
  where
    faults : ◌≡◌ {A = Result A BodyFault} (Err d) (Err e) → d ≡ e
    faults h = cc

pub found-from : {X A B : Type 0} (view : X → A) (f h : Whole A) (g : Whole B) (see : B → A) (place : B → Option ℕ) (test : A → Bool) → IsOrdering f g see place test → IsOrderedForm f h test → (bytes : List ℕ) → AreBytes bytes → (result : Result X BodyFault) → GivesBody view result (ordered see place (read_object g bytes)) → IfOk result (λ x. Spells h (view x) bytes)
found-from view f h g see place test is form bytes fits (Ok x) gives =
    let t = body-taken f g see place test is bytes fits (view x) gives in
    record { good = form.back (view x) t.0.good t.1; short = t.0.short; spelled = t.0.spelled ∙ sym (form.same (view x)) }
found-from view f h g see place test is form bytes fits (Err e) gives = tt

unordered-spells : {A : Type 0} (f h : Whole A) (test : A → Bool) → IsOrderedForm f h test → (bytes : List ℕ) (v : A) → Spells h v bytes → Spells f v bytes
unordered-spells f h test form bytes v spells = record { good = (form.into v spells.good).0; short = spells.short; spelled = spells.spelled ∙ form.same v }

pub only-from : {X A B : Type 0} (view : X → A) (f h : Whole A) (g : Whole B) (see : B → A) (place : B → Option ℕ) (test : A → Bool) → IsOrdering f g see place test → IsOrderedForm f h test → (bytes : List ℕ) → AreBytes bytes → (result : Result X BodyFault) → GivesBody view result (ordered see place (read_object g bytes)) → (v : A) → Spells h v bytes → UnlessNoMemory (λ x. view x ≡ v) result
only-from {X = X} {A = A} {B = B} view f h g see place test is form bytes fits result gives v spells =
    go result gives (body-again f g see place test is bytes fits v (unordered-spells f h test form bytes v spells) (form.into v spells.good).1)
  where
    go : (result : Result X BodyFault) → GivesBody view result (ordered see place (read_object g bytes)) → ordered see place (read_object g bytes) ≡ Ok v → UnlessNoMemory (λ x. view x ≡ v) result
    go (Ok x) gives again = same-value (view x) v (ordered see place (read_object g bytes)) gives again
    go (Err Memory) gives again = refl
    go (Err (Shape at)) gives again = absurd (no-both v (Shape at) (ordered see place (read_object g bytes)) again (gives (shape-is at)))
    go (Err (Order at)) gives again = absurd (no-both v (Order at) (ordered see place (read_object g bytes)) again (gives (order-is at)))

pub order-from : {X A B : Type 0} (view : X → A) (f : Whole A) (g : Whole B) (see : B → A) (place : B → Option ℕ) (test : A → Bool) → IsOrdering f g see place test → (bytes : List ℕ) → AreBytes bytes → (result : Result X BodyFault) → GivesBody view result (ordered see place (read_object g bytes)) → (v : A) → Spells f v bytes → test v ≡ false → IsOrderOrMemory result
order-from {X = X} {A = A} {B = B} view f g see place test is bytes fits result gives v spells down =
    let u = body-unordered f g see place test is bytes fits v spells down in
    go u.0 result gives u.1
  where
    differ : (at n : ℕ) → Shape at ≡ Order n → ⊥
    differ at n e = cc

    go : (n : ℕ) (result : Result X BodyFault) → GivesBody view result (ordered see place (read_object g bytes)) → ordered see place (read_object g bytes) ≡ Err (Order n) → IsOrderOrMemory result
    go n (Ok x) gives u = no-both (view x) (Order n) (ordered see place (read_object g bytes)) gives u
    go n (Err (Shape at)) gives u = differ at n (same-fault (Shape at) (Order n) (ordered see place (read_object g bytes)) (gives (shape-is at)) u)
    go n (Err (Order at)) gives u = tt
    go n (Err Memory) gives u = tt

pub fault-from : {X A B : Type 0} (view : X → A) (f : Whole A) (g : Whole B) (see : B → A) (place : B → Option ℕ) (test : A → Bool) → IsOrdering f g see place test → (bytes : List ℕ) → AreBytes bytes → (result : Result X BodyFault) → GivesBody view result (ordered see place (read_object g bytes)) → IfErr result (IsTrueBodyFault f test bytes)
fault-from view f g see place test is bytes fits (Ok x) gives = tt
fault-from view f g see place test is bytes fits (Err Memory) gives = tt
fault-from view f g see place test is bytes fits (Err (Shape at)) gives =
    let s = body-shape f g see place test is bytes fits at (gives (shape-is at)) in
    (s.0, λ d. s.1 d.value d.spelled)
fault-from view f g see place test is bytes fits (Err (Order at)) gives =
    let d = body-disorder f g see place test is bytes fits at (gives (order-is at)) in
    record { value = d.0; spelled = d.1; unordered = d.2 }
