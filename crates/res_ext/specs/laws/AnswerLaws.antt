-- What is read of a SEQUENCE that is all the bytes is spelled so, and what is spelled so is read.
use Rattle.std.proofs.Common.{◌≡◌, ℕ, ◌<◌, ◌^◌, Bool, true, false, eqb, Option, Some, None, List, [], ◌∷◌, ◌++◌, length, Result, Ok, Err, refl, sym, ap, subst, ◌∙◌, arith}
use Rattle.std.proofs.lemmas.Bool.{eqb-true}
use Rattle.std.proofs.lemmas.List.{append-nil}
use Rattle.std.specs.Prelude.{IfOk, SomeIff}
use Rattle.der.specs.Grammar.{AreBytes}
use Rattle.der.specs.Spelling.{spelled}
use Rattle.der.specs.Reading.{element_at}
use Rattle.der.specs.laws.ElementLaws.{element-taken, element-again}
use Rattle.der.specs.laws.ContentLaws.{part-fits}
use Rattle.der.specs.declared.fault.DerFault.{DerFault}
use Rattle.der.specs.declared.shape_fault.ShapeFault.{ShapeFault}
use Rattle.der.specs.Part.{Place, IsInput, IsPlace, start, is_empty}
use Rattle.der.specs.laws.PlaceLaws.{start-place}
use Rattle.der.specs.Form.{Whole, IsWhole}
use Rattle.res_ext.specs.declared.fault.ExtFault.{ExtFault}
use Rattle.res_ext.specs.declared.fault.ExtFault.TheVariants.{NotCanonical, Family as BadFamily}
use Rattle.res_ext.specs.Extensions.{SpellsIn}
use Rattle.res_ext.specs.Answers.{IsUnlessMemory, only_content, content_in, told, told_in, answer, never}

-- ---- the content of the SEQUENCE

-- The bytes are a SEQUENCE of what lies at that place.
pub record IsContent (bytes : List ℕ) (p : Place) : Type 0 where
  pub whole : bytes ≡ spelled 48 p.left
  pub input : IsInput p.left
  pub place : IsPlace p

only-some : (r : Result (List ℕ × List ℕ) DerFault) (p : Place) → only_content r ≡ Some p
    → (c : List ℕ) × (r ≡ Ok (c, [])) × (start c ≡ p)
only-some (Ok (c, [])) p e = (c, refl, cc)
only-some (Ok (c, b ∷ rest)) p e = absurd cc
only-some (Err d) p e = absurd cc

behind-nothing : (bytes content : List ℕ) → bytes ≡ spelled 48 content
    → bytes ≡ spelled 48 content ++ []
behind-nothing bytes content e = e ∙ sym (append-nil (spelled 48 content))

pub content-input : (bytes content : List ℕ) → AreBytes bytes → bytes ≡ spelled 48 content
    → length content < 2 ^ 32 → IsInput content
content-input bytes content fits e short = record {
  bytes = part-fits 48 bytes content [] fits (behind-nothing bytes content e);
  short = short;
}

pub content-taken : (bytes : List ℕ) (p : Place) → AreBytes bytes → content_in bytes ≡ Some p
    → IsContent bytes p
content-taken bytes p fits e =
    let a = only-some (element_at 0 48 bytes) p e in
    let t = element-taken 0 48 bytes (a.0, []) fits a.1 in
    let whole : bytes ≡ spelled 48 a.0 = t.0 ∙ append-nil (spelled 48 a.0) in
    let input : IsInput a.0 = content-input bytes a.0 fits whole t.1 in
    subst (IsContent bytes) a.2
    (record { whole = whole; input = input; place = start-place a.0 input })

pub content-again : (bytes content : List ℕ) → bytes ≡ spelled 48 content → length content < 2 ^ 32
    → content_in bytes ≡ Some (start content)
content-again bytes content e short =
    rw (behind-nothing bytes content e, element-again 0 48 content [] short) refl

empty-told : (rest : List ℕ) → eqb (length rest) 0 ≡ true → is_empty rest ≡ true
empty-told [] e = refl
empty-told (b ∷ rest) e = absurd (omega (arith, eqb-true (length (b ∷ rest)) 0 e))

-- What is opened is the content, which is short.
pub content-told : (bytes content rest : List ℕ) (o : Option Place) → AreBytes bytes
    → element_at 0 48 bytes ≡ Ok (content, rest) → eqb (length rest) 0 ≡ true
    → SomeIff o (length content < 2 ^ 32) (start content) → o ≡ content_in bytes
content-told bytes content rest None fits read empty met =
    absurd (met (element-taken 0 48 bytes (content, rest) fits read).1)
content-told bytes content rest (Some p) fits read empty met =
    rw (read, empty-told rest empty) (ap (λ (q : Place). Some q) met.1)

-- ---- the answer

told-ok : {A : Type 0} (wrong : Bool) (r : Result A ShapeFault) (v : A) → told wrong r ≡ Ok v
    → r ≡ Ok v
told-ok wrong (Ok x) v e = cc
told-ok true (Err d) v e = absurd cc
told-ok false (Err d) v e = absurd cc

told-wrong : {A : Type 0} (wrong : Bool) (r : Result A ShapeFault) → told wrong r ≡ Err BadFamily
    → wrong ≡ true
told-wrong wrong (Ok x) e = absurd cc
told-wrong true (Err d) e = refl
told-wrong false (Err d) e = absurd cc

in-ok : {A : Type 0} (f : Whole A) (wrong : Place → Bool) (o : Option Place) (v : A)
    → told_in f wrong o ≡ Ok v → (p : Place) × (o ≡ Some p) × (f.read p ≡ Ok v)
in-ok f wrong None v e = absurd cc
in-ok f wrong (Some p) v e = (p, refl, told-ok (wrong p) (f.read p) v e)

in-wrong : {A : Type 0} (f : Whole A) (wrong : Place → Bool) (o : Option Place)
    → told_in f wrong o ≡ Err BadFamily → (p : Place) × (o ≡ Some p) × (wrong p ≡ true)
in-wrong f wrong None e = absurd cc
in-wrong f wrong (Some p) e = (p, refl, told-wrong (wrong p) (f.read p) e)

pub answer-taken : {A : Type 0} (f : Whole A) (wrong : Place → Bool) → IsWhole f
    → (bytes : List ℕ) (v : A) → AreBytes bytes → answer f wrong bytes ≡ Ok v → SpellsIn f v bytes
answer-taken f wrong law bytes v fits e =
    let a = in-ok f wrong (content_in bytes) v e in
    let c = content-taken bytes a.0 fits a.1 in
    let t = law.taken v a.0 c.place a.2 in
    record {
      good = t.0;
      short = subst (λ (l : List ℕ). length l < 2 ^ 32) t.1 c.input.short;
      spelled = c.whole ∙ ap (spelled 48) t.1;
    }

-- A bad family is told where the content goes wrong.
pub answer-bad : {A : Type 0} (f : Whole A) (wrong : Place → Bool) (bytes : List ℕ) → AreBytes bytes
    → answer f wrong bytes ≡ Err BadFamily → (p : Place) × IsContent bytes p × (wrong p ≡ true)
answer-bad f wrong bytes fits e =
    let a = in-wrong f wrong (content_in bytes) e in
    (a.0, content-taken bytes a.0 fits a.1, a.2)

pub read-again : {A : Type 0} (f : Whole A) → IsWhole f → (bytes : List ℕ) (v : A) → AreBytes bytes
    → SpellsIn f v bytes → f.read (start (f.spelling v)) ≡ Ok v
read-again f law bytes v fits s =
    let input : IsInput (f.spelling v) = content-input bytes (f.spelling v) fits s.spelled s.short
    in
    law.again v (start (f.spelling v)) s.good (start-place (f.spelling v) input) refl

pub answer-again : {A : Type 0} (f : Whole A) (wrong : Place → Bool) → IsWhole f
    → (bytes : List ℕ) (v : A) → AreBytes bytes → SpellsIn f v bytes → answer f wrong bytes ≡ Ok v
answer-again f wrong law bytes v fits s =
    rw (content-again bytes (f.spelling v) s.spelled s.short, read-again f law bytes v fits s)
    refl

abbrev answered : {A : Type 0} → A → Result A ExtFault
answered x = Ok x

-- Bytes have one value.
pub one-value : {A : Type 0} (f : Whole A) → IsWhole f → (a b : A) (bytes : List ℕ) → AreBytes bytes
    → SpellsIn f a bytes → SpellsIn f b bytes → a ≡ b
one-value f law a b bytes fits one other =
    same a b (sym (answer-again f (λ p. false) law bytes a fits one)
    ∙ answer-again f (λ p. false) law bytes b fits other)
  where
    same : {A : Type 0} (x y : A) → answered x ≡ answered y → x ≡ y
    same x y e = cc

-- What goes wrong, if it isn't read all the same.
pub answer-wrong : {A : Type 0} (f : Whole A) (wrong : Place → Bool) → IsWhole f
    → (bytes content : List ℕ) → AreBytes bytes → bytes ≡ spelled 48 content
    → length content < 2 ^ 32 → wrong (start content) ≡ true → ((v : A) → SpellsIn f v bytes → ⊥)
    → answer f wrong bytes ≡ Err BadFamily
answer-wrong {A = A} f wrong law bytes content fits e short is none =
    rw (content-again bytes content e short, is) (refused (f.read (start content)) refl)
  where
    read : (v : A) → f.read (start content) ≡ Ok v → answer f wrong bytes ≡ Ok v
    read v e' = rw (content-again bytes content e short, e') refl

    refused : (r : Result A ShapeFault) → f.read (start content) ≡ r → told true r ≡ Err BadFamily
    refused (Ok v) e' = absurd (none v (answer-taken f wrong law bytes v fits (read v e')))
    refused (Err d) e' = refl

-- Of the three answers one is given.
pub answer-else : {A : Type 0} (f : Whole A) (wrong : Place → Bool) (bytes : List ℕ)
    → ((v : A) → answer f wrong bytes ≡ Ok v → ⊥) → (answer f wrong bytes ≡ Err BadFamily → ⊥)
    → answer f wrong bytes ≡ Err NotCanonical
answer-else {A = A} f wrong bytes read bad = in-cases (content_in bytes) read bad
  where
    cases : (b : Bool) (r : Result A ShapeFault) → ((v : A) → told b r ≡ Ok v → ⊥)
        → (told b r ≡ Err BadFamily → ⊥) → told b r ≡ Err NotCanonical
    cases b (Ok x) read bad = absurd (read x refl)
    cases true (Err d) read bad = absurd (bad refl)
    cases false (Err d) read bad = refl

    in-cases : (o : Option Place) → ((v : A) → told_in f wrong o ≡ Ok v → ⊥)
        → (told_in f wrong o ≡ Err BadFamily → ⊥) → told_in f wrong o ≡ Err NotCanonical
    in-cases None read bad = refl
    in-cases (Some p) read bad = cases (wrong p) (f.read p) read bad

-- ---- a call that gives it

pub met-found : {X A : Type 0} (f : Whole A) (wrong : Place → Bool) (view : X → A) → IsWhole f
    → (bytes : List ℕ) (r : Result X ExtFault) → AreBytes bytes
    → IsUnlessMemory view r (answer f wrong bytes) → IfOk r (λ x. SpellsIn f (view x) bytes)
met-found f wrong view law bytes (Ok x) fits met = answer-taken f wrong law bytes (view x) fits
    (sym met)
met-found f wrong view law bytes (Err e) fits met = tt

pub met-only : {X A : Type 0} (f : Whole A) (wrong : Place → Bool) (view : X → A) → IsWhole f
    → (bytes : List ℕ) (r : Result X ExtFault) → AreBytes bytes
    → IsUnlessMemory view r (answer f wrong bytes) → (v : A) → SpellsIn f v bytes
    → IsUnlessMemory view r (Ok v)
met-only f wrong view law bytes r fits met v s =
    subst (IsUnlessMemory view r) (answer-again f wrong law bytes v fits s) met

-- What a call answers that ran out of no memory.
pub met-refused : {X Y : Type 0} (view : X → Y) (r : Result X ExtFault) (a : Result Y ExtFault)
    → IsUnlessMemory view r a → r ≡ Err NotCanonical → a ≡ Err NotCanonical
met-refused {X = X} view r a met e =
    sym (subst (λ (s : Result X ExtFault). IsUnlessMemory view s a) e met)

pub met-bad : {X Y : Type 0} (view : X → Y) (r : Result X ExtFault) (a : Result Y ExtFault)
    → IsUnlessMemory view r a → r ≡ Err BadFamily → a ≡ Err BadFamily
met-bad {X = X} view r a met e =
    sym (subst (λ (s : Result X ExtFault). IsUnlessMemory view s a) e met)

apart-ok : {A : Type 0} (v : A) (e : ExtFault) → answered v ≡ Err e → ⊥
apart-ok v e h = absurd cc

pub refused-spells : {A : Type 0} (f : Whole A) (wrong : Place → Bool) → IsWhole f
    → (bytes : List ℕ) (e : ExtFault) → AreBytes bytes → answer f wrong bytes ≡ Err e → (v : A)
    → SpellsIn f v bytes → ⊥
refused-spells f wrong law bytes e fits h v s =
    apart-ok v e (sym (answer-again f wrong law bytes v fits s) ∙ h)

-- Where nothing goes wrong, no family does.
pub never-bad : {A : Type 0} (f : Whole A) (bytes : List ℕ) → answer f never bytes ≡ Err BadFamily
    → ⊥
never-bad f bytes e =
    let a = in-wrong f never (content_in bytes) e in
    not-true a.2
  where
    not-true : false ≡ true → ⊥
    not-true e = cc

pub else-refused : {X A : Type 0} (f : Whole A) (wrong : Place → Bool) (view : X → A) → IsWhole f
    → (bytes : List ℕ) (r : Result X ExtFault) → AreBytes bytes
    → IsUnlessMemory view r (answer f wrong bytes) → ((v : A) → SpellsIn f v bytes → ⊥)
    → (answer f wrong bytes ≡ Err BadFamily → ⊥) → IsUnlessMemory view r (Err NotCanonical)
else-refused f wrong view law bytes r fits met none right =
    subst (IsUnlessMemory view r)
    (answer-else f wrong bytes (λ v e. none v (answer-taken f wrong law bytes v fits e))
    right) met
