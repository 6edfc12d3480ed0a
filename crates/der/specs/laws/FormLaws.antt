-- The laws of formats, one for each way of putting them together.
use Rattle.std.proofs.Common.{◌≡◌, ℕ, suc, ◌+◌, ◌<◌, ◌^◌, true, false, cond, not, eqb, Option, Some, None, List, [], ◌∷◌, ◌++◌, length, Result, Ok, Err, refl, sym, ap, subst, ◌∙◌, append_assoc, arith, ◌⊎◌, inl, inr}
use Rattle.std.proofs.lemmas.Bool.{cases_Bool, eqb-false, eq-eqb, not-true}
use Rattle.std.proofs.lemmas.List.{length-append}
use Rattle.der.specs.Spelling.{spelled, length_bytes}
use Rattle.der.specs.Reading.{element_at}
use Rattle.der.specs.laws.ElementLaws.{element-again, element-taken, one_element, longer}
use Rattle.der.specs.laws.LengthLaws.{one_length}
use Rattle.der.specs.declared.fault.DerFault.{DerFault}
use Rattle.der.specs.declared.shape_fault.ShapeFault.{ShapeFault}
use Rattle.der.specs.declared.shape_fault.ShapeFault.TheVariants.{Shape, Memory}
use Rattle.der.specs.Part.{Place, IsInput, IsPlace, start, ◌>>=◌, inside, behind, opened, is_other, open_at, ended, end_at}
use Rattle.der.specs.Form.{Whole, Front, Takes, Begins, IsTold, IsWhole, IsBehind, IsFront}
use Rattle.der.specs.Forms.{ends, content, there_or, leaf, within}
use Rattle.der.specs.laws.PlaceLaws.{rest-input, content-input, start-place, same-place, next, is-next, last-byte, within-front}

-- ---- steps

abbrev done : {A : Type 0} → A → Result A ShapeFault
done x = Ok x

abbrev failed : {A : Type 0} → ShapeFault → Result A ShapeFault
failed e = Err e

pub same-ok : {A : Type 0} (x y : A) → done x ≡ done y → x ≡ y
same-ok x y e = cc

pub same-err : {A : Type 0} (d e : ShapeFault) → failed {A = A} d ≡ failed {A = A} e → d ≡ e
same-err d e h = cc

pub not-both : {A : Type 0} (r : Result A ShapeFault) (x : A) (e : ShapeFault) → r ≡ Ok x → r ≡ Err e → ⊥
not-both r x e ok err = absurd cc

pub not-err : {A : Type 0} (x : A) (e : ShapeFault) → done x ≡ Err e → ⊥
not-err x e h = absurd cc

pub bind-ok : {A B : Type 0} (r : Result A ShapeFault) (f : A → Result B ShapeFault) (y : B) → (r >>= f) ≡ Ok y → (x : A) × (r ≡ Ok x) × (f x ≡ Ok y)
bind-ok (Ok x) f y e = (x, refl, e)
bind-ok (Err d) f y e = absurd cc

pub bind-err : {A B : Type 0} (r : Result A ShapeFault) (f : A → Result B ShapeFault) (e : ShapeFault) → (r >>= f) ≡ Err e → (r ≡ Err e) ⊎ ((x : A) × (r ≡ Ok x) × (f x ≡ Err e))
bind-err (Ok x) f e h = inr (x, refl, h)
bind-err {A = A} {B = B} (Err d) f e h = inl (ap (λ (x : ShapeFault). failed {A = A} x) (same-err {A = B} d e h))

-- ---- what is told

-- Fewer bytes are told as well.
pub told-fewer : {K L : List ℕ → Type 0} (p : Place) (e : ShapeFault) → ((bytes : List ℕ) → IsInput bytes → L bytes → K bytes) → IsTold K p e → IsTold L p e
told-fewer p (Shape at) fewer (inl last) = inl last
told-fewer p (Shape at) fewer (inr dies) = inr (record {
  front = dies.front;
  byte = dies.byte;
  more = dies.more;
  parts = dies.parts;
  place = dies.place;
  dead = λ other input l. dies.dead other input (fewer _ input l);
})
told-fewer p Memory fewer told = told

-- What is told behind a front is told before it.
pub told-behind : {K : List ℕ → Type 0} (L : List ℕ → Type 0) (front : List ℕ) (p q : Place) (e : ShapeFault) → IsBehind front p q → ((other : List ℕ) → IsInput (front ++ other) → L (front ++ other) → K other) → IsTold K q e → IsTold L p e
told-behind L front p q (Shape at) b fewer (inl last) = inl (last ∙ b.last)
told-behind L front p q (Shape at) b fewer (inr dies) = inr (record {
  front = front ++ dies.front;
  byte = dies.byte;
  more = dies.more;
  parts = b.left ∙ ap (λ (l : List ℕ). front ++ l) dies.parts ∙ sym (append_assoc front dies.front (dies.byte ∷ dies.more));
  place = omega (arith, dies.place, b.at, length-append front dies.front);
  dead = λ other input l.
      let regrouped : (front ++ dies.front) ++ (dies.byte ∷ other) ≡ front ++ (dies.front ++ (dies.byte ∷ other)) = append_assoc front dies.front (dies.byte ∷ other) in
      let whole : IsInput (front ++ (dies.front ++ (dies.byte ∷ other))) = subst IsInput regrouped input in
      dies.dead other (rest-input _ front _ whole refl) (fewer _ whole (subst L regrouped l));
})
told-behind L front p q Memory b fewer told = told

-- Bytes that go on as these do have the same first byte.
first-byte : (front : List ℕ) (byte : ℕ) (more other : List ℕ) → (b : ℕ) × (s : List ℕ) × (t : List ℕ) × (front ++ (byte ∷ more) ≡ b ∷ s) × (front ++ (byte ∷ other) ≡ b ∷ t)
first-byte [] byte more other = (byte, more, other, refl, refl)
first-byte (b ∷ front) byte more other = (b, front ++ (byte ∷ more), front ++ (byte ∷ other), refl, refl)

-- Fewer bytes are told as well, of those that have the same first byte.
pub told-first : {K : List ℕ → Type 0} (L : List ℕ → Type 0) (p : Place) (e : ShapeFault) → ((bytes : List ℕ) → IsInput bytes → (b : ℕ) (s t : List ℕ) → p.left ≡ b ∷ s → bytes ≡ b ∷ t → L bytes → K bytes) → IsTold K p e → IsTold L p e
told-first L p (Shape at) fewer (inl last) = inl last
told-first L p (Shape at) fewer (inr dies) = inr (record {
  front = dies.front;
  byte = dies.byte;
  more = dies.more;
  parts = dies.parts;
  place = dies.place;
  dead = λ other input l.
      let f = first-byte dies.front dies.byte dies.more other in
      dies.dead other input (fewer _ input f.0 f.1 f.2 (dies.parts ∙ f.3) f.4 l);
})
told-first L p Memory fewer told = told

-- No spelling of a front begins another.
pub one-front-value : {A : Type 0} (f : Front A) → IsFront f → (a b : A) (s t : List ℕ) → f.good a → f.good b → IsInput (f.spelling a ++ s) → f.spelling a ++ s ≡ f.spelling b ++ t → (a ≡ b) × (s ≡ t)
one-front-value {A = A} f law a b s t good-a good-b input e =
    let p : Place = start (f.spelling a ++ s) in
    let is : IsPlace p = start-place _ input in
    let one : f.read p ≡ Ok (a, next p (f.spelling a) s) = law.again a p (next p (f.spelling a) s) good-a is (is-next p (f.spelling a) s refl) in
    let other : f.read p ≡ Ok (b, next p (f.spelling b) t) = law.again b p (next p (f.spelling b) t) good-b is (is-next p (f.spelling b) t e) in
    let same : (a, next p (f.spelling a) s) ≡ (b, next p (f.spelling b) t) = same-ok {A = A × Place} _ _ (sym one ∙ other) in
    (ap (λ (x : A × Place). x.0) same, ap (λ (x : A × Place). x.1.left) same)

-- ---- nothing, and any bytes

pub not-nil : (b : ℕ) (bytes : List ℕ) → b ∷ bytes ≡ [] → ⊥
not-nil b bytes e = absurd cc

pub ends-law : IsWhole ends
unfolding end_at
ends-law = record {
  again = λ x p good is e. rw e refl;
  taken = λ x p is e. (tt, nothing p.at p.left x e);
  fault = λ e p is h. left-over p.left e p refl h;
}
  where
    nothing : (at : ℕ) (bytes : List ℕ) (x : Unit {0}) → ended at bytes ≡ Ok x → bytes ≡ []
    nothing at [] x e = refl
    nothing at (b ∷ bytes) x e = absurd cc

    left-over : (bytes : List ℕ) (e : ShapeFault) (p : Place) → p.left ≡ bytes → ended p.at bytes ≡ Err e → IsTold (Takes ends) p e
    left-over [] e p is h = absurd cc
    left-over (b ∷ bytes) e p is h = subst (IsTold (Takes ends) p) (same-err {A = Unit {0}} (Shape p.at) e h) (inr (record {
      front = [];
      byte = b;
      more = bytes;
      parts = is;
      place = omega arith;
      dead = λ other input t. absurd (not-nil b other t.spelled);
    }))

pub content-law : IsWhole content
content-law = record {
  again = λ x p good is e. ap (λ (l : List ℕ). done l) e;
  taken = λ x p is e. (tt, same-ok p.left x e);
  fault = λ e p is h. absurd cc;
}

-- ---- bytes that a function reads

pub record IsLeaf {A : Type 0} (good : A → Type 0) (spelling : A → List ℕ) (parse : List ℕ → Option A) : Type 0 where
  pub again : (x : A) → good x → IsInput (spelling x) → parse (spelling x) ≡ Some x
  pub taken : (x : A) (bytes : List ℕ) → IsInput bytes → parse bytes ≡ Some x → good x × (bytes ≡ spelling x)

pub there : {A : Type 0} (d : ShapeFault) (o : Option A) (x : A) → there_or d o ≡ Ok x → o ≡ Some x
there {A = A} d (Some y) x e = ap (λ (v : A). Some v) (same-ok y x e)
there d None x e = absurd cc

pub not-there : {A : Type 0} (d : ShapeFault) (o : Option A) (e : ShapeFault) → there_or d o ≡ Err e → d ≡ e
not-there d (Some y) e h = absurd cc
not-there {A = A} d None e h = same-err {A = A} d e h

pub leaf-law : {A : Type 0} (good : A → Type 0) (spelling : A → List ℕ) (parse : List ℕ → Option A) → IsLeaf good spelling parse → IsWhole (leaf good spelling parse)
leaf-law good spelling parse is-leaf = record {
  again = λ x p ok is e.
      let read : parse p.left ≡ Some x = ap parse e ∙ is-leaf.again x ok (subst IsInput e is.input) in
      ap (there_or (Shape p.last)) read;
  taken = λ x p is e. is-leaf.taken x p.left is.input (there (Shape p.last) (parse p.left) x e);
  fault = λ e p is h. subst (IsTold (Takes (leaf good spelling parse)) p) (not-there (Shape p.last) (parse p.left) e h) (inl refl);
}

-- ---- elements

pub own : (tag : ℕ) (c rest : List ℕ) → is_other tag (spelled tag c ++ rest) ≡ false
unfolding spelled
own tag c rest = let same : eqb tag tag ≡ true = eq-eqb tag tag refl in rw same refl

-- An element that stands in front is opened.
pub open-again : (tag : ℕ) (p q : Place) (c : List ℕ) → IsPlace p → IsBehind (spelled tag c) p q → open_at tag p ≡ Ok (inside p c q.left, q)
unfolding open_at
open-again tag p q c is b =
    let long = longer tag c in
    let total : length p.left ≡ length (spelled tag c) + length q.left = ap length b.left ∙ length-append (spelled tag c) q.left in
    let short = is.input.short in
    let small : length c < 2 ^ 32 = omega arith in
    let read : element_at p.at tag p.left ≡ Ok (c, q.left) = ap (element_at p.at tag) b.left ∙ element-again p.at tag c q.left small in
    let test : is_other tag p.left ≡ false = ap (is_other tag) b.left ∙ own tag c q.left in
    let same : behind p q.left ≡ q = same-place (behind p q.left) q (omega (arith, b.at)) refl (sym b.last) in
    rw (test, read) (ap (λ (r : Place). done (inside p c q.left, r)) same)

-- What is opened is an element in front.
pub record IsOpened (tag : ℕ) (p i q : Place) : Type 0 where
  pub content : List ℕ
  pub front : IsBehind (spelled tag content) p q
  pub left : i.left ≡ content
  pub place : IsPlace i
  pub at : i.at + length content ≡ p.at + length (spelled tag content)
  pub last : i.last + 1 ≡ p.at + length (spelled tag content)

abbrev two : Place → Place → Place × Place
two a b = (a, b)

opened-ok : (p : Place) (r : Result (List ℕ × List ℕ) DerFault) (i q : Place) → opened p r ≡ Ok (i, q) → (x : List ℕ × List ℕ) × (r ≡ Ok x) × (inside p x.0 x.1 ≡ i) × (behind p x.1 ≡ q)
opened-ok p (Ok x) i q e =
    let same : two (inside p x.0 x.1) (behind p x.1) ≡ two i q = same-ok {A = Place × Place} _ _ e in
    (x, refl, ap (λ (y : Place × Place). y.0) same, ap (λ (y : Place × Place). y.1) same)
opened-ok p (Err d) i q e = absurd cc

opened-err : (p : Place) (r : Result (List ℕ × List ℕ) DerFault) (e : ShapeFault) → opened p r ≡ Err e → Shape p.last ≡ e
opened-err p (Ok x) e h = absurd cc
opened-err p (Err d) e h = same-err {A = Place × Place} (Shape p.last) e h

other-cases : (tag : ℕ) (p : Place) (r : Result (Place × Place) ShapeFault) → ((is_other tag p.left ≡ true) × (cond (is_other tag p.left) (Err (Shape p.at)) r ≡ Err (Shape p.at))) ⊎ ((is_other tag p.left ≡ false) × (cond (is_other tag p.left) (Err (Shape p.at)) r ≡ r))
other-cases tag p r = elim (cases_Bool (is_other tag p.left)) [
  | inl ist ↦ inl (ist, rw ist refl)
  | inr isnt ↦ inr (isnt, rw isnt refl)
]

pub open-taken : (tag : ℕ) (p i q : Place) → IsPlace p → open_at tag p ≡ Ok (i, q) → IsOpened tag p i q
unfolding open_at
open-taken tag p i q is e =
    elim (other-cases tag p (opened p (element_at p.at tag p.left))) [
      | inl ist ↦ absurd (not-both {A = Place × Place} _ (i, q) (Shape p.at) e ist.1)
      | inr isnt ↦
          let o = opened-ok p (element_at p.at tag p.left) i q (sym isnt.1 ∙ e) in
          let t = element-taken p.at tag p.left o.0 is.input.bytes o.1 in
          let long = longer tag o.0.0 in
          let total : length p.left ≡ length (spelled tag o.0.0) + length o.0.1 = ap length t.0 ∙ length-append (spelled tag o.0.0) o.0.1 in
          let made : IsOpened tag p (inside p o.0.0 o.0.1) (behind p o.0.1) = record {
            content = o.0.0;
            front = record { left = t.0; at = omega arith; last = refl };
            left = refl;
            place = record { input = content-input p.left o.0.0 o.0.1 tag is.input t.0 t.1; ends = omega arith };
            at = omega arith;
            last = omega arith;
          } in
          subst (λ (y : Place × Place). IsOpened tag p y.0 y.1) (both-same _ _ _ _ o.2 o.3) made
    ]
  where
    both-same : (a b : Place) (c d : Place) → a ≡ b → c ≡ d → two a c ≡ two b d
    both-same a b c d e h = cc

heads-same : (b c : ℕ) (s t : List ℕ) → b ∷ s ≡ c ∷ t → b ≡ c
heads-same b c s t e = cc

different : {A : Type 0} (tag : ℕ) (f : Whole A) (b : ℕ) (more : List ℕ) → Begins (within tag f) (b ∷ more) → not (eqb b tag) ≡ true → ⊥
unfolding spelled
different tag f b more begun test = eqb-false b tag (not-true (eqb b tag) test) (heads-same b tag _ _ begun.spelled)

pub open-fault : {A : Type 0} (tag : ℕ) (f : Whole A) (p : Place) (e : ShapeFault) → open_at tag p ≡ Err e → IsTold (Begins (within tag f)) p e
unfolding open_at
open-fault tag f p e h =
    elim (other-cases tag p (opened p (element_at p.at tag p.left))) [
      | inl ist ↦ subst (IsTold (Begins (within tag f)) p) (same-err {A = Place × Place} (Shape p.at) e (sym ist.1 ∙ h)) (other p.left refl ist.0)
      | inr isnt ↦ subst (IsTold (Begins (within tag f)) p) (opened-err p (element_at p.at tag p.left) e (sym isnt.1 ∙ h)) (inl refl)
    ]
  where
    other : (bytes : List ℕ) → p.left ≡ bytes → is_other tag bytes ≡ true → IsTold (Begins (within tag f)) p (Shape p.at)
    other [] same test = absurd cc
    other (b ∷ bytes) same test = inr (record {
      front = [];
      byte = b;
      more = bytes;
      parts = same;
      place = omega arith;
      dead = λ more input begun. absurd (different tag f b more begun test);
    })

-- What is told of a content is told of its element.
pub told-inside : {A : Type 0} (tag : ℕ) (f : Whole A) → IsWhole f → (p i q : Place) → IsOpened tag p i q → (e : ShapeFault) → f.read i ≡ Err e → IsInput p.left → IsTold (Takes f) i e → IsTold (Begins (within tag f)) p e
unfolding spelled
told-inside tag f law p i q o (Shape at) refused input (inl last) =
    let long = longer tag o.content in
    let cut = last-byte (spelled tag o.content) (omega arith) in
    let count : length (spelled tag o.content) ≡ length cut.0 + 1 = ap length cut.2 ∙ length-append cut.0 (cut.1 ∷ []) in
    inr (record {
      front = cut.0;
      byte = cut.1;
      more = q.left;
      parts = o.front.left ∙ ap (λ (l : List ℕ). l ++ q.left) cut.2 ∙ append_assoc cut.0 (cut.1 ∷ []) q.left;
      place = omega (arith, o.last, last);
      dead = λ other all begun.
          let whole : spelled tag o.content ++ other ≡ cut.0 ++ (cut.1 ∷ other) = ap (λ (l : List ℕ). l ++ other) cut.2 ∙ append_assoc cut.0 (cut.1 ∷ []) other in
          let one = one_element tag tag o.content (f.spelling begun.value) other begun.rest (whole ∙ begun.spelled) in
          let read : f.read i ≡ Ok begun.value = law.again begun.value i begun.good o.place (o.left ∙ one.1) in
          not-both (f.read i) begun.value (Shape at) read refused;
    })
told-inside tag f law p i q o (Shape at) refused input (inr dies) =
    let header : List ℕ = tag ∷ length_bytes (length o.content) in
    let parts : o.content ≡ dies.front ++ (dies.byte ∷ dies.more) = sym o.left ∙ dies.parts in
    let count : length (spelled tag o.content) ≡ length header + length o.content = length-append header o.content in
    let before : length o.content ≡ length dies.front + suc (length dies.more) = ap length parts ∙ length-append dies.front (dies.byte ∷ dies.more) in
    inr (record {
      front = header ++ dies.front;
      byte = dies.byte;
      more = dies.more ++ q.left;
      parts = o.front.left ∙ ap (λ (l : List ℕ). (header ++ l) ++ q.left) parts ∙ append_assoc header (dies.front ++ (dies.byte ∷ dies.more)) q.left ∙ ap (λ (l : List ℕ). header ++ l) (append_assoc dies.front (dies.byte ∷ dies.more) q.left) ∙ sym (append_assoc header dies.front (dies.byte ∷ (dies.more ++ q.left)));
      place = omega (arith, dies.place, o.at, length-append header dies.front);
      dead = λ other all begun.
          let s : List ℕ = f.spelling begun.value in
          let front : (header ++ dies.front) ++ (dies.byte ∷ other) ≡ header ++ (dies.front ++ (dies.byte ∷ other)) = append_assoc header dies.front (dies.byte ∷ other) in
          let spelled-is : tag ∷ (length_bytes (length o.content) ++ (dies.front ++ (dies.byte ∷ other))) ≡ tag ∷ ((length_bytes (length s) ++ s) ++ begun.rest) = sym front ∙ begun.spelled in
          let tails : length_bytes (length o.content) ++ (dies.front ++ (dies.byte ∷ other)) ≡ (length_bytes (length s) ++ s) ++ begun.rest = cc in
          let one = one_length (length o.content) (length s) _ (s ++ begun.rest) (tails ∙ append_assoc (length_bytes (length s)) s begun.rest) in
          let held = within-front dies.front dies.byte other s begun.rest one.1 (omega (arith, before, one.0)) in
          let input-s : IsInput s = content-input _ s begun.rest tag all begun.spelled (omega (arith, one.0, o.place.input.short, ap length o.left)) in
          dies.dead held.0 (subst IsInput held.1 input-s) (record { value = begun.value; good = begun.good; spelled = sym held.1 });
    })
told-inside tag f law p i q o Memory refused input told = told

pub within-law : {A : Type 0} (tag : ℕ) (f : Whole A) → IsWhole f → IsFront (within tag f)
within-law {A = A} tag f law = record {
  again = λ x p q good is b.
      let opened = open-again tag p q (f.spelling x) is b in
      let o = open-taken tag p (inside p (f.spelling x) q.left) q is opened in
      let read : f.read (inside p (f.spelling x) q.left) ≡ Ok x = law.again x (inside p (f.spelling x) q.left) good o.place refl in
      rw (opened, read) refl;
  taken = λ x p q is e.
      let a = bind-ok (open_at tag p) (λ q. f.read q.0 >>= (λ x. Ok (x, q.1))) (x, q) e in
      let b = bind-ok (f.read a.0.0) (λ x. Ok (x, a.0.1)) (x, q) a.2 in
      let same : (b.0, a.0.1) ≡ (x, q) = same-ok {A = A × Place} _ _ b.2 in
      let o = open-taken tag p a.0.0 a.0.1 is a.1 in
      let t = law.taken b.0 a.0.0 o.place b.1 in
      let content : o.content ≡ f.spelling b.0 = sym o.left ∙ t.1 in
      subst (λ (y : A × Place). f.good y.0 × IsBehind (spelled tag (f.spelling y.0)) p y.1) same (t.0, subst (λ (l : List ℕ). IsBehind (spelled tag l) p a.0.1) content o.front);
  fault = λ e p is h.
      elim (bind-err (open_at tag p) (λ q. f.read q.0 >>= (λ x. Ok (x, q.1))) e h) [
        | inl refused ↦ open-fault tag f p e refused
        | inr a ↦ elim (bind-err (f.read a.0.0) (λ x. Ok (x, a.0.1)) e a.2) [
          | inl refused ↦
              let o = open-taken tag p a.0.0 a.0.1 is a.1 in
              told-inside tag f law p a.0.0 a.0.1 o e refused is.input (law.fault e a.0.0 o.place refused)
          | inr b ↦ absurd (not-err {A = A × Place} _ e b.2)
        ]
      ];
  some = λ x good. omega (arith, longer tag (f.spelling x));
}
