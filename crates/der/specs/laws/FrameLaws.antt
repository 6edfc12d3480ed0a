-- The laws of elements that stand alone, and of values that stand beside others.
use Rattle.std.proofs.Common.{◌≡◌, ℕ, ◌+◌, ◌-◌, List, [], ◌++◌, length, take, Result, Ok, Err, refl, sym, ap, subst, ◌∙◌, arith, inl, inr}
use Rattle.std.proofs.lemmas.List.{length-append, append-nil}
use Rattle.der.specs.declared.shape_fault.ShapeFault.{ShapeFault}
use Rattle.der.specs.Part.{Place, IsPlace, ◌>>=◌, open_at, sole_at, end_at, before}
use Rattle.der.specs.Form.{Whole, Front, Takes, Begins, IsTold, IsWhole, IsBehind, IsFront}
use Rattle.der.specs.Forms.{ends, within, sole, preceded, followed, framed, read_by, read_front_by}
use Rattle.der.specs.laws.PlaceLaws.{behind-place, next, is-next}
use Rattle.der.specs.laws.FormLaws.{same-ok, not-err, bind-ok, bind-err, told-fewer, told-behind, one-front-value, ends-law, IsOpened, open-again, open-taken, open-fault, told-inside}
use Rattle.std.proofs.lemmas.List.{take_at}
use Rattle.der.specs.Spelling.{spelled}
use Rattle.der.specs.laws.ElementLaws.{one_element}
use Rattle.der.specs.Part.{inside}

-- ---- an element that stands alone

pub sole-again : (tag : ℕ) (p : Place) (c : List ℕ) → IsPlace p → p.left ≡ spelled tag c → sole_at tag p ≡ Ok (inside p c [])
unfolding sole_at
sole-again tag p c is e =
    let q : Place = next p (spelled tag c) [] in
    let b : IsBehind (spelled tag c) p q = is-next p (spelled tag c) [] (e ∙ sym (append-nil (spelled tag c))) in
    let first : open_at tag p ≡ Ok (inside p c [], q) = open-again tag p q c is b in
    let second : end_at q ≡ Ok tt = ends-law.again tt q tt (behind-place (spelled tag c) p q is b) refl in
    rw (first, second) refl

-- What is opened, and that nothing stands behind it.
pub record IsSole (tag : ℕ) (p i : Place) : Type 0 where
  pub behind : Place
  pub opened : IsOpened tag p i behind
  pub nothing : behind.left ≡ []

pub sole-taken : (tag : ℕ) (p i : Place) → IsPlace p → sole_at tag p ≡ Ok i → IsSole tag p i
unfolding sole_at
sole-taken tag p i is e =
    let a = bind-ok (open_at tag p) (λ q. end_at q.1 >>= (λ u. Ok q.0)) i e in
    let b = bind-ok (end_at a.0.1) (λ u. Ok a.0.0) i a.2 in
    let o = open-taken tag p a.0.0 a.0.1 is a.1 in
    let none = ends-law.taken b.0 a.0.1 (behind-place (spelled tag o.content) p a.0.1 is o.front) b.1 in
    subst (λ (x : Place). IsSole tag p x) (same-ok {A = Place} _ _ b.2) (record { behind = a.0.1; opened = o; nothing = none.1 })

-- All the bytes begin with themselves.
begun-whole : {A : Type 0} (tag : ℕ) (f : Whole A) (bytes : List ℕ) → Takes (sole tag f) bytes → Begins (within tag f) bytes
begun-whole tag f bytes t = record { value = t.value; rest = []; good = t.good; spelled = t.spelled ∙ sym (append-nil (spelled tag (f.spelling t.value))) }

nothing-behind : {A : Type 0} (tag : ℕ) (f : Whole A) (c other : List ℕ) → Takes (sole tag f) (spelled tag c ++ other) → Takes ends other
nothing-behind tag f c other t =
    let one = one_element tag tag c (f.spelling t.value) other [] (t.spelled ∙ sym (append-nil (spelled tag (f.spelling t.value)))) in
    record { value = tt; good = tt; spelled = one.2 }

pub sole-header : {A : Type 0} (tag : ℕ) (f : Whole A) (p : Place) (e : ShapeFault) → IsPlace p → sole_at tag p ≡ Err e → IsTold (Takes (sole tag f)) p e
unfolding sole_at
sole-header tag f p e is h =
    elim (bind-err (open_at tag p) (λ q. end_at q.1 >>= (λ u. Ok q.0)) e h) [
      | inl refused ↦ told-fewer p e (λ bytes input t. begun-whole tag f bytes t) (open-fault tag f p e refused)
      | inr a ↦ elim (bind-err (end_at a.0.1) (λ u. Ok a.0.0) e a.2) [
        | inl refused ↦
            let o = open-taken tag p a.0.0 a.0.1 is a.1 in
            told-behind (Takes (sole tag f)) (spelled tag o.content) p a.0.1 e o.front (λ other input t. nothing-behind tag f o.content other t)
            (ends-law.fault e a.0.1 (behind-place (spelled tag o.content) p a.0.1 is o.front) refused)
        | inr b ↦ absurd (not-err {A = Place} _ e b.2)
      ]
    ]

pub sole-law : {A : Type 0} (tag : ℕ) (f : Whole A) → IsWhole f → IsWhole (sole tag f)
sole-law {A = A} tag f law = record { again = again; taken = taken; fault = fault }
  where
    again : (x : A) (p : Place) → f.good x → IsPlace p → p.left ≡ spelled tag (f.spelling x) → (sole tag f).read p ≡ Ok x
    again x p good is e =
        let opened = sole-again tag p (f.spelling x) is e in
        let o = sole-taken tag p (inside p (f.spelling x) []) is opened in
        let read : f.read (inside p (f.spelling x) []) ≡ Ok x = law.again x (inside p (f.spelling x) []) good o.opened.place refl in
        rw opened read

    taken : (x : A) (p : Place) → IsPlace p → (sole tag f).read p ≡ Ok x → f.good x × (p.left ≡ spelled tag (f.spelling x))
    taken x p is e =
        let a = bind-ok (sole_at tag p) f.read x e in
        let o = sole-taken tag p a.0 is a.1 in
        let t = law.taken x a.0 o.opened.place a.2 in
        let content : o.opened.content ≡ f.spelling x = sym o.opened.left ∙ t.1 in
        (t.0, o.opened.front.left ∙ ap (λ (l : List ℕ). spelled tag o.opened.content ++ l) o.nothing ∙ append-nil (spelled tag o.opened.content) ∙ ap (spelled tag) content)

    fault : (e : ShapeFault) (p : Place) → IsPlace p → (sole tag f).read p ≡ Err e → IsTold (Takes (sole tag f)) p e
    fault e p is h =
        elim (bind-err (sole_at tag p) f.read e h) [
          | inl refused ↦ sole-header tag f p e is refused
          | inr a ↦
              let o = sole-taken tag p a.0 is a.1 in
              told-fewer p e (λ bytes input t. begun-whole tag f bytes t) (told-inside tag f law p a.0 o.behind o.opened e a.2 is.input (law.fault e a.0 o.opened.place a.2))
        ]

-- ---- beside what has only one spelling

pub preceded-law : {A : Type 0} (f : Front (Unit {0})) (g : Whole A) → IsFront f → f.good tt → IsWhole g → IsWhole (preceded f g)
preceded-law {A = A} f g law-f ok law-g = record {
  again = λ x p good is e.
      let q : Place = next p (f.spelling tt) (g.spelling x) in
      let b : IsBehind (f.spelling tt) p q = is-next p (f.spelling tt) (g.spelling x) e in
      let first : f.read p ≡ Ok (tt, q) = law-f.again tt p q ok is b in
      let second : g.read q ≡ Ok x = law-g.again x q good (behind-place (f.spelling tt) p q is b) refl in
      rw first second;
  taken = λ x p is e.
      let a = bind-ok (f.read p) (λ q. g.read q.1) x e in
      let t = law-f.taken a.0.0 p a.0.1 is a.1 in
      let u = law-g.taken x a.0.1 (behind-place (f.spelling tt) p a.0.1 is t.1) a.2 in
      (u.0, t.1.left ∙ ap (λ (l : List ℕ). f.spelling tt ++ l) u.1);
  fault = λ e p is h.
      elim (bind-err (f.read p) (λ q. g.read q.1) e h) [
        | inl refused ↦ told-fewer p e (λ bytes input t. record { value = tt; rest = g.spelling t.value; good = ok; spelled = t.spelled }) (law-f.fault e p is refused)
        | inr a ↦
            let t = law-f.taken a.0.0 p a.0.1 is a.1 in
            told-behind (Takes (preceded f g)) (f.spelling tt) p a.0.1 e t.1
            (λ other input w. record { value = w.value; good = w.good; spelled = (one-front-value f law-f tt tt other (g.spelling w.value) ok ok input w.spelled).1 })
            (law-g.fault e a.0.1 (behind-place (f.spelling tt) p a.0.1 is t.1) a.2)
      ];
}

pub followed-law : {A : Type 0} (f : Front A) (g : Whole (Unit {0})) → IsFront f → IsWhole g → g.good tt → IsWhole (followed f g)
followed-law {A = A} f g law-f law-g ok = record {
  again = λ x p good is e.
      let q : Place = next p (f.spelling x) (g.spelling tt) in
      let b : IsBehind (f.spelling x) p q = is-next p (f.spelling x) (g.spelling tt) e in
      let first : f.read p ≡ Ok (x, q) = law-f.again x p q good is b in
      let second : g.read q ≡ Ok tt = law-g.again tt q ok (behind-place (f.spelling x) p q is b) refl in
      rw (first, second) refl;
  taken = λ x p is e.
      let a = bind-ok (f.read p) (λ x. g.read x.1 >>= (λ u. Ok x.0)) x e in
      let t = law-f.taken a.0.0 p a.0.1 is a.1 in
      let b = bind-ok (g.read a.0.1) (λ u. Ok a.0.0) x a.2 in
      let u = law-g.taken b.0 a.0.1 (behind-place (f.spelling a.0.0) p a.0.1 is t.1) b.1 in
      subst (λ (y : A). f.good y × (p.left ≡ f.spelling y ++ g.spelling tt)) (same-ok {A = A} _ _ b.2) (t.0, t.1.left ∙ ap (λ (l : List ℕ). f.spelling a.0.0 ++ l) u.1);
  fault = λ e p is h.
      elim (bind-err (f.read p) (λ x. g.read x.1 >>= (λ u. Ok x.0)) e h) [
        | inl refused ↦ told-fewer p e (λ bytes input t. record { value = t.value; rest = g.spelling tt; good = t.good; spelled = t.spelled }) (law-f.fault e p is refused)
        | inr a ↦ elim (bind-err (g.read a.0.1) (λ u. Ok a.0.0) e a.2) [
          | inl refused ↦
              let t = law-f.taken a.0.0 p a.0.1 is a.1 in
              told-behind (Takes (followed f g)) (f.spelling a.0.0) p a.0.1 e t.1
              (λ other input w. record { value = tt; good = ok; spelled = (one-front-value f law-f a.0.0 w.value other (g.spelling tt) t.0 w.good input w.spelled).1 })
              (law-g.fault e a.0.1 (behind-place (f.spelling a.0.0) p a.0.1 is t.1) refused)
          | inr b ↦ absurd (not-err {A = A} _ e b.2)
        ]
      ];
}

-- ---- an element, its bytes, and what stands behind it

pub framed-law : {A B : Type 0} (tag : ℕ) (f : Whole A) (g : Whole B) → IsWhole f → IsWhole g → IsWhole (framed tag f g)
framed-law {A = A} {B = B} tag f g law-f law-g = record { again = again; taken = taken; fault = fault }
  where
    front-of : (p q : Place) (front : List ℕ) → IsBehind front p q → before p q ≡ front
    front-of p q front b =
        let count : length p.left ≡ length front + length q.left = ap length b.left ∙ length-append front q.left in
        ap (take (length p.left - length q.left)) b.left ∙ take_at front q.left (length p.left - length q.left) (omega arith)

    again : (x : A × List ℕ × B) (p : Place) → (framed tag f g).good x → IsPlace p → p.left ≡ (framed tag f g).spelling x → (framed tag f g).read p ≡ Ok x
    again (x, bytes, y) p good is e =
        let c : List ℕ = f.spelling x in
        let q : Place = next p (spelled tag c) (g.spelling y) in
        let b : IsBehind (spelled tag c) p q = is-next p (spelled tag c) (g.spelling y) e in
        let opened : open_at tag p ≡ Ok (inside p c q.left, q) = open-again tag p q c is b in
        let o = open-taken tag p (inside p c q.left) q is opened in
        let second : g.read q ≡ Ok y = law-g.again y q good.2 (behind-place (spelled tag c) p q is b) refl in
        let first : f.read (inside p c q.left) ≡ Ok x = law-f.again x (inside p c q.left) good.0 o.place refl in
        let whole : before p q ≡ bytes = front-of p q (spelled tag c) b ∙ sym good.1 in
        rw (opened, second, first) (ap (λ (l : List ℕ). Ok (x, l, y)) whole)

    taken : (x : A × List ℕ × B) (p : Place) → IsPlace p → (framed tag f g).read p ≡ Ok x → (framed tag f g).good x × (p.left ≡ (framed tag f g).spelling x)
    taken x p is e =
        let a = bind-ok (open_at tag p) (λ q. g.read q.1 >>= (λ y. f.read q.0 >>= (λ x. Ok (x, before p q.1, y)))) x e in
        let o = open-taken tag p a.0.0 a.0.1 is a.1 in
        let b = bind-ok (g.read a.0.1) (λ y. f.read a.0.0 >>= (λ x. Ok (x, before p a.0.1, y))) x a.2 in
        let u = law-g.taken b.0 a.0.1 (behind-place (spelled tag o.content) p a.0.1 is o.front) b.1 in
        let d = bind-ok (f.read a.0.0) (λ x. Ok (x, before p a.0.1, b.0)) x b.2 in
        let t = law-f.taken d.0 a.0.0 o.place d.1 in
        let content : o.content ≡ f.spelling d.0 = sym o.left ∙ t.1 in
        let whole : before p a.0.1 ≡ spelled tag (f.spelling d.0) = front-of p a.0.1 (spelled tag o.content) o.front ∙ ap (spelled tag) content in
        let all : p.left ≡ spelled tag (f.spelling d.0) ++ g.spelling b.0 = o.front.left ∙ ap (λ (l : List ℕ). spelled tag o.content ++ l) u.1 ∙ ap (λ (l : List ℕ). spelled tag l ++ g.spelling b.0) content in
        subst (λ (y : A × List ℕ × B). (framed tag f g).good y × (p.left ≡ (framed tag f g).spelling y)) (same-ok {A = A × List ℕ × B} _ _ d.2) ((t.0, whole, u.0), all)

    begun : (bytes : List ℕ) → Takes (framed tag f g) bytes → Begins (within tag f) bytes
    begun bytes t = record { value = t.value.0; rest = g.spelling t.value.2; good = t.good.0; spelled = t.spelled }

    behind-it : (c other : List ℕ) → Takes (framed tag f g) (spelled tag c ++ other) → Takes g other
    behind-it c other t =
        let one = one_element tag tag c (f.spelling t.value.0) other (g.spelling t.value.2) t.spelled in
        record { value = t.value.2; good = t.good.2; spelled = one.2 }

    fault : (e : ShapeFault) (p : Place) → IsPlace p → (framed tag f g).read p ≡ Err e → IsTold (Takes (framed tag f g)) p e
    fault e p is h =
        elim (bind-err (open_at tag p) (λ q. g.read q.1 >>= (λ y. f.read q.0 >>= (λ x. Ok (x, before p q.1, y)))) e h) [
          | inl refused ↦ told-fewer p e (λ bytes input t. begun bytes t) (open-fault tag f p e refused)
          | inr a ↦ elim (bind-err (g.read a.0.1) (λ y. f.read a.0.0 >>= (λ x. Ok (x, before p a.0.1, y))) e a.2) [
            | inl refused ↦
                let o = open-taken tag p a.0.0 a.0.1 is a.1 in
                told-behind (Takes (framed tag f g)) (spelled tag o.content) p a.0.1 e o.front (λ other input t. behind-it o.content other t)
                (law-g.fault e a.0.1 (behind-place (spelled tag o.content) p a.0.1 is o.front) refused)
            | inr b ↦ elim (bind-err (f.read a.0.0) (λ x. Ok (x, before p a.0.1, b.0)) e b.2) [
              | inl refused ↦
                  let o = open-taken tag p a.0.0 a.0.1 is a.1 in
                  told-fewer p e (λ bytes input t. begun bytes t) (told-inside tag f law-f p a.0.0 a.0.1 o e refused is.input (law-f.fault e a.0.0 o.place refused))
              | inr d ↦ absurd (not-err {A = A × List ℕ × B} _ e d.2)
            ]
          ]
        ]

-- ---- other readings of one format

pub bind-assoc : {A B C : Type 0} (r : Result A ShapeFault) (f : A → Result B ShapeFault) (g : B → Result C ShapeFault) → ((r >>= f) >>= g) ≡ (r >>= (λ x. f x >>= g))
bind-assoc (Ok x) f g = refl
bind-assoc (Err e) f g = refl

pub bind-alike : {A B : Type 0} (r : Result A ShapeFault) (f g : A → Result B ShapeFault) → ((x : A) → f x ≡ g x) → (r >>= f) ≡ (r >>= g)
bind-alike (Ok x) f g same = same x
bind-alike (Err e) f g same = refl

pub read_by-law : {A : Type 0} (f : Whole A) (read : Place → Result A ShapeFault) → IsWhole f → ((p : Place) → read p ≡ f.read p) → IsWhole (read_by f read)
read_by-law f read law same = record {
  again = λ x p good is e. same p ∙ law.again x p good is e;
  taken = λ x p is e. law.taken x p is (sym (same p) ∙ e);
  fault = λ e p is h. told-fewer p e (λ bytes input t. record { value = t.value; good = t.good; spelled = t.spelled }) (law.fault e p is (sym (same p) ∙ h));
}

pub read_front_by-law : {A : Type 0} (f : Front A) (read : Place → Result (A × Place) ShapeFault) → IsFront f → ((p : Place) → read p ≡ f.read p) → IsFront (read_front_by f read)
read_front_by-law f read law same = record {
  again = λ x p q good is b. same p ∙ law.again x p q good is b;
  taken = λ x p q is e. law.taken x p q is (sym (same p) ∙ e);
  fault = λ e p is h. told-fewer p e (λ bytes input t. record { value = t.value; rest = t.rest; good = t.good; spelled = t.spelled }) (law.fault e p is (sym (same p) ∙ h));
  some = law.some;
}
