-- What makes a reading exact, and how readings are put together.
use Rattle.std.proofs.Common.{◌≡◌, ℕ, suc, Bool, true, false, ◌==◌, List, [], ◌∷◌, ◌++◌, length, ◌⊎◌, inl, inr, Result, Ok, Err, refl, sym, ap, ◌∙◌, subst, append_assoc, if◌then◌else◌}
use Rattle.std.proofs.lemmas.Bool.{cases_Bool, eqb-true, eq-eqb}
use Rattle.std.proofs.lemmas.List.{append_cancel_left}
use Rattle.rrdp_text.specs.Reading.{literal, begins, ◌>>=◌}

-- A fault: no text begins with the bytes up to the one there.
pub record Stops {A : Type 0} (Good : A → Type 0) (text : A → List ℕ) (s : List ℕ) (left : ℕ) : Type 0 where
  pub front : List ℕ
  pub byte : ℕ
  pub back : List ℕ
  pub bytes : s ≡ front ++ (byte ∷ back)
  pub place : left ≡ suc (length back)
  pub none : (a : A) → Good a → (more tail : List ℕ) → text a ++ more ≡ front ++ (byte ∷ tail) → ⊥

-- What is good is read from its spelling, whatever follows; what is read is good and spelled so; a
-- fault is the end, or a byte that can't stand there.
pub record Exact {A : Type 0} (Good : A → Type 0) (text : A → List ℕ) (read : List ℕ → Result (A × List ℕ) ℕ) : Type 0 where
  pub again : (a : A) → Good a → (rest : List ℕ) → read (text a ++ rest) ≡ Ok (a, rest)
  pub taken : (s : List ℕ) (a : A) (rest : List ℕ) → read s ≡ Ok (a, rest) → Good a × (s ≡ text a ++ rest)
  pub stops : (s : List ℕ) (left : ℕ) → read s ≡ Err left → (left ≡ 0) ⊎ Stops Good text s left

pub cases_Result : {A B : Type 0} (r : Result A B) → ((a : A) × (r ≡ Ok a)) ⊎ ((b : B) × (r ≡ Err b))
cases_Result (Ok a) = inl (a, refl)
cases_Result (Err b) = inr (b, refl)

-- ---- literals

pub literal-again : (cs rest : List ℕ) → literal cs (cs ++ rest) ≡ Ok rest
unfolding literal
literal-again [] rest = refl
literal-again (c ∷ cs) rest = rw (eq-eqb c c refl) (literal-again cs rest)

pub literal-taken : (cs s rest : List ℕ) → literal cs s ≡ Ok rest → s ≡ cs ++ rest
unfolding literal
literal-taken [] s rest h = cc
literal-taken (c ∷ cs) [] rest h = cc
literal-taken (c ∷ cs) (b ∷ s) rest h = elim (cases_Bool (b == c)) [
  | inl same ↦
      let tail : s ≡ cs ++ rest = literal-taken cs s rest (rw same at h) in
      let head : b ≡ c = eqb-true b c same in
      cc
  | inr differs ↦ let bad = rw differs at h in cc
]

pub literal-stops : (cs s : List ℕ) (left : ℕ) → literal cs s ≡ Err left
    → (left ≡ 0) ⊎ Stops (λ (_ : Unit {0}). Unit {0}) (λ _. cs) s left
unfolding literal
literal-stops [] s left h = cc
literal-stops (c ∷ cs) [] left h = inl cc
literal-stops (c ∷ cs) (b ∷ s) left h = elim (cases_Bool (b == c)) [
  | inl same ↦
      let head : b ≡ c = eqb-true b c same in
      elim (literal-stops cs s left (rw same at h)) [
        | inl end ↦ inl end
        | inr stop ↦ inr (record {
          front = b ∷ stop.front;
          byte = stop.byte;
          back = stop.back;
          bytes = ap (λ (l : List ℕ). b ∷ l) stop.bytes;
          place = stop.place;
          none = λ a good more tail e. stop.none a good more tail cc;
        })
      ]
  | inr differs ↦
      let bad = rw differs at h in
      inr (record {
        front = [];
        byte = b;
        back = s;
        bytes = refl;
        place = cc;
        none = λ a good more tail e. let same : b ≡ c = cc in cc (eq-eqb b c same);
      })
]

-- ---- one thing behind another

pub literal_then : {A : Type 0} {Good : A → Type 0} {text : A → List ℕ} {read : List ℕ → Result (A × List ℕ) ℕ} (cs : List ℕ)
    → Exact Good text read → Exact Good (λ a. cs ++ text a) (λ s. literal cs s >>= read)
literal_then {A} {Good} {text} {read} cs exact = record {
  again = λ a good rest. rw (append_assoc cs (text a) rest, literal-again cs (text a ++ rest)) (exact.again a good rest);
  taken = λ s a rest h. elim (cases_Result (literal cs s)) [
    | inl (rest_of, is) ↦
        let front = literal-taken cs s rest_of is in
        let inner = exact.taken rest_of a rest (rw is at h) in
        (inner.0, front ∙ ap (λ (l : List ℕ). cs ++ l) inner.1 ∙ sym (append_assoc cs (text a) rest))
    | inr (left, is) ↦ let bad = rw is at h in cc
  ];
  stops = λ s left h. elim (cases_Result (literal cs s)) [
    | inl (rest_of, is) ↦
        let front = literal-taken cs s rest_of is in
        elim (exact.stops rest_of left (rw is at h)) [
          | inl end ↦ inl end
          | inr stop ↦ inr (record {
            front = cs ++ stop.front;
            byte = stop.byte;
            back = stop.back;
            bytes = front ∙ ap (λ (l : List ℕ). cs ++ l) stop.bytes ∙ sym (append_assoc cs stop.front (stop.byte ∷ stop.back));
            place = stop.place;
            none = λ a good more tail e. stop.none a good more tail (append_cancel_left cs (text a ++ more) (stop.front ++ (stop.byte ∷ tail))
                (sym (append_assoc cs (text a) more) ∙ e ∙ append_assoc cs stop.front (stop.byte ∷ tail)));
          })
        ]
    | inr (place, is) ↦
        let same : place ≡ left = (let r = rw is at h in cc) in
        elim (literal-stops cs s place is) [
          | inl end ↦ inl (sym same ∙ end)
          | inr stop ↦ inr (record {
            front = stop.front;
            byte = stop.byte;
            back = stop.back;
            bytes = stop.bytes;
            place = sym same ∙ stop.place;
            none = λ a good more tail e. stop.none tt tt (text a ++ more) tail (sym (append_assoc cs (text a) more) ∙ e);
          })
        ]
  ];
}

-- nothing more: the value is known
pub done : {A : Type 0} (v : A) → Exact (λ a. a ≡ v) (λ _. []) (λ s. Ok (v, s))
done {A} v = record {
  again = λ a good rest. ap (λ x. Ok (x, rest)) (sym good);
  taken = λ s a rest h. let e : ◌≡◌ {A = A × List ℕ} (v, s) (a, rest) = cc h in (sym (ap (λ (p : A × List ℕ). p.0) e), ap (λ (p : A × List ℕ). p.1) e);
  stops = λ s left h. cc h;
}

-- what is read next may depend on what was read, and says it again
pub behind : {A B : Type 0} {Good : A → Type 0} {text : A → List ℕ} {read : List ℕ → Result (A × List ℕ) ℕ}
    {Next : A → B → Type 0} {next_text : B → List ℕ} {next : A → List ℕ → Result (B × List ℕ) ℕ}
    (from : B → A) → Exact Good text read → ((a : A) → Good a → Exact (Next a) next_text (next a))
    → ((a : A) (b : B) → Next a b → from b ≡ a)
    → Exact (λ b. Good (from b) × Next (from b) b) (λ b. text (from b) ++ next_text b) (λ s. read s >>= λ p. next p.0 p.1)
behind {A} {B} {Good} {text} {read} {Next} {next_text} {next} from first second tells = record {
  again = λ b good rest.
      rw (append_assoc (text (from b)) (next_text b) rest, first.again (from b) good.0 (next_text b ++ rest))
      ((second (from b) good.0).again b good.1 rest);
  taken = λ s b rest h. elim (cases_Result (read s)) [
    | inl (p, is) ↦
        let front = first.taken s p.0 p.1 is in
        let inner = (second p.0 front.0).taken p.1 b rest (rw is at h) in
        let same : from b ≡ p.0 = tells p.0 b inner.0 in (
          subst (λ (a : A). Good a × Next a b) (sym same) (front.0, inner.0),
          front.1 ∙ ap (λ (l : List ℕ). text p.0 ++ l) inner.1 ∙ sym (append_assoc (text p.0) (next_text b) rest)
              ∙ ap (λ (a : A). (text a ++ next_text b) ++ rest) (sym same),
        )
    | inr (place, is) ↦ let bad = rw is at h in cc bad
  ];
  stops = λ s left h. elim (cases_Result (read s)) [
    | inl (p, is) ↦
        let front = first.taken s p.0 p.1 is in
        elim ((second p.0 front.0).stops p.1 left (rw is at h)) [
          | inl end ↦ inl end
          | inr stop ↦ inr (record {
            front = text p.0 ++ stop.front;
            byte = stop.byte;
            back = stop.back;
            bytes = front.1 ∙ ap (λ (l : List ℕ). text p.0 ++ l) stop.bytes ∙ sym (append_assoc (text p.0) stop.front (stop.byte ∷ stop.back));
            place = stop.place;
            none = λ b good more tail e.
                let both : text (from b) ++ (next_text b ++ more) ≡ text p.0 ++ (stop.front ++ (stop.byte ∷ tail)) =
                sym (append_assoc (text (from b)) (next_text b) more) ∙ e ∙ append_assoc (text p.0) stop.front (stop.byte ∷ tail) in
                let here = first.again (from b) good.0 (next_text b ++ more) in
                let there = first.again p.0 front.0 (stop.front ++ (stop.byte ∷ tail)) in
                let one : ◌≡◌ {A = A × List ℕ} (from b, next_text b ++ more) (p.0, stop.front ++ (stop.byte ∷ tail)) = cc (here, there, ap read both) in
                stop.none b (subst (λ (a : A). Next a b) (ap (λ (x : A × List ℕ). x.0) one) good.1) more tail (ap (λ (x : A × List ℕ). x.1) one);
          })
        ]
    | inr (place, is) ↦
        let same : place ≡ left = (let r = rw is at h in cc r) in
        elim (first.stops s place is) [
          | inl end ↦ inl (sym same ∙ end)
          | inr stop ↦ inr (record {
            front = stop.front;
            byte = stop.byte;
            back = stop.back;
            bytes = stop.bytes;
            place = sym same ∙ stop.place;
            none = λ b good more tail e. stop.none (from b) good.0 (next_text b ++ more) tail (sym (append_assoc (text (from b)) (next_text b) more) ∙ e);
          })
        ]
  ];
}

-- ---- one of two, told apart by the first byte

pub same_begin : (c byte : ℕ) (front xs ys : List ℕ) → begins c (front ++ (byte ∷ xs)) ≡ begins c (front ++ (byte ∷ ys))
same_begin c byte [] xs ys = refl
same_begin c byte (b ∷ front) xs ys = refl

-- the text begins so, whatever follows it
abbrev pub Begins : {A : Type 0} → Bool → ℕ → (A → Type 0) → (A → List ℕ) → Type 0
Begins {A} answer c Good text = (a : A) → Good a → (rest : List ℕ) → begins c (text a ++ rest) ≡ answer

stops_other : {A : Type 0} {One Other : A → Type 0} {text : A → List ℕ} (answer : Bool) (c : ℕ) (s : List ℕ) (left : ℕ)
    → begins c s ≡ answer → ((a : A) → Other a → (rest : List ℕ) → begins c (text a ++ rest) ≡ answer → ⊥)
    → Stops One text s left → Stops (λ a. One a ⊎ Other a) text s left
stops_other {A} {One} {Other} {text} answer c s left is apart stop = record {
  front = stop.front;
  byte = stop.byte;
  back = stop.back;
  bytes = stop.bytes;
  place = stop.place;
  none = λ a good more tail e. elim good [
    | inl one ↦ stop.none a one more tail e
    | inr other ↦ apart a other more (ap (begins c) e ∙ same_begin c stop.byte stop.front tail stop.back ∙ sym (ap (begins c) stop.bytes) ∙ is)
  ];
}

swapped : {A : Type 0} {One Other : A → Type 0} {text : A → List ℕ} {s : List ℕ} {left : ℕ}
    → Stops (λ a. One a ⊎ Other a) text s left → Stops (λ a. Other a ⊎ One a) text s left
swapped stop = record {
  front = stop.front;
  byte = stop.byte;
  back = stop.back;
  bytes = stop.bytes;
  place = stop.place;
  none = λ a good more tail e. elim good [ inl x ↦ stop.none a (inr x) more tail e | inr y ↦ stop.none a (inl y) more tail e ];
}

pub either : {A : Type 0} {One Other : A → Type 0} {text : A → List ℕ} {one other : List ℕ → Result (A × List ℕ) ℕ} (c : ℕ)
    → Exact One text one → Exact Other text other → Begins true c One text → Begins false c Other text
    → Exact (λ a. One a ⊎ Other a) text (λ s. if begins c s then one s else other s)
either {A} {One} {Other} {text} {one} {other} c first second begins_so begins_not = record {
  again = λ a good rest. elim good [
    | inl x ↦ rw (begins_so a x rest) (first.again a x rest)
    | inr y ↦ rw (begins_not a y rest) (second.again a y rest)
  ];
  taken = λ s a rest h. elim (cases_Bool (begins c s)) [
    | inl is ↦ let inner = first.taken s a rest (rw is at h) in (inl inner.0, inner.1)
    | inr isnt ↦ let inner = second.taken s a rest (rw isnt at h) in (inr inner.0, inner.1)
  ];
  stops = λ s left h. elim (cases_Bool (begins c s)) [
    | inl is ↦ elim (first.stops s left (rw is at h)) [
      | inl end ↦ inl end
      | inr stop ↦ inr (stops_other true c s left is (λ a y rest e. let other_way = begins_not a y rest in cc (e, other_way)) stop)
    ]
    | inr isnt ↦ elim (second.stops s left (rw isnt at h)) [
      | inl end ↦ inl end
      | inr stop ↦ inr (swapped (stops_other false c s left isnt (λ a x rest e. let other_way = begins_so a x rest in cc (e, other_way)) stop))
    ]
  ];
}

-- the same under other words
pub same : {A : Type 0} {Good Also : A → Type 0} {text spelled : A → List ℕ} {read : List ℕ → Result (A × List ℕ) ℕ}
    → Exact Good text read → ((a : A) → Good a → Also a × (text a ≡ spelled a)) → ((a : A) → Also a → Good a)
    → Exact Also spelled read
same {A} {Good} {Also} {text} {spelled} {read} exact to from = record {
  again = λ a also rest. let good = from a also in rw (sym (to a good).1) (exact.again a good rest);
  taken = λ s a rest h. let inner = exact.taken s a rest h in let t = to a inner.0 in (t.0, inner.1 ∙ ap (λ (l : List ℕ). l ++ rest) t.1);
  stops = λ s left h. elim (exact.stops s left h) [
    | inl end ↦ inl end
    | inr stop ↦ inr (record {
      front = stop.front;
      byte = stop.byte;
      back = stop.back;
      bytes = stop.bytes;
      place = stop.place;
      none = λ a also more tail e. let good = from a also in stop.none a good more tail (ap (λ (l : List ℕ). l ++ more) (to a good).1 ∙ e);
    })
  ];
}
