-- A list of elements and its end is read exactly, where each element is.
use Rattle.std.proofs.Common.{◌≡◌, ℕ, zero, suc, ◌<◌, true, false, List, [], ◌∷◌, ◌++◌, length, ◌⊎◌, inl, inr, Result, Ok, Err, refl, sym, ap, ◌∙◌, subst, arith, append_assoc, length-append}
use Rattle.std.specs.List.{flat_map}
use Rattle.std.proofs.lemmas.Bool.{cases_Bool}
use Rattle.rrdp_text.specs.Reading.{begins, literal, elements}
use Rattle.rrdp_text.proofs.Exact.{Exact, Stops, Begins, cases_Result, literal-again, literal-taken, literal-stops, same_begin}

-- each element is good behind the one before it
abbrev pub AllGood : {E : Type 0} → (List ℕ → E → Type 0) → (E → List ℕ) → List ℕ → List E → Type 0
AllGood Good uri previous [] = Unit {0}
AllGood Good uri previous (e ∷ es) = Good previous e × AllGood Good uri (uri e) es

-- an element, and what ends them
pub record IsElement {E : Type 0} (Good : List ℕ → E → Type 0) (text : E → List ℕ) (one : List ℕ → List ℕ → Result (E × List ℕ) ℕ)
    (end : List ℕ) : Type 0 where
  pub exact : (previous : List ℕ) → Exact (Good previous) text (one previous)
  pub begins_so : (previous : List ℕ) → Begins true 32 (Good previous) text
  pub end_begins : (rest : List ℕ) → begins 32 (end ++ rest) ≡ false
  pub end_stands : 0 < length end

elements-again : {E : Type 0} {Good : List ℕ → E → Type 0} {text : E → List ℕ} {one : List ℕ → List ℕ → Result (E × List ℕ) ℕ} {end : List ℕ}
    (uri : E → List ℕ) (is : IsElement Good text one end) (n : ℕ) (previous : List ℕ) (es : List E) (rest : List ℕ)
    → length es < n → AllGood Good uri previous es
    → elements one uri end n previous ((flat_map text es ++ end) ++ rest) ≡ Ok (es, rest)
unfolding elements
elements-again uri is zero previous es rest fits good = absurd (omega arith)
elements-again {E} {Good} {text} {one} {end} uri is (suc n) previous [] rest fits good =
    rw (is.end_begins rest, literal-again end rest) refl
elements-again {E} {Good} {text} {one} {end} uri is (suc n) previous (e ∷ es) rest fits good =
    let more : List ℕ = (flat_map text es ++ end) ++ rest in
    let split : ((text e ++ flat_map text es) ++ end) ++ rest ≡ text e ++ more = simp append_assoc in
    let inner = elements-again uri is n (uri e) es rest (omega arith) good.1 in
    rw (split, is.begins_so previous e good.0 more, (is.exact previous).again e good.0 more) (rw inner refl)

pub elements-taken : {E : Type 0} {Good : List ℕ → E → Type 0} {text : E → List ℕ} {one : List ℕ → List ℕ → Result (E × List ℕ) ℕ} {end : List ℕ}
    (uri : E → List ℕ) (is : IsElement Good text one end) (n : ℕ) (previous s : List ℕ) (es : List E) (rest : List ℕ)
    → elements one uri end n previous s ≡ Ok (es, rest)
    → AllGood Good uri previous es × (s ≡ (flat_map text es ++ end) ++ rest)
unfolding elements
elements-taken uri is zero previous s es rest h = cc h
elements-taken {E} {Good} {text} {one} {end} uri is (suc n) previous s es rest h = elim (cases_Bool (begins 32 s)) [
  | inl space ↦ elim (cases_Result (one previous s)) [
    | inl (e, first) ↦ elim (cases_Result (elements one uri end n (uri e.0) e.1)) [
      | inl (more, second) ↦
          let told = rw (space, first, second) at h in
          let pair : ◌≡◌ {A = List E × List ℕ} (e.0 ∷ more.0, more.1) (es, rest) = cc told in
          let list : e.0 ∷ more.0 ≡ es = ap (λ (p : List E × List ℕ). p.0) pair in
          let behind : more.1 ≡ rest = ap (λ (p : List E × List ℕ). p.1) pair in
          let here = (is.exact previous).taken s e.0 e.1 first in
          let there = elements-taken uri is n (uri e.0) e.1 more.0 more.1 second in
          let split : text e.0 ++ ((flat_map text more.0 ++ end) ++ more.1) ≡ ((text e.0 ++ flat_map text more.0) ++ end) ++ more.1 = simp append_assoc in (
            subst (λ (l : List E). AllGood Good uri previous l) list (here.0, there.0),
            here.1 ∙ ap (λ (l : List ℕ). text e.0 ++ l) there.1 ∙ split
                ∙ ap (λ (l : List E). (flat_map text l ++ end) ++ more.1) list ∙ ap (λ (l : List ℕ). (flat_map text es ++ end) ++ l) behind,
          )
      | inr (place, second) ↦ let bad = rw (space, first, second) at h in cc bad
    ]
    | inr (place, first) ↦ let bad = rw (space, first) at h in cc bad
  ]
  | inr other ↦ elim (cases_Result (literal end s)) [
    | inl (behind, is_end) ↦
        let told = rw (other, is_end) at h in
        let pair : ◌≡◌ {A = List E × List ℕ} ([], behind) (es, rest) = cc told in
        let list : [] ≡ es = ap (λ (p : List E × List ℕ). p.0) pair in
        let same : behind ≡ rest = ap (λ (p : List E × List ℕ). p.1) pair in (
          subst (λ (l : List E). AllGood Good uri previous l) list tt,
          literal-taken end s behind is_end ∙ ap (λ (l : List ℕ). end ++ l) same ∙ ap (λ (l : List E). (flat_map text l ++ end) ++ rest) list,
        )
    | inr (place, isnt_end) ↦ let bad = rw (other, isnt_end) at h in cc bad
  ]
]

-- ---- faults

-- the element is no element
stops_first : {E : Type 0} {Good : List ℕ → E → Type 0} {text : E → List ℕ} {one : List ℕ → List ℕ → Result (E × List ℕ) ℕ} {end : List ℕ}
    (uri : E → List ℕ) (is : IsElement Good text one end) (previous s : List ℕ) (left : ℕ) → begins 32 s ≡ true
    → Stops (Good previous) text s left → Stops (AllGood Good uri previous) (λ es. flat_map text es ++ end) s left
stops_first {E} {Good} {text} {one} {end} uri is previous s left space stop = record {
  front = stop.front;
  byte = stop.byte;
  back = stop.back;
  bytes = stop.bytes;
  place = stop.place;
  none = λ es good more tail h.
      let go : (l : List E) → AllGood Good uri previous l → (flat_map text l ++ end) ++ more ≡ stop.front ++ (stop.byte ∷ tail) → ⊥ =
      λ l. elim l as (λ (l : List E). AllGood Good uri previous l → (flat_map text l ++ end) ++ more ≡ stop.front ++ (stop.byte ∷ tail) → ⊥) [
        | [] ↦ λ good e.
            let not_space = is.end_begins more in
            let alike = ap (begins 32) e ∙ same_begin 32 stop.byte stop.front tail stop.back ∙ sym (ap (begins 32) stop.bytes) ∙ space in
            cc (alike, not_space)
        | x ∷ xs ↦ λ good e.
            let split : ((text x ++ flat_map text xs) ++ end) ++ more ≡ text x ++ ((flat_map text xs ++ end) ++ more) = simp append_assoc in
            stop.none x good.0 ((flat_map text xs ++ end) ++ more) tail (sym split ∙ e)
      ] in
      go es good h;
}

-- an element, and a fault behind it
stops_later : {E : Type 0} {Good : List ℕ → E → Type 0} {text : E → List ℕ} {one : List ℕ → List ℕ → Result (E × List ℕ) ℕ} {end : List ℕ}
    (uri : E → List ℕ) (is : IsElement Good text one end) (previous s : List ℕ) (left : ℕ) (e : E) (behind : List ℕ) → begins 32 s ≡ true
    → one previous s ≡ Ok (e, behind)
    → Stops (AllGood Good uri (uri e)) (λ es. flat_map text es ++ end) behind left
    → Stops (AllGood Good uri previous) (λ es. flat_map text es ++ end) s left
stops_later {E} {Good} {text} {one} {end} uri is previous s left e behind space first stop =
    let here = (is.exact previous).taken s e behind first in
    let front : List ℕ = text e ++ stop.front in
    let bytes : s ≡ front ++ (stop.byte ∷ stop.back) =
    here.1 ∙ ap (λ (l : List ℕ). text e ++ l) stop.bytes ∙ sym (append_assoc (text e) stop.front (stop.byte ∷ stop.back)) in
    record {
      front = front;
      byte = stop.byte;
      back = stop.back;
      bytes = bytes;
      place = stop.place;
      none = λ es good more tail h.
          let go : (l : List E) → AllGood Good uri previous l → (flat_map text l ++ end) ++ more ≡ front ++ (stop.byte ∷ tail) → ⊥ =
          λ l. elim l as (λ (l : List E). AllGood Good uri previous l → (flat_map text l ++ end) ++ more ≡ front ++ (stop.byte ∷ tail) → ⊥) [
            | [] ↦ λ good k.
                let not_space = is.end_begins more in
                let alike = ap (begins 32) k ∙ same_begin 32 stop.byte front tail stop.back ∙ sym (ap (begins 32) bytes) ∙ space in
                cc (alike, not_space)
            | x ∷ xs ↦ λ good k.
                let split : ((text x ++ flat_map text xs) ++ end) ++ more ≡ text x ++ ((flat_map text xs ++ end) ++ more) = simp append_assoc in
                let both : text x ++ ((flat_map text xs ++ end) ++ more) ≡ text e ++ (stop.front ++ (stop.byte ∷ tail)) =
                sym split ∙ k ∙ append_assoc (text e) stop.front (stop.byte ∷ tail) in
                let one_way = (is.exact previous).again x good.0 ((flat_map text xs ++ end) ++ more) in
                let other = (is.exact previous).again e here.0 (stop.front ++ (stop.byte ∷ tail)) in
                let pair : ◌≡◌ {A = E × List ℕ} (x, (flat_map text xs ++ end) ++ more) (e, stop.front ++ (stop.byte ∷ tail)) = cc (one_way, other, ap (one previous) both) in
                let alike : x ≡ e = ap (λ (p : E × List ℕ). p.0) pair in
                stop.none xs (subst (λ (y : E). AllGood Good uri (uri y) xs) alike good.1) more tail (ap (λ (p : E × List ℕ). p.1) pair)
          ] in
          go es good h;
    }

-- the end is no end
stops_end : {E : Type 0} {Good : List ℕ → E → Type 0} {text : E → List ℕ} {one : List ℕ → List ℕ → Result (E × List ℕ) ℕ} {end : List ℕ}
    (uri : E → List ℕ) (is : IsElement Good text one end) (previous s : List ℕ) (left : ℕ) → begins 32 s ≡ false
    → Stops (λ (_ : Unit {0}). Unit {0}) (λ _. end) s left
    → Stops (AllGood Good uri previous) (λ es. flat_map text es ++ end) s left
stops_end {E} {Good} {text} {one} {end} uri is previous s left other stop = record {
  front = stop.front;
  byte = stop.byte;
  back = stop.back;
  bytes = stop.bytes;
  place = stop.place;
  none = λ es good more tail h.
      let go : (l : List E) → AllGood Good uri previous l → (flat_map text l ++ end) ++ more ≡ stop.front ++ (stop.byte ∷ tail) → ⊥ =
      λ l. elim l as (λ (l : List E). AllGood Good uri previous l → (flat_map text l ++ end) ++ more ≡ stop.front ++ (stop.byte ∷ tail) → ⊥) [
        | [] ↦ λ good e. stop.none tt tt more tail e
        | x ∷ xs ↦ λ good e.
            let split : ((text x ++ flat_map text xs) ++ end) ++ more ≡ text x ++ ((flat_map text xs ++ end) ++ more) = simp append_assoc in
            let space = is.begins_so previous x good.0 ((flat_map text xs ++ end) ++ more) in
            let alike = ap (begins 32) (sym split ∙ e) ∙ same_begin 32 stop.byte stop.front tail stop.back ∙ sym (ap (begins 32) stop.bytes) ∙ other in
            cc (alike, space)
      ] in
      go es good h;
}

pub elements-stops : {E : Type 0} {Good : List ℕ → E → Type 0} {text : E → List ℕ} {one : List ℕ → List ℕ → Result (E × List ℕ) ℕ} {end : List ℕ}
    (uri : E → List ℕ) (is : IsElement Good text one end) (n : ℕ) (previous s : List ℕ) (left : ℕ)
    → elements one uri end n previous s ≡ Err left
    → (left ≡ 0) ⊎ Stops (AllGood Good uri previous) (λ es. flat_map text es ++ end) s left
unfolding elements
elements-stops uri is zero previous s left h = inl (cc h)
elements-stops {E} {Good} {text} {one} {end} uri is (suc n) previous s left h = elim (cases_Bool (begins 32 s)) [
  | inl space ↦ elim (cases_Result (one previous s)) [
    | inl (e, first) ↦ elim (cases_Result (elements one uri end n (uri e.0) e.1)) [
      | inl (more, second) ↦ let bad = rw (space, first, second) at h in cc bad
      | inr (place, second) ↦
          let told = rw (space, first, second) at h in
          let alike : place ≡ left = cc told in
          elim (elements-stops uri is n (uri e.0) e.1 left (second ∙ ap Err alike)) [
            | inl at_end ↦ inl at_end
            | inr stop ↦ inr (stops_later uri is previous s left e.0 e.1 space first stop)
          ]
    ]
    | inr (place, first) ↦
        let told = rw (space, first) at h in
        let alike : place ≡ left = cc told in
        elim ((is.exact previous).stops s left (first ∙ ap Err alike)) [
          | inl at_end ↦ inl at_end
          | inr stop ↦ inr (stops_first uri is previous s left space stop)
        ]
  ]
  | inr other ↦ elim (cases_Result (literal end s)) [
    | inl (behind, is_end) ↦ let bad = rw (other, is_end) at h in cc bad
    | inr (place, isnt_end) ↦
        let told = rw (other, isnt_end) at h in
        let alike : place ≡ left = cc told in
        elim (literal-stops end s left (isnt_end ∙ ap Err alike)) [
          | inl at_end ↦ inl at_end
          | inr stop ↦ inr (stops_end uri is previous s left other stop)
        ]
  ]
]

-- ---- with as many turns as there are bytes

stands : {E : Type 0} {Good : E → Type 0} (text : E → List ℕ) (e : E) → Good e → Begins true 32 Good text → 0 < length (text e)
stands {E} {Good} text e good begins_so =
    let go : (l : List ℕ) → begins 32 (l ++ []) ≡ true → 0 < length l =
    λ l. elim l as (λ (l : List ℕ). begins 32 (l ++ []) ≡ true → 0 < length l) [ [] ↦ λ h. cc h | x ∷ xs ↦ λ h. omega arith ] in
    go (text e) (begins_so e good [])

turns : {E : Type 0} {Good : List ℕ → E → Type 0} {text : E → List ℕ} {one : List ℕ → List ℕ → Result (E × List ℕ) ℕ} {end : List ℕ}
    (uri : E → List ℕ) (is : IsElement Good text one end) (previous : List ℕ) (es : List E) (rest : List ℕ) → AllGood Good uri previous es
    → length es < length ((flat_map text es ++ end) ++ rest)
turns {E} {Good} {text} {one} {end} uri is previous [] rest good = let e = length-append end rest in let s = is.end_stands in omega (arith, e, s)
turns {E} {Good} {text} {one} {end} uri is previous (x ∷ xs) rest good =
    let split : ((text x ++ flat_map text xs) ++ end) ++ rest ≡ text x ++ ((flat_map text xs ++ end) ++ rest) = simp append_assoc in
    let more = turns uri is (uri x) xs rest good.1 in
    let first = stands text x good.0 (is.begins_so previous) in
    let long = length-append (text x) ((flat_map text xs ++ end) ++ rest) in
    let same_length = ap length split in
    omega (arith, more, first, long, same_length)

pub elements_exact : {E : Type 0} {Good : List ℕ → E → Type 0} {text : E → List ℕ} {one : List ℕ → List ℕ → Result (E × List ℕ) ℕ} {end : List ℕ}
    (uri : E → List ℕ) (is : IsElement Good text one end) (previous : List ℕ)
    → Exact (AllGood Good uri previous) (λ es. flat_map text es ++ end) (λ s. elements one uri end (length s) previous s)
elements_exact uri is previous = record {
  again = λ es good rest. elements-again uri is _ previous es rest (turns uri is previous es rest good) good;
  taken = λ s es rest h. elements-taken uri is (length s) previous s es rest h;
  stops = λ s left h. elements-stops uri is (length s) previous s left h;
}
