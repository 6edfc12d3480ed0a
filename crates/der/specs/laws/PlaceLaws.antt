-- Places within places.
use Rattle.std.proofs.Common.{◌≡◌, ℕ, ◌+◌, ◌<◌, ◌≤◌, ◌^◌, List, [], ◌∷◌, ◌++◌, length, Ok, refl, sym, ap, subst, ◌∙◌, arith, inl, inr}
use Rattle.std.proofs.lemmas.Bool.{cases_lt}
use Rattle.std.proofs.lemmas.List.{length-append, get_or-append-add, get_or_append_left, get_or_past}
use Rattle.der.specs.Grammar.{AreBytes}
use Rattle.der.specs.Spelling.{spelled}
use Rattle.der.specs.Reading.{element_at}
use Rattle.der.specs.laws.ContentLaws.{part-fits}
use Rattle.der.specs.laws.ElementLaws.{element-taken, longer}
use Rattle.der.specs.Part.{Place, IsInput, IsPlace, place, start}
use Rattle.der.specs.declared.part.Part.{Part}
use Rattle.der.specs.Form.{IsBehind}

-- Parts of bytes are bytes.
pub front-bytes : (front rest : List ℕ) → AreBytes (front ++ rest) → AreBytes front
front-bytes front rest fits i =
    elim (cases_lt i (length front)) [
      | inl lt ↦ subst (λ (b : ℕ). b < 256) (get_or_append_left front rest 0 i lt) (fits i)
      | inr le ↦ rw (get_or_past front i 0 le) (omega arith)
    ]

pub rest-bytes : (front rest : List ℕ) → AreBytes (front ++ rest) → AreBytes rest
rest-bytes front rest fits i = subst (λ (b : ℕ). b < 256) (get_or-append-add front rest i 0) (fits (length front + i))

pub front-input : (bytes front rest : List ℕ) → IsInput bytes → bytes ≡ front ++ rest → IsInput front
front-input bytes front rest input e = record {
  bytes = front-bytes front rest (subst AreBytes e input.bytes);
  short = omega (arith, input.short, ap length e, length-append front rest);
}

pub rest-input : (bytes front rest : List ℕ) → IsInput bytes → bytes ≡ front ++ rest → IsInput rest
rest-input bytes front rest input e = record {
  bytes = rest-bytes front rest (subst AreBytes e input.bytes);
  short = omega (arith, input.short, ap length e, length-append front rest);
}

pub content-input : (bytes content rest : List ℕ) (tag : ℕ) → IsInput bytes → bytes ≡ spelled tag content ++ rest → length content < 2 ^ 32 → IsInput content
content-input bytes content rest tag input e small = record {
  bytes = part-fits tag bytes content rest input.bytes e;
  short = small;
}

pub start-place : (bytes : List ℕ) → IsInput bytes → IsPlace (start bytes)
start-place bytes input = record { input = input; ends = omega arith }

pub behind-place : (front : List ℕ) (p q : Place) → IsPlace p → IsBehind front p q → IsPlace q
behind-place front p q is b = record {
  input = rest-input p.left front q.left is.input b.left;
  ends = omega (arith, is.ends, b.at, b.last, ap length b.left, length-append front q.left);
}

-- A place is what it has.
pub same-place : (p q : Place) → p.at ≡ q.at → p.left ≡ q.left → p.last ≡ q.last → p ≡ q
same-place p q at left last =
    let made : ℕ → List ℕ → ℕ → Place = λ a l e. record { at = a; left = l; last = e } in
    ap (λ (a : ℕ). made a p.left p.last) at ∙ ap (λ (l : List ℕ). made q.at l p.last) left ∙ ap (λ (e : ℕ). made q.at q.left e) last

-- The place behind a front.
abbrev pub next : Place → List ℕ → List ℕ → Place
next p front rest = record { at = p.at + length front; left = rest; last = p.last }

pub is-next : (p : Place) (front rest : List ℕ) → p.left ≡ front ++ rest → IsBehind front p (next p front rest)
is-next p front rest e = record { left = e; at = refl; last = refl }

-- Bytes but for the last, and the last.
pub last-byte : (bytes : List ℕ) → 1 ≤ length bytes → (front : List ℕ) × (b : ℕ) × (bytes ≡ front ++ (b ∷ []))
last-byte [] some = absurd (omega arith)
last-byte (b ∷ []) some = ([], b, refl)
last-byte (b ∷ c ∷ bytes) some =
    let t = last-byte (c ∷ bytes) (omega arith) in
    (b ∷ t.0, t.1, ap (λ (l : List ℕ). b ∷ l) t.2)

-- A byte that stands within a front.
pub within-front : (a : List ℕ) (b : ℕ) (other s r : List ℕ) → a ++ (b ∷ other) ≡ s ++ r → length a < length s → (o : List ℕ) × (s ≡ a ++ (b ∷ o))
within-front [] b other [] r e less = absurd (omega arith)
within-front [] b other (c ∷ s) r e less = (s, ap (λ (x : ℕ). x ∷ s) (sym (heads e)))
  where
    heads : (b ∷ other) ≡ (c ∷ (s ++ r)) → b ≡ c
    heads e = cc
within-front (d ∷ a) b other [] r e less = absurd (omega arith)
within-front (d ∷ a) b other (c ∷ s) r e less =
    let t = within-front a b other s r (tails e) (omega arith) in
    (t.0, ap (λ (l : List ℕ). c ∷ l) t.1 ∙ ap (λ (x : ℕ). x ∷ (a ++ (b ∷ t.0))) (sym (heads e)))
  where
    heads : (d ∷ (a ++ (b ∷ other))) ≡ (c ∷ (s ++ r)) → d ≡ c
    heads e = cc

    tails : (d ∷ (a ++ (b ∷ other))) ≡ (c ∷ (s ++ r)) → a ++ (b ∷ other) ≡ s ++ r
    tails e = cc

-- How long the parts of an element are, and that they are bytes.
pub record AreParts (bytes content rest : List ℕ) : Type 0 where
  pub total : length content + 2 + length rest ≤ length bytes
  pub small : length content < 2 ^ 32
  pub content_bytes : AreBytes content
  pub rest_bytes : AreBytes rest

pub element-parts : (at tag : ℕ) (bytes content rest : List ℕ) → AreBytes bytes → element_at at tag bytes ≡ Ok (content, rest) → AreParts bytes content rest
element-parts at tag bytes content rest fits e =
    let t = element-taken at tag bytes (content, rest) fits e in
    let long = longer tag content in
    let total : length bytes ≡ length (spelled tag content) + length rest = ap length t.0 ∙ length-append (spelled tag content) rest in
    record {
      total = omega arith;
      small = t.1;
      content_bytes = part-fits tag bytes content rest fits t.0;
      rest_bytes = rest-bytes (spelled tag content) rest (subst AreBytes t.0 fits);
    }

-- A part's place is one.
pub part-place : (part : Part) → IsPlace (place part)
part-place part = record { input = record { bytes = part.are_bytes; short = part.short }; ends = part.ends }
