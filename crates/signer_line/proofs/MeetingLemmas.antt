-- What is passed over up to the end of a line.
use Rattle.std.proofs.Common.{inl, inr, ◌≡◌, ◌<◌, ◌+◌, ℕ, List, [], ◌∷◌, ◌++◌, length, take, get_or, refl, sym, ◌∙◌, ap, subst, Option, Some, None, append_assoc, arith, length-append, take_all}
use Rattle.std.specs.Io.KnownBytes.{Consumes}
use Rattle.std.proofs.lemmas.List.{take_more, append-nil}
use Rattle.signer_line.specs.Meetings.{MatchedAfter}
use Rattle.signer_line.proofs.LineLemmas.{consumes_more}

-- So many bytes were read, and the last of them are the first ones of the line, as far as it is matched.
pub record Passes (old new : Option (List ℕ)) (line : List ℕ) (count matched : ℕ) : Type 0 where
  pub all : List ℕ
  pub front : List ℕ
  pub long : length all ≡ count
  pub read : Consumes old new all
  pub ends : all ≡ front ++ take matched line

one_more : (xs : List ℕ) (count byte : ℕ) → length xs ≡ count → length (xs ++ byte ∷ []) ≡ count + 1
one_more xs count byte long = omega (arith, length-append xs (byte ∷ []))

-- the next byte is the line's
pub matches : (a b c : Option (List ℕ)) (line : List ℕ) (count matched byte : ℕ) → matched < length line → Passes a b line count matched → Consumes b c (byte ∷ [])
    → byte ≡ get_or line matched 0 → Passes a c line (count + 1) (matched + 1)
matches a b c line count matched byte low before one same = record {
  all = before.all ++ byte ∷ [];
  front = before.front;
  long = one_more before.all count byte before.long;
  read = consumes_more a b c before.all (byte ∷ []) before.read one;
  ends = ap (λ (xs : List ℕ). xs ++ byte ∷ []) before.ends ∙ append_assoc before.front (take matched line) (byte ∷ [])
      ∙ ap (λ (xs : List ℕ). before.front ++ xs) (ap (λ (x : ℕ). take matched line ++ x ∷ []) same ∙ sym (take_more line matched 0 low));
}

-- it is the line's first one, and another than the next
pub begins : (a b c : Option (List ℕ)) (line : List ℕ) (count matched byte : ℕ) → 0 < length line → Passes a b line count matched → Consumes b c (byte ∷ [])
    → byte ≡ get_or line 0 0 → Passes a c line (count + 1) 1
begins a b c line count matched byte some before one same = record {
  all = before.all ++ byte ∷ [];
  front = before.all;
  long = one_more before.all count byte before.long;
  read = consumes_more a b c before.all (byte ∷ []) before.read one;
  ends = ap (λ (xs : List ℕ). before.all ++ xs) (ap (λ (x : ℕ). x ∷ []) same ∙ sym (take_more line 0 0 some));
}

-- it is neither
pub passes : (a b c : Option (List ℕ)) (line : List ℕ) (count matched byte : ℕ) → Passes a b line count matched → Consumes b c (byte ∷ [])
    → Passes a c line (count + 1) 0
passes a b c line count matched byte before one = record {
  all = before.all ++ byte ∷ [];
  front = before.all ++ byte ∷ [];
  long = one_more before.all count byte before.long;
  read = consumes_more a b c before.all (byte ∷ []) before.read one;
  ends = sym (append-nil (before.all ++ byte ∷ []));
}

-- the line's last byte was matched
pub passed_all : (a c : Option (List ℕ)) (line : List ℕ) (count matched : ℕ) → Passes a c line count matched → matched ≡ length line
    → (passed : List ℕ) × Consumes a c (passed ++ line)
passed_all a c line count matched at whole =
    (at.front, subst (Consumes a c) (at.ends ∙ ap (λ (xs : List ℕ). at.front ++ xs) (take_all matched line (omega arith))) at.read)

-- before the first byte
pub starts : (a : Option (List ℕ)) (line : List ℕ) → Passes a a line 0 0
starts None line = record { all = []; front = []; long = refl; read = tt; ends = refl }
starts (Some xs) line = record { all = []; front = []; long = refl; read = refl; ends = refl }

pub after_byte : (a b c : Option (List ℕ)) (line : List ℕ) (count matched byte after : ℕ) → matched < length line → Passes a b line count matched
    → Consumes b c (byte ∷ []) → MatchedAfter line matched byte after → Passes a c line (count + 1) after
after_byte a b c line count matched byte after low before one next =
    elim next [
      | inl goes ↦ subst (Passes a c line (count + 1)) (sym goes.0) (matches a b c line count matched byte low before one goes.1)
      | inr other ↦
          elim other [
            | inl first ↦ subst (Passes a c line (count + 1)) (sym first.0) (begins a b c line count matched byte (omega arith) before one first.1)
            | inr none ↦ subst (Passes a c line (count + 1)) (sym none) (passes a b c line count matched byte before one)
          ]
    ]
