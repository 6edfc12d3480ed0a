-- What the first nine bytes at a gate say of the record there.
use Rattle.std.proofs.Common.{◌≡◌, ◌⊎◌, inl, inr, ⊎_elim, ℕ, ◌+◌, ◌-◌, ◌≤◌, ◌<◌, Option, Some, None, List, ◌∷◌, length, get_or, take, drop, IfSome, sym, ◌∙◌, ap, subst, arith, length-drop}
use Rattle.std.proofs.lemmas.Bool.{and_left, and_right, lt-leb, cases_lt}
use Rattle.std.proofs.lemmas.List.{drop_more, drop-take, take_all, get_or-take, get_or-drop}
use Rattle.std.proofs.lemmas.Nat.{be_bytes_8}
use Rattle.std.specs.Prelude.{nat_le}
use Rattle.std.specs.Int.{w64, to_be_bytes, from_be_bytes}
use Rattle.gate_journal.specs.Format.{size_of, is_whole}
use Rattle.gate_journal.specs.inner.Reading.{Fills, IsHarmed, StandsAt}
use Rattle.gate_journal.specs.declared.open.Head.TheVariants.{Record}

module _ (bytes : List ℕ) (at got : ℕ) (head : List ℕ) (nine : length head ≡ 9) (fills : Fills bytes at got head) (some : 0 < got) (is_open : get_or head 0 0 ≡ 1) where
  left_of : length (drop at bytes) ≡ length bytes - at
  left_of = length-drop at bytes

  first : get_or (drop at bytes) 0 0 ≡ 1
  first = sym (get_or-take got (drop at bytes) 0 0 some) ∙ ap (λ (l : List ℕ). get_or l 0 0) (sym fills.put) ∙ get_or-take got head 0 0 some ∙ is_open

  pub opens : drop at bytes ≡ 1 ∷ drop 1 (drop at bytes)
  opens = drop_more (drop at bytes) 0 0 (omega (arith, left_of, fills.all, some, nine)) ∙ ap (λ (n : ℕ). n ∷ drop 1 (drop at bytes)) first

  pub size_is : 9 ≤ got → from_be_bytes w64 (drop 1 head) ≡ size_of (drop 1 (drop at bytes))
  size_is full =
      let all : got ≡ 9 = omega (arith, fills.all, nine, full) in
      let same : take 9 head ≡ take 9 (drop at bytes) = ap (λ (n : ℕ). take n head) (sym all) ∙ fills.put ∙ ap (λ (n : ℕ). take n (drop at bytes)) all in
      ap (λ (l : List ℕ). from_be_bytes w64 l) (ap (λ (l : List ℕ). drop 1 l) (sym (take_all 9 head (omega (arith, nine))) ∙ same) ∙ drop-take 1 8 (drop at bytes))

  pub spells_size : (size : ℕ) → 9 ≤ got → ((i : ℕ) → get_or head i 0 < 256) → size ≡ from_be_bytes w64 (drop 1 head) → to_be_bytes w64 size ≡ take 8 (drop 1 (drop at bytes))
  spells_size size full fit is =
      let all : got ≡ 9 = omega (arith, fills.all, nine, full) in
      let same : take 9 head ≡ take 9 (drop at bytes) = ap (λ (n : ℕ). take n head) (sym all) ∙ fills.put ∙ ap (λ (n : ℕ). take n (drop at bytes)) all in
      be_bytes_8 (drop 1 head) size (omega (arith, length-drop 1 head, nine)) (λ i. subst (λ (n : ℕ). n < 256) (sym (get_or-drop 1 head i 0)) (fit (1 + i))) is
      ∙ ap (λ (l : List ℕ). drop 1 l) (sym (take_all 9 head (omega (arith, nine))) ∙ same)
      ∙ drop-take 1 8 (drop at bytes)

  pub harmed : (limit left size : ℕ) → at + left ≡ length bytes → size ≡ from_be_bytes w64 (drop 1 head) → (got < 9) ⊎ ((limit < size) ⊎ (left - 9 < size)) → IsHarmed limit (drop at bytes)
  harmed limit left size there is why =
      let tail = drop 1 (drop at bytes) in
      let few : length tail ≡ length bytes - at - 1 = omega (arith, length-drop 1 (drop at bytes), left_of) in
      inr (
        tail,
        opens,
        elim (cases_lt got 9) [
          | inl short ↦ and_left (is_whole tail) (nat_le (size_of tail) limit) (lt-leb (8 + size_of tail) (length tail) (omega (arith, few, fills.all, nine, short)))
          | inr full ↦
              let same : size ≡ size_of tail = is ∙ size_is full in
              ⊎_elim
              (λ short. absurd (omega (arith, short, full)))
              (λ more. ⊎_elim
              (λ above. and_right (is_whole tail) (nat_le (size_of tail) limit) (lt-leb (size_of tail) limit (omega (arith, above, same))))
              (λ past. and_left (is_whole tail) (nat_le (size_of tail) limit) (lt-leb (8 + size_of tail) (length tail) (omega (arith, past, same, few, there, fills.all, nine, full))))
              more)
              why
        ],
      )

pub harmed_known : (content : Option (List ℕ)) (at got left limit size : ℕ) (head : List ℕ) → length head ≡ 9 → IfSome content (λ bytes. Fills bytes at got head) → 0 < got → get_or head 0 0 ≡ 1 → IfSome content (λ bytes. at + left ≡ length bytes)
    → size ≡ from_be_bytes w64 (drop 1 head) → (got < 9) ⊎ ((limit < size) ⊎ (left - 9 < size)) → IfSome content (λ bytes. IsHarmed limit (drop at bytes))
harmed_known None at got left limit size head nine fills some is_open there is why = tt
harmed_known (Some bytes) at got left limit size head nine fills some is_open there is why = harmed bytes at got head nine fills some is_open limit left size there is why

pub stands_known : (content : Option (List ℕ)) (at got size : ℕ) (head : List ℕ) → length head ≡ 9 → IfSome content (λ bytes. Fills bytes at got head) → 9 ≤ got → get_or head 0 0 ≡ 1 → ((i : ℕ) → get_or head i 0 < 256) → size ≡ from_be_bytes w64 (drop 1 head)
    → IfSome content (λ bytes. StandsAt (drop at bytes) (Record size))
stands_known None at got size head nine fills full is_open fit is = tt
stands_known (Some bytes) at got size head nine fills full is_open fit is =
    let some : 0 < got = omega (arith, full) in
    (drop 1 (drop at bytes), opens bytes at got head nine fills some is_open, is ∙ size_is bytes at got head nine fills some is_open full, spells_size bytes at got head nine fills some is_open size full fit is)
