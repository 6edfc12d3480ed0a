-- The bytes of a name are ASCII.
use Rattle.std.proofs.Common.{◌≡◌, inl, inr, ℕ, ◌+◌, ◌-◌, ◌<◌, Bool, true, ◌&&◌, List, length, take, drop, get_or, IsUtf8, ap, subst, ◌∙◌, arith, eqb, ltb}
use Rattle.std.specs.Char.{is_ascii_alphabetic}
use Rattle.std.specs.List.{list_all}
use Rattle.std.proofs.lemmas.Bool.{cases_lt, and_parts, eqb-true}
use Rattle.std.proofs.lemmas.Bool.Decides.{nat_tests}
use Rattle.std.proofs.lemmas.List.{get_or-take, get_or-drop}
use Rattle.std.proofs.lemmas.List.Sums.{AllPass-from_list_all}
use Rattle.std.proofs.lemmas.Str.{IsUtf8-from_ascii}
use Rattle.std.proofs.lemmas.Str.Ascii.{IsAscii-from_all}
use Rattle.payloads.specs.ManifestFormats.{is_stem_byte, has_dot_at, is_name}

stem-below : (c : ℕ) → is_stem_byte c ≡ true → c < 128
stem-below c is = grind (arith, nat_tests)

letter-below : (c : ℕ) → is_ascii_alphabetic c ≡ true → c < 128
letter-below c is = grind (arith, nat_tests)

-- Bytes that all pass such a test.
all-below : (test : ℕ → Bool) → ((c : ℕ) → test c ≡ true → c < 128) → (xs : List ℕ) → list_all test xs ≡ true → (i : ℕ) → get_or xs i 0 < 128
all-below test below xs pass i =
    IsAscii-from_all xs (λ k d within. below _ (AllPass-from_list_all test xs pass k d within)) i

dot-below : (at : ℕ) (bytes : List ℕ) → has_dot_at at bytes ≡ true → (i : ℕ) → get_or bytes i 0 < 128
dot-below at bytes is i =
    let p = and_parts (list_all is_stem_byte (take at bytes) && eqb (get_or bytes at 0) 46) (list_all is_ascii_alphabetic (drop (at + 1) bytes)) is in
    let q = and_parts (list_all is_stem_byte (take at bytes)) (eqb (get_or bytes at 0) 46) p.0 in
    let dot : get_or bytes at 0 ≡ 46 = eqb-true (get_or bytes at 0) 46 q.1 in
    elim (cases_lt i at) [
      | inl before ↦ subst (λ (b : ℕ). b < 128) (get_or-take at bytes i 0 before) (all-below is_stem_byte stem-below (take at bytes) q.0 i)
      | inr from ↦ elim (cases_lt at i) [
        | inl behind ↦
            let place : at + 1 + (i - (at + 1)) ≡ i = omega (arith, behind) in
            subst (λ (b : ℕ). b < 128) (get_or-drop (at + 1) bytes (i - (at + 1)) 0 ∙ ap (λ (n : ℕ). get_or bytes n 0) place)
            (all-below is_ascii_alphabetic letter-below (drop (at + 1) bytes) p.1 (i - (at + 1)))
        | inr to ↦
            let here : at ≡ i = omega (arith, from, to) in
            subst (λ (n : ℕ). get_or bytes n 0 < 128) here (omega (arith, dot))
      ]
    ]

pub utf8_of : (bytes : List ℕ) → is_name bytes ≡ true → IsUtf8 bytes
unfolding is_name
utf8_of bytes is =
    let p = and_parts (ltb 4 (length bytes)) (has_dot_at (length bytes - 4) bytes) is in
    IsUtf8-from_ascii bytes (λ i. dot-below (length bytes - 4) bytes p.1 i)
