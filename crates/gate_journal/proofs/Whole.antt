-- A file whose records end at a closed gate is whole, and stands for them.
use Rattle.std.proofs.Common.{◌≡◌, ◌≢◌, inl, inr, ℕ, zero, suc, ◌+◌, ◌-◌, ◌≤◌, ◌<◌, ◌^◌, true, ◌&&◌, cond, Some, None, List, [], ◌∷◌, ◌++◌, length, drop, refl, ◌∙◌, ap, arith, length-append, zero-add}
use Rattle.std.proofs.lemmas.Bool.{and_from, le-leb, cond-true, cond-false, ne_eqb, lt-leb, cases_lt}
use Rattle.std.specs.Prelude.{nat_le, ◌==◌}
use Rattle.std.specs.List.{All}
use Rattle.gate_journal.specs.Format.{header, spelled, size_of, is_whole, behind, has_header, recovered, damaged_in, damaged_at}
use Rattle.gate_journal.specs.View.{RecoversTo}
use Rattle.gate_journal.proofs.Records.{AreSmall, entry, length-entry, size_of-entry, is_whole-entry, behind-entry, spelled-more}
use Rattle.gate_journal.proofs.Laid.{length-spelled, recovered-closed}

-- each record is within the limit
abbrev pub AreWithin : ℕ → List (List ℕ) → Type 0
AreWithin limit records = All (λ payload. length payload ≤ limit) records

damaged_in-entry : (limit n at : ℕ) (payload rest : List ℕ) → length payload < 2 ^ 64 → length payload ≤ limit → damaged_in limit (suc n) at (1 ∷ entry payload rest) ≡ damaged_in limit n (at + 9 + length payload) rest
damaged_in-entry limit n at payload rest small few =
    let all = entry payload rest in
    let size = size_of-entry payload rest small in
    cond-true (is_whole all && nat_le (size_of all) limit) (damaged_in limit n (at + 9 + size_of all) (behind all)) (Some at)
    (and_from (is_whole all) (nat_le (size_of all) limit) (is_whole-entry payload rest small) (le-leb (size_of all) limit (omega (arith, size, few))))
    ∙ ap (λ (m : ℕ). damaged_in limit n (at + 9 + m) (behind all)) size
    ∙ ap (λ (l : List ℕ). damaged_in limit n (at + 9 + length payload) l) (behind-entry payload rest small)

damaged_in-spelled : (records : List (List ℕ)) (rest : List ℕ) (limit n at : ℕ) → AreSmall records → AreWithin limit records
    → damaged_in limit (length records + n) at (spelled records ++ rest) ≡ damaged_in limit n (at + length (spelled records)) rest
damaged_in-spelled [] rest limit n at small within = ap (λ (m : ℕ). damaged_in limit m at rest) (zero-add n) ∙ ap (λ (m : ℕ). damaged_in limit n m rest) (omega arith)
damaged_in-spelled (payload ∷ records) rest limit n at small within =
    let more : suc (length records) + n ≡ suc (length records + n) = omega arith in
    let size : length (spelled (payload ∷ records)) ≡ 9 + length payload + length (spelled records) = omega (arith, length-entry payload (spelled records) (small 0 [] (omega arith))) in
    ap (λ (m : ℕ). damaged_in limit m at (spelled (payload ∷ records) ++ rest)) more
    ∙ ap (λ (l : List ℕ). damaged_in limit (suc (length records + n)) at l) (spelled-more payload records rest)
    ∙ damaged_in-entry limit (length records + n) at payload (spelled records ++ rest) (small 0 [] (omega arith)) (within 0 [] (omega arith))
    ∙ damaged_in-spelled records rest limit n (at + 9 + length payload) (λ k d lt. small (suc k) d (omega (arith, lt))) (λ k d lt. within (suc k) d (omega (arith, lt)))
    ∙ ap (λ (m : ℕ). damaged_in limit n m rest) (omega (arith, size))

pub damaged_in-closed : (limit n at gate : ℕ) (rest : List ℕ) → gate ≢ 1 → damaged_in limit n at (gate ∷ rest) ≡ None
damaged_in-closed limit zero at gate rest closed = refl
damaged_in-closed limit (suc n) at gate rest closed = cond-false (gate == 1) (cond (is_whole rest && nat_le (size_of rest) limit) (damaged_in limit n (at + 9 + size_of rest) (behind rest)) (Some at)) None (ne_eqb gate 1 closed)

-- in a long file with the header, it depends on what follows the records
pub damaged_at-read : (limit : ℕ) (records : List (List ℕ)) (rest bytes : List ℕ) → bytes ≡ header ++ (spelled records ++ rest) → 17 < length bytes → AreSmall records → AreWithin limit records
    → (n : ℕ) × (damaged_at limit bytes ≡ damaged_in limit (suc n) (16 + length (spelled records)) rest)
damaged_at-read limit records rest bytes is long small within =
    let n = length bytes - length records - 1 in
    let few = length-spelled records in
    let size : length bytes ≡ 16 + length (spelled records) + length rest = omega (arith, ap (λ (l : List ℕ). length l) is, length-append (spelled records) rest) in
    let all : length bytes ≡ length records + suc n = omega (arith, few, size, long) in
    let headed : has_header bytes ≡ true = ap (λ (l : List ℕ). has_header l) is in (
      n,
      cond-true (nat_le 18 (length bytes)) (cond (has_header bytes) (damaged_in limit (length bytes) 16 (drop 16 bytes)) (Some 0)) None (le-leb 18 (length bytes) (omega (arith, long)))
          ∙ cond-true (has_header bytes) (damaged_in limit (length bytes) 16 (drop 16 bytes)) (Some 0) headed
          ∙ ap (λ (m : ℕ). damaged_in limit m 16 (drop 16 bytes)) all
          ∙ ap (λ (l : List ℕ). damaged_in limit (length records + suc n) 16 (drop 16 l)) is
          ∙ damaged_in-spelled records rest limit (suc n) 16 small within,
    )

pub damaged_short : (limit : ℕ) (bytes : List ℕ) → length bytes < 18 → damaged_at limit bytes ≡ None
damaged_short limit bytes short = cond-false (nat_le 18 (length bytes)) (cond (has_header bytes) (damaged_in limit (length bytes) 16 (drop 16 bytes)) (Some 0)) None (lt-leb 18 (length bytes) short)

pub damaged_at-closed : (limit : ℕ) (records : List (List ℕ)) (gate : ℕ) (tail bytes : List ℕ) → bytes ≡ header ++ (spelled records ++ gate ∷ tail) → AreSmall records → AreWithin limit records → gate ≢ 1 → damaged_at limit bytes ≡ None
damaged_at-closed limit records gate tail bytes is small within closed =
    elim (cases_lt (length bytes) 18) [
      | inl short ↦ damaged_short limit bytes short
      | inr long ↦
          let to = damaged_at-read limit records (gate ∷ tail) bytes is (omega (arith, long)) small within in
          to.1 ∙ damaged_in-closed limit (suc to.0) (16 + length (spelled records)) gate tail closed
    ]

pub holds_closed : (limit : ℕ) (records : List (List ℕ)) (gate : ℕ) (tail bytes : List ℕ) → bytes ≡ header ++ (spelled records ++ gate ∷ tail) → AreSmall records → AreWithin limit records → gate ≢ 1 → RecoversTo limit records bytes
holds_closed limit records gate tail bytes is small within closed = record {
  whole = damaged_at-closed limit records gate tail bytes is small within closed;
  found = ap (λ (l : List ℕ). recovered l) is ∙ recovered-closed records gate tail small closed;
}
