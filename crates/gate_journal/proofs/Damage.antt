-- Where a file is damaged, by the records that stand before.
use Rattle.std.proofs.Common.{◌≡◌, inl, inr, ℕ, suc, ◌+◌, ◌<◌, true, false, ◌&&◌, cond, Option, Some, None, List, length, drop, IfSome, sym, ◌∙◌, ap, subst, arith}
use Rattle.std.proofs.lemmas.Bool.{le-leb, cond-true, cond-false}
use Rattle.std.specs.Prelude.{nat_le}
use Rattle.gate_journal.specs.Format.{spelled, size_of, is_whole, behind, has_header, damaged_in, damaged_at}
use Rattle.gate_journal.specs.inner.Reading.{IsHarmed}
use Rattle.gate_journal.specs.declared.place.Place.{Place}
use Rattle.gate_journal.proofs.Whole.{damaged_at-read}
use Rattle.gate_journal.proofs.Opened.{HasRead}

damaged_in-harmed : (limit n at : ℕ) (rest : List ℕ) → IsHarmed limit rest → damaged_in limit (suc n) at rest ≡ Some at
damaged_in-harmed limit n at rest (inl none) = ap (λ (l : List ℕ). damaged_in limit (suc n) at l) none
damaged_in-harmed limit n at rest (inr bad) =
    ap (λ (l : List ℕ). damaged_in limit (suc n) at l) bad.1
    ∙ cond-false (is_whole bad.0 && nat_le (size_of bad.0) limit) (damaged_in limit n (at + 9 + size_of bad.0) (behind bad.0)) (Some at) bad.2

pub damaged_there : (limit at : ℕ) (places : List Place) (bytes : List ℕ) → HasRead limit at places bytes → 17 < length bytes → IsHarmed limit (drop at bytes) → damaged_at limit bytes ≡ Some at
damaged_there limit at places bytes read long bad =
    let to = damaged_at-read limit read.records (drop at bytes) bytes read.split long read.small read.within in
    to.1 ∙ damaged_in-harmed limit to.0 (16 + length (spelled read.records)) (drop at bytes) bad ∙ ap (λ (n : ℕ). Some n) (sym read.at_is)

pub damaged_head : (limit : ℕ) (bytes : List ℕ) → 17 < length bytes → has_header bytes ≡ false → damaged_at limit bytes ≡ Some 0
damaged_head limit bytes long other =
    cond-true (nat_le 18 (length bytes)) (cond (has_header bytes) (damaged_in limit (length bytes) 16 (drop 16 bytes)) (Some 0)) None (le-leb 18 (length bytes) (omega (arith, long)))
    ∙ cond-false (has_header bytes) (damaged_in limit (length bytes) 16 (drop 16 bytes)) (Some 0) other

pub damaged_known : (content now : Option (List ℕ)) (limit len at place : ℕ) (places : List Place) → now ≡ content → IfSome content (λ bytes. HasRead limit at places bytes) → IfSome content (λ bytes. (len ≡ length bytes) × (has_header bytes ≡ true)) → 17 < len
    → (place ≡ at) × IfSome now (λ bytes. IsHarmed limit (drop at bytes)) → IfSome content (λ bytes. damaged_at limit bytes ≡ Some place)
damaged_known None now limit len at place places same read known long bad = tt
damaged_known (Some bytes) now limit len at place places same read known long bad =
    damaged_there limit at places bytes read (omega (arith, long, known.0)) (subst (λ (o : Option (List ℕ)). IfSome o (λ b. IsHarmed limit (drop at b))) same bad.1) ∙ ap (λ (n : ℕ). Some n) (sym bad.0)
