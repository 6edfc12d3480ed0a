-- Whether an edition is in range.
use Rattle.std.proofs.Common.{◌≡◌, ℕ, ◌≤◌, ltb, Bool, true, false, Some, None, refl, arith}
use Rattle.std.specs.Prelude.{if◌then◌else◌}
use Rattle.std.proofs.lemmas.Bool.{ltb-false, or_parts}
use Rattle.std.proofs.lemmas.Option.{same_Some}
use Rattle.editions.specs.Moments.{moment_behind, is_out_of_range, moment_in_range}

inside : (out : Bool) (moment m : ℕ) → Some m ≡ (if out then None else Some moment) → (out ≡ false) × (m ≡ moment)
inside true moment m is = absurd cc
inside false moment m is = (refl, same_Some m moment is)

pub in-range : (clock last m : ℕ) → Some m ≡ moment_in_range clock last → (is_out_of_range clock last ≡ false) × (m ≡ moment_behind clock last)
in-range clock last m is = inside (is_out_of_range clock last) (moment_behind clock last) m is

outside : (out : Bool) (moment : ℕ) → None ≡ (if out then None else Some moment) → out ≡ true
outside true moment is = refl
outside false moment is = absurd cc

pub out-of-range : (clock last : ℕ) → None ≡ moment_in_range clock last → is_out_of_range clock last ≡ true
out-of-range clock last is = outside (is_out_of_range clock last) (moment_behind clock last) is

-- ---- its moment, where it is

pub least-moment : (clock last : ℕ) → is_out_of_range clock last ≡ false → 946_684_800 ≤ moment_behind clock last
least-moment clock last within =
    let p = or_parts (ltb clock 946_684_800) (ltb 253_370_764_799 (moment_behind clock last)) within in
    let from = ltb-false clock 946_684_800 p.0 in
    omega (arith, from)

pub most-moment : (clock last : ℕ) → is_out_of_range clock last ≡ false → moment_behind clock last ≤ 253_370_764_799
most-moment clock last within =
    let p = or_parts (ltb clock 946_684_800) (ltb 253_370_764_799 (moment_behind clock last)) within in
    ltb-false 253_370_764_799 (moment_behind clock last) p.1
