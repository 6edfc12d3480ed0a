-- How the names of files end.
use Rattle.std.proofs.Common.{◌≡◌, ℕ, ◌-◌, List, ◌++◌, length, drop, nat_eq, ap, ◌∙◌, arith}
use Rattle.std.specs.List.{ends_with}
use Rattle.std.specs.Cmp.Lexicographic.{pointwise}
use Rattle.std.proofs.lemmas.List.{length-append}
use Rattle.std.proofs.Math.Seq.{drop-append_seam}

-- Whether a text ends so is told by as much of its end.
pub ending : (front back other : List ℕ) → length back ≡ length other
    → ends_with nat_eq (front ++ back) other ≡ pointwise nat_eq other back
ending front back other same =
    let long = length-append front back in
    let at : length (front ++ back) - length other ≡ length front = omega (arith, long, same) in
    ap (pointwise nat_eq other)
    (ap (λ (n : ℕ). drop n (front ++ back)) at ∙ drop-append_seam front back)
