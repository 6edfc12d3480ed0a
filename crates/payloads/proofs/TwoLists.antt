-- The families of two lists.
use Rattle.std.proofs.Common.{◌≡◌, ◌≢◌, true, false, Some, None, List, [], ◌∷◌, length, refl, arith}
use Rattle.payloads.specs.RoaFormats.{Entry, families_of}

pub first-alone : (a b : List Entry) → length b ≡ 0 → families_of a b ≡ ((false, a), None)
first-alone a [] e = refl
first-alone a (y ∷ b) e = absurd (omega arith)

pub second-alone : (a b : List Entry) → length a ≡ 0 → length b ≢ 0 → families_of a b ≡ ((true, b), None)
second-alone [] [] e some = absurd (some refl)
second-alone [] (y ∷ b) e some = refl
second-alone (x ∷ a) b e some = absurd (omega arith)

pub both-there : (a b : List Entry) → length a ≢ 0 → length b ≢ 0 → families_of a b ≡ ((false, a), Some (true, b))
both-there [] b some other = absurd (some refl)
both-there (x ∷ a) [] some other = absurd (other refl)
both-there (x ∷ a) (y ∷ b) some other = refl
