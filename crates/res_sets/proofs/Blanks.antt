-- Blanks at the ends of texts, and the parts between bytes.
use Rattle.std.proofs.Common.{◌≡◌, ℕ, ◌+◌, ◌-◌, ◌<◌, Bool, true, false, nat_lt, List, [], ◌∷◌, ◌++◌, length, take, drop, Some, None, refl, ap, arith}
use Rattle.std.specs.List.{list_any, position, position_or_len, before_first, after_first}
use Rattle.std.proofs.lemmas.Bool.Decides.{nat_tests}
use Rattle.std.proofs.lemmas.List.{reverse-append}
use Rattle.std.proofs.lemmas.Grind.{common_steps}
use Rattle.res_sets.specs.Blocks.{is_blank, without_leading, without_trailing}

pub without_leading-blank : (b : ℕ) (bytes text rest : List ℕ) → rest ≡ b ∷ bytes → is_blank b ≡ true → without_leading rest ≡ without_leading text → without_leading bytes ≡ without_leading text
without_leading-blank b bytes text rest is blank same = grind (arith, nat_tests, ap without_leading is)

pub without_leading-other : (b : ℕ) (bytes rest : List ℕ) → rest ≡ b ∷ bytes → is_blank b ≡ false → without_leading rest ≡ rest
without_leading-other b bytes rest is other = grind (arith, nat_tests, ap without_leading is)

push_blank : (bytes : List ℕ) (b : ℕ) → is_blank b ≡ true → without_trailing (bytes ++ b ∷ []) ≡ without_trailing bytes
push_blank bytes b blank = grind (arith, common_steps, reverse-append bytes (b ∷ []))

push_other : (bytes : List ℕ) (b : ℕ) → is_blank b ≡ false → without_trailing (bytes ++ b ∷ []) ≡ bytes ++ b ∷ []
push_other bytes b other = grind (arith, common_steps, reverse-append bytes (b ∷ []))

-- the test passes somewhere where the first place that passes is one
pub any_is_before_end : (p : ℕ → Bool) (xs : List ℕ) → list_any p xs ≡ nat_lt (position_or_len p xs) (length xs)
any_is_before_end p [] = refl
any_is_before_end p (x ∷ xs) = grind (arith, nat_tests, any_is_before_end p xs)

found_place : (p : ℕ → Bool) (xs : List ℕ) (i : ℕ) → Some i ≡ position p xs → (i ≡ position_or_len p xs) × (i < length xs)
found_place p xs i found = (grind (arith, common_steps, found), grind (arith, common_steps, found))

pub split_parts : (p : ℕ → Bool) (xs : List ℕ) (i : ℕ) → Some i ≡ position p xs
    → (list_any p xs ≡ true) × (take i xs ≡ before_first p xs) × (take (length xs - (i + 1)) (drop (i + 1) xs) ≡ after_first p xs)
split_parts p xs i found =
    let place = found_place p xs i found in
    (grind (arith, common_steps, any_is_before_end p xs, place), ap (λ (k : ℕ). take k xs) place.0, grind (arith, common_steps, place))

pub split_none : (p : ℕ → Bool) (xs : List ℕ) → None ≡ position p xs → list_any p xs ≡ false
split_none p xs none = grind (arith, common_steps, any_is_before_end p xs, none)
