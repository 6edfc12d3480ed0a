-- The names of a workload's authorities are names.
use Rattle.std.proofs.Common.{◌≡◌, ℕ, ◌+◌, ◌%◌, ◌<◌, ◌^◌, ◌==◌, Bool, true, false, ◌&&◌, List, [], ◌∷◌, ◌++◌, refl, arith}
use Rattle.std.specs.Prelude.{codes, decimal, if◌then◌else◌}
use Rattle.std.proofs.lemmas.Bool.Decides.{nat_tests}
use Rattle.std.proofs.lemmas.List.Sums.{AllPass-from_list_all}
use Rattle.std.proofs.lemmas.Fmt.{decimal_by_steps, length-decimal-le}
use Rattle.std.specs.List.{list_all}
use Rattle.names.specs.Name.{IsName, is_name_byte}
use Rattle.krill_top.specs.Generated.{name_of}

digit_in_name : (m : ℕ) → m < 10 → is_name_byte (48 + m) ≡ true
digit_in_name m small = grind (arith, nat_tests)

both : (a b : Bool) → a ≡ true → b ≡ true → (a && b) ≡ true
both a b is so = (λ i. is i && so i)

halves : (a b : Bool) → (a && b) ≡ true → (a ≡ true) × (b ≡ true)
halves true true is = (refl, refl)
halves true false is = absurd (cc)
halves false b is = absurd (cc)

more_in_name : (ds : List ℕ) (d : ℕ) → list_all is_name_byte ds ≡ true → is_name_byte d ≡ true → list_all is_name_byte (ds ++ d ∷ []) ≡ true
more_in_name [] d all is = both (is_name_byte d) true is refl
more_in_name (x ∷ xs) d all is =
    let parts = halves (is_name_byte x) (list_all is_name_byte xs) all in
    both (is_name_byte x) (list_all is_name_byte (xs ++ d ∷ [])) parts.0 (more_in_name xs d parts.1 is)

digits_in_name : (number : ℕ) → number < 2 ^ 64 → list_all is_name_byte (decimal number) ≡ true
digits_in_name = decimal_by_steps (λ m ds. list_all is_name_byte ds ≡ true) (λ m less. both (is_name_byte (48 + m)) true (digit_in_name m less) refl)
    (λ m ds less all. more_in_name ds (48 + m % 10) all (digit_in_name (m % 10) (omega arith)))

anchor_named : IsName (codes "ta")
anchor_named = record { not_empty = omega arith; short = omega arith; plain = AllPass-from_list_all is_name_byte (codes "ta") refl }

numbered : (number : ℕ) → number < 256 → IsName (codes "c" ++ decimal number)
numbered number small = record {
  not_empty = omega arith;
  short = omega (arith, length-decimal-le 3 number (omega arith) (omega arith) (omega arith));
  plain = AllPass-from_list_all is_name_byte (codes "c" ++ decimal number) (digits_in_name number (omega (arith, small)));
}

by_number : (is_anchor : Bool) (number : ℕ) → number < 256 → IsName (if is_anchor then codes "ta" else codes "c" ++ decimal number)
by_number true number small = anchor_named
by_number false number small = numbered number small

pub is_named : (number : ℕ) → number < 256 → IsName (name_of number)
is_named number small = by_number (number == 0) number small

pub not_both : false ≡ true → ⊥
not_both e = cc
