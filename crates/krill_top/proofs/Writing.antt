-- Bytes that a sink is known to have taken.
use Rattle.std.proofs.Common.{◌≡◌, ℕ, ◌+◌, List, [], ◌++◌, take, drop, sym, ap, ◌∙◌, subst, append-nil}
use Rattle.std.specs.Prelude.{Option, None, Some}
use Rattle.std.specs.Io.KnownBytes.{Appends}
use Rattle.std.proofs.KnownBytes.{Appends-trans}
use Rattle.std.proofs.Math.Seq.{take-add}

-- a known front of a list was given, and n more of it
pub given_more : (a b c : Option (List ℕ)) (all rest : List ℕ) (at n : ℕ) → rest ≡ drop at all → Appends a b (take at all) → Appends b c (take n rest) → Appends a c (take (at + n) all)
given_more a b c all rest at n is p q =
    subst (Appends a c) (ap (λ (xs : List ℕ). take at all ++ take n xs) is ∙ sym (take-add at n all)) (Appends-trans a b c (take at all) (take n rest) p q)

-- and some more of it, by a call that failed
pub part_more : (a b c : Option (List ℕ)) (all rest : List ℕ) (at n : ℕ) → rest ≡ drop at all → Appends a b (take at all) → Appends b c (take n rest) → Appends a c (take at all ++ take n (drop at all))
part_more a b c all rest at n is p q =
    subst (Appends a c) (ap (λ (xs : List ℕ). take at all ++ take n xs) is) (Appends-trans a b c (take at all) (take n rest) p q)

-- nothing was given
pub none_given : (a : Option (List ℕ)) → Appends a a []
none_given None = tt
none_given (Some bytes) = sym (append-nil bytes)
