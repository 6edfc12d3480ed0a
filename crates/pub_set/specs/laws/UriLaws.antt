-- The order of URIs is total, and URIs that tie are one and the same.
use Rattle.std.proofs.Common.{◌≡◌, ℕ, true, false, ◌∙◌, ap, List}
use Rattle.std.specs.Cmp.{IsTotalOrder}
use Rattle.std.specs.Cmp.Lexicographic.{nat_list_cmp_total}
use Rattle.std.specs.FinMap.{slice_cmp-IsAntisymmetric, nat_cmp-IsAntisymmetric}
use Rattle.std.specs.Ordering.{is_eq, ordering_reverse}
use Rattle.std.specs.declared.cmp.Ordering.{Ordering}
use Rattle.std.specs.declared.cmp.Ordering.TheVariants.{Less, Equal, Greater}
use Rattle.std.proofs.lemmas.Cmp.{tied_itself}
use Rattle.pub_set.specs.Objects.{uri_cmp, is_same}

pub uri_total : IsTotalOrder uri_cmp
uri_total = nat_list_cmp_total

-- URIs that tie are equal.
pub tied_is : (a b : List ℕ) → uri_cmp a b ≡ Equal → a ≡ b
tied_is a b h = slice_cmp-IsAntisymmetric nat_cmp-IsAntisymmetric a b h

pub is_equal : (o : Ordering) → is_eq o ≡ true → o ≡ Equal
is_equal Less h = cc
is_equal Equal h = cc
is_equal Greater h = cc

pub same_is : (a b : List ℕ) → is_same a b ≡ true → a ≡ b
same_is a b h = tied_is a b (is_equal (uri_cmp a b) h)

pub same_self : (a : List ℕ) → is_same a a ≡ true
same_self a = ap is_eq (tied_itself uri_total a)

-- A URI below or above another is another.
pub other_below : (a b : List ℕ) → uri_cmp a b ≡ Less → is_same a b ≡ false
other_below a b h = ap is_eq h

pub other_above : (a b : List ℕ) → uri_cmp b a ≡ Less → is_same a b ≡ false
other_above a b h = ap is_eq (uri_total.antisymm a b ∙ ap ordering_reverse h)

pub below_from_above : (a b : List ℕ) → uri_cmp a b ≡ Greater → uri_cmp b a ≡ Less
below_from_above a b h = uri_total.antisymm b a ∙ ap ordering_reverse h
