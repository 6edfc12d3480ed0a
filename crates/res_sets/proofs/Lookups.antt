-- What a look at a place of a list says of the whole.
use Rattle.std.proofs.Common.{◌≡◌, ℕ, ◌+◌, ◌<◌, ◌≤◌, ◌⊎◌, inl, inr, true, false, nat_lt, IsTrue, List, [], ◌∷◌, zero, suc, length, get_or, drop, drop-cons, add-one, refl, ap, sym, subst, arith}
use Rattle.std.specs.List.{AllWithin}
use Rattle.std.specs.List.Sorted.{IsPartitionedBy}
use Rattle.std.proofs.lemmas.Bool.Decides.{nat_tests}
use Rattle.std.proofs.lemmas.Bool.{false≢true}
use Rattle.std.proofs.lemmas.List.{drop_all}
use Rattle.std.proofs.lemmas.List.Folds.{list_any_at}
use Rattle.res_sets.specs.declared.numbers.Range.{Range}
use Rattle.res_sets.specs.Numbers.{spans, any_spans, RisesFrom}
use Rattle.res_sets.proofs.Lists.{RisesFrom-weaker, RisesFrom-tail, RisesFrom-at_head, RisesFrom-none, any_spans-below, any_spans-head}

-- behind where the ranges begin, each range ends
low_le_last : (low : ℕ) (xs : List Range) (d : Range) (j : ℕ) → RisesFrom low xs → j < length xs → low ≤ (get_or xs j d).last
low_le_last low [] d j rises inside = absurd (omega arith)
low_le_last low (r ∷ rs) d zero rises inside =
    let ordered : r.first ≤ r.last = r.ordered in omega (arith, rises.0)
low_le_last low (r ∷ rs) d (suc j) rises inside =
    let ordered : r.first ≤ r.last = r.ordered in
    let rest = low_le_last (r.last + 2) rs d j rises.1 (omega arith) in
    omega (arith, rest, rises.0)

-- later ranges end later
last_le : (low : ℕ) (xs : List Range) (d : Range) (i j : ℕ) → RisesFrom low xs → i ≤ j → j < length xs → (get_or xs i d).last ≤ (get_or xs j d).last
last_le low [] d i j rises le inside = absurd (omega arith)
last_le low (r ∷ rs) d zero zero rises le inside = omega arith
last_le low (r ∷ rs) d zero (suc j) rises le inside =
    let rest = low_le_last (r.last + 2) rs d j rises.1 (omega arith) in omega (arith, rest)
last_le low (r ∷ rs) d (suc i) zero rises le inside = absurd (omega arith)
last_le low (r ∷ rs) d (suc i) (suc j) rises le inside = last_le (r.last + 2) rs d i j rises.1 (omega arith) (omega arith)

pub IsPartitionedBy-last : (low : ℕ) (xs : List Range) (n : ℕ) → RisesFrom low xs → IsPartitionedBy (λ (r : Range). nat_lt r.last n) xs
IsPartitionedBy-last low xs n rises i j d le inside ends =
    let later = last_le low xs d i j rises le inside in
    grind (arith, nat_tests, later, ends)

-- a number above the ranges before a place and below the range there is in none
pub none_at : (low : ℕ) (xs : List Range) (n i : ℕ) → RisesFrom low xs
    → AllWithin (λ (r : Range). r.last < n) xs 0 i → ((d : Range) → i < length xs → n < (get_or xs i d).first)
    → any_spans xs n ≡ false
none_at low [] n i rises before here = refl
none_at low (r ∷ rs) n zero rises before here =
    let head : n < r.first = here r (omega arith) in
    any_spans-below r.first (r ∷ rs) n (omega arith, rises.1) head
none_at low (r ∷ rs) n (suc i) rises before here =
    let head : r.last < n = before 0 r (omega arith) (omega arith) in
    let rest = none_at (r.last + 2) rs n i rises.1 (λ k d low below. before (suc k) d (omega arith) (omega arith)) (λ d inside. here d (omega arith)) in
    grind (arith, nat_tests, rest, head)

-- the range at a place, of which all before end below the number
pub found_at : (xs : List Range) (n i : ℕ) (range : Range) → i < length xs → range ≡ get_or xs i range → range.first ≤ n
    → AllWithin (λ (r : Range). n ≤ r.last) xs i (length xs) → spans range n ≡ true
found_at xs n i range inside is first behind =
    let last : n ≤ (get_or xs i range).last = behind i range (omega arith) inside in
    let e : range.last ≡ (get_or xs i range).last = ap (λ (r : Range). r.last) is in
    grind (arith, nat_tests, last, e)

-- the number behind the end of a range is left out
none_behind_at : (low : ℕ) (xs : List Range) (i : ℕ) (d : Range) → RisesFrom low xs → i < length xs → any_spans xs ((get_or xs i d).last + 1) ≡ false
none_behind_at low [] i d rises inside = refl
none_behind_at low (r ∷ rs) zero d rises inside =
    let none = any_spans-below (r.last + 2) rs (r.last + 1) rises.1 (omega arith) in
    grind (arith, nat_tests, none)
none_behind_at low (r ∷ rs) (suc i) d rises inside =
    let later = low_le_last (r.last + 2) rs d i rises.1 (omega arith) in
    let rest = none_behind_at (r.last + 2) rs i d rises.1 (omega arith) in
    grind (arith, nat_tests, rest, later)

pub none_behind : (xs : List Range) (i : ℕ) (range : Range) → RisesFrom 0 xs → i < length xs → range ≡ get_or xs i range → any_spans xs (range.last + 1) ≡ false
none_behind xs i range rises inside is =
    subst (λ (r : Range). any_spans xs (r.last + 1) ≡ false) (sym is) (none_behind_at 0 xs i range rises inside)

-- each number of a range at some place is in the list
pub held_at : (xs : List Range) (i : ℕ) (range : Range) (m : ℕ) → i < length xs → range ≡ get_or xs i range → spans range m ≡ true → any_spans xs m ≡ true
held_at xs i range m inside is spanned =
    list_any_at (λ (r : Range). spans r m) xs i range inside (subst (λ (r : Range). spans r m ≡ true) is spanned)

-- Each number of the one list is in the other.
abbrev pub Inside : List Range → List Range → Type 0
Inside a b = (n : ℕ) → IsTrue (any_spans a n) → IsTrue (any_spans b n)

-- the answer for the two whole lists is that for what is left of them
pub record Comparing (xs ys a b : List Range) : Type 0 where
  pub a_rises : RisesFrom 0 a
  pub b_rises : RisesFrom 0 b
  pub to_rest : Inside xs ys → Inside a b
  pub from_rest : Inside a b → Inside xs ys

pub Comparing-past : (xs ys a b rest others : List Range) (r s : Range) → a ≡ r ∷ rest → b ≡ s ∷ others → s.last < r.first
    → Comparing xs ys a b → Comparing xs ys a others
Comparing-past xs ys a b rest others r s a_is b_is past so_far =
    let tail = RisesFrom-tail 0 a rest r a_is so_far.a_rises in
    let tail_b = RisesFrom-tail 0 b others s b_is so_far.b_rises in
    let ordered : r.first ≤ r.last = r.ordered in
    record {
      a_rises = so_far.a_rises;
      b_rises = RisesFrom-weaker (s.last + 2) 0 others (omega arith) tail_b;
      to_rest = λ whole n in_a.
          let in_b = so_far.to_rest whole n in_a in
          let head = any_spans-head a rest r n a_is in
          let head_b = any_spans-head b others s n b_is in
          let none = any_spans-below (r.last + 2) rest n tail in
          grind (arith, nat_tests, in_b, head, head_b, none);
      from_rest = λ left. so_far.from_rest (λ n in_a.
          let in_others = left n in_a in
          let head_b = any_spans-head b others s n b_is in
          grind (arith, nat_tests, in_others, head_b));
    }

pub Comparing-covered : (xs ys a b rest others : List Range) (r s : Range) → a ≡ r ∷ rest → b ≡ s ∷ others → s.first ≤ r.first → r.last ≤ s.last
    → Comparing xs ys a b → Comparing xs ys rest b
Comparing-covered xs ys a b rest others r s a_is b_is first last so_far =
    let tail = RisesFrom-tail 0 a rest r a_is so_far.a_rises in
    record {
      a_rises = RisesFrom-weaker (r.last + 2) 0 rest (omega arith) tail;
      b_rises = so_far.b_rises;
      to_rest = λ whole n in_rest.
          let head = any_spans-head a rest r n a_is in
          so_far.to_rest whole n (grind (arith, nat_tests, head, in_rest));
      from_rest = λ left. so_far.from_rest (λ n in_a.
          let in_b = left n in
          let head = any_spans-head a rest r n a_is in
          let head_b = any_spans-head b others s n b_is in
          grind (arith, nat_tests, in_b, head, head_b, in_a));
    }

pub Comparing-none : (xs ys a b rest : List Range) (r : Range) → a ≡ r ∷ rest → length b ≡ 0 → Comparing xs ys a b → Inside xs ys → ⊥
Comparing-none xs ys a b rest r a_is none so_far whole =
    let head = any_spans-head a rest r r.first a_is in
    let ordered : r.first ≤ r.last = r.ordered in
    let in_b = so_far.to_rest whole r.first in
    let not_in_b = any_spans-below (r.first + 1) b r.first (RisesFrom-none (r.first + 1) b none) (omega arith) in
    grind (arith, nat_tests, in_b, head, not_in_b)

pub Comparing-outside : (xs ys a b rest others : List Range) (r s : Range) → a ≡ r ∷ rest → b ≡ s ∷ others → r.first ≤ s.last
    → (r.first < s.first) ⊎ (s.last < r.last) → Comparing xs ys a b → Inside xs ys → ⊥
Comparing-outside xs ys a b rest others r s a_is b_is touch (inl early) so_far whole =
    let head = any_spans-head a rest r r.first a_is in
    let ordered : r.first ≤ r.last = r.ordered in
    let in_b = so_far.to_rest whole r.first in
    let not_in_b = any_spans-below s.first b r.first (RisesFrom-at_head 0 s.first b others s b_is so_far.b_rises (omega arith)) early in
    grind (arith, nat_tests, in_b, head, not_in_b)
Comparing-outside xs ys a b rest others r s a_is b_is touch (inr late) so_far whole =
    let head = any_spans-head a rest r (s.last + 1) a_is in
    let head_b = any_spans-head b others s (s.last + 1) b_is in
    let in_b = so_far.to_rest whole (s.last + 1) in
    let not_in_others = any_spans-below (s.last + 2) others (s.last + 1) (RisesFrom-tail 0 b others s b_is so_far.b_rises) (omega arith) in
    grind (arith, nat_tests, in_b, head, head_b, not_in_others)

-- canonical from a number on, below an end
pub record Good (end low : ℕ) (xs : List Range) : Type 0 where
  pub rise : RisesFrom low xs
  pub within : (n : ℕ) → IsTrue (any_spans xs n) → n < end

-- the answer for the whole list is that for what is left of it
pub record Checking (end : ℕ) (xs : List Range) (low : ℕ) (rest : List Range) : Type 0 where
  pub to_rest : Good end 0 xs → Good end low rest
  pub from_rest : Good end low rest → Good end 0 xs

drop_at : (xs : List Range) (i : ℕ) (range : Range) → i < length xs → range ≡ get_or xs i range → drop i xs ≡ range ∷ drop (i + 1) xs
drop_at xs i range inside is = rw (add-one, drop-cons xs i range inside) (ap (λ (r : Range). r ∷ drop (suc i) xs) (sym is))

Good-head : (end low : ℕ) (r : Range) (rs : List Range) → Good end low (r ∷ rs) → (low ≤ r.first) × (r.last < end)
Good-head end low r rs good =
    let ordered : r.first ≤ r.last = r.ordered in
    let last = good.within r.last in
    (good.rise.0, grind (arith, nat_tests, last))

Good-tail : (end low : ℕ) (r : Range) (rs : List Range) → Good end low (r ∷ rs) → Good end (r.last + 2) rs
Good-tail end low r rs good = record {
  rise = good.rise.1;
  within = λ n has. let whole = good.within n in grind (arith, nat_tests, whole);
}

Good-cons : (end low : ℕ) (r : Range) (rs : List Range) → low ≤ r.first → r.last < end → Good end (r.last + 2) rs → Good end low (r ∷ rs)
Good-cons end low r rs first last good = record {
  rise = (first, good.rise);
  within = λ n has. let rest = good.within n in grind (arith, nat_tests, rest);
}

pub Checking-next : (end : ℕ) (xs : List Range) (low i : ℕ) (range : Range) → i < length xs → range ≡ get_or xs i range → low ≤ range.first → range.last < end
    → Checking end xs low (drop i xs) → Checking end xs (range.last + 2) (drop (i + 1) xs)
Checking-next end xs low i range inside is first last so_far =
    let split = drop_at xs i range inside is in
    record {
      to_rest = λ good. Good-tail end low range (drop (i + 1) xs) (subst (λ (x : List Range). Good end low x) split (so_far.to_rest good));
      from_rest = λ good. so_far.from_rest (subst (λ (x : List Range). Good end low x) (sym split) (Good-cons end low range (drop (i + 1) xs) first last good));
    }

pub Checking-head : (end : ℕ) (xs : List Range) (low i : ℕ) (range : Range) → i < length xs → range ≡ get_or xs i range
    → Checking end xs low (drop i xs) → Good end 0 xs → (low ≤ range.first) × (range.last < end)
Checking-head end xs low i range inside is so_far good =
    Good-head end low range (drop (i + 1) xs) (subst (λ (x : List Range). Good end low x) (drop_at xs i range inside is) (so_far.to_rest good))

pub Checking-start : (end : ℕ) (xs : List Range) → Checking end xs 0 xs
Checking-start end xs = record { to_rest = λ good. good; from_rest = λ good. good }

pub Checking-end : (end : ℕ) (xs : List Range) (low i : ℕ) → length xs ≤ i → Checking end xs low (drop i xs) → Good end 0 xs
Checking-end end xs low i past so_far =
    so_far.from_rest (subst (λ (x : List Range). Good end low x) (sym (drop_all i xs past)) (record { rise = tt; within = λ n has. absurd (false≢true has) }))
