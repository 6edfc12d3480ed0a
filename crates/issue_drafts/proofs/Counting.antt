-- How many come before one of a list by rising URI, and numbers of which one grows.
use Rattle.std.proofs.Common.{◌≡◌, ◌≢◌, ℕ, ◌+◌, ◌<◌, zero, suc, Bool, true, false, ◌&&◌, cond, Some, List, [], ◌∷◌, length, get_or, take, map, set, count_by, refl, sym, ap, ◌∙◌, arith}
use Rattle.std.specs.List.{AllByRecursion, slice_get}
use Rattle.std.specs.List.Sorted.{IsStrictlySortedBy}
use Rattle.std.specs.Cmp.Lexicographic.{nat_list_cmp_total}
use Rattle.std.specs.Ordering.{is_lt, ordering_reverse}
use Rattle.std.specs.declared.cmp.Ordering.TheVariants.{Less}
use Rattle.std.proofs.lemmas.Cmp.{tied_itself}
use Rattle.std.proofs.lemmas.List.{get_or-map}
use Rattle.std.proofs.lemmas.List.Sums.{sum_by-cons, count_by_more_yes, count_by_more_no}
use Rattle.std.proofs.lemmas.Option.{slice_get_within, get_or_from_slice_get}
use Rattle.pub_set.specs.Objects.{uri_cmp, Rise}

all-at : {X : Type 0} (P : X → Type 0) (xs : List X) (i : ℕ) (d : X) → AllByRecursion P xs → i < length xs → P (get_or xs i d)
all-at P [] i d all lt = absurd (omega arith)
all-at P (x ∷ xs) zero d all lt = all.0
all-at P (x ∷ xs) (suc i) d all lt = all-at P xs i d all.1 (omega arith)

both-no : (b c : Bool) → c ≡ false → (b && c) ≡ false
both-no true c e = e
both-no false c e = refl

both-yes : (b c : Bool) → c ≡ true → (b && c) ≡ b
both-yes true c e = e
both-yes false c e = refl

not-above : (a b : List ℕ) → uri_cmp b a ≡ Less → is_lt (uri_cmp a b) ≡ false
not-above a b h = ap is_lt (nat_list_cmp_total.antisymm a b ∙ ap ordering_reverse h)

not-itself : (a : List ℕ) → is_lt (uri_cmp a a) ≡ false
not-itself a = ap is_lt (tied_itself nat_list_cmp_total a)

none-counted : {X : Type 0} (p : X → Bool) (uri : X → List ℕ) (at : List ℕ) (xs : List X)
    → AllByRecursion (λ y. uri_cmp at (uri y) ≡ Less) xs → count_by (λ e. p e && is_lt (uri_cmp (uri e) at)) xs ≡ 0
none-counted p uri at [] all = refl
none-counted p uri at (x ∷ xs) all =
    rw (both-no (p x) (is_lt (uri_cmp (uri x) at)) (not-above (uri x) at all.0)) (none-counted p uri at xs all.1)

-- Those below the URI of the one at a position are those before it.
pub before-position : {X : Type 0} (p : X → Bool) (uri : X → List ℕ) (xs : List X) (i : ℕ) (d : X) → Rise uri xs → i < length xs
    → count_by (λ e. p e && is_lt (uri_cmp (uri e) (uri (get_or xs i d)))) xs ≡ count_by p (take i xs)
unfolding IsStrictlySortedBy
before-position p uri [] i d up lt = absurd (omega arith)
before-position p uri (x ∷ xs) zero d up lt =
    rw (both-no (p x) (is_lt (uri_cmp (uri x) (uri x))) (not-itself (uri x))) (none-counted p uri (uri x) xs up.0)
before-position {X} p uri (x ∷ xs) (suc i) d up lt =
    let at = uri (get_or xs i d) in
    let here : is_lt (uri_cmp (uri x) at) ≡ true = ap is_lt
    (all-at (λ (y : X). uri_cmp (uri x) (uri y) ≡ Less) xs i d up.0 (omega arith)) in
    sum_by-cons (λ (e : X). cond (p e && is_lt (uri_cmp (uri e) at)) 1 0) x xs
    ∙ (ap (λ (b : Bool). cond b 1 0 + count_by (λ e. p e && is_lt (uri_cmp (uri e) at)) xs)
    (both-yes (p x) (is_lt (uri_cmp (uri x) at)) here)
    ∙ (ap (λ (n : ℕ). cond (p x) 1 0 + n) (before-position p uri xs i d up.1 (omega arith))
    ∙ sym (sum_by-cons (λ (e : X). cond (p e) 1 0) x (take i xs))))

cons-both : {m n : ℕ} {xs ys : List ℕ} → m ≡ n → xs ≡ ys → m ∷ xs ≡ n ∷ ys
cons-both e f = cc

-- A list of numbers in which one is one more.
same-map : {A : Type 0} (f g : A → ℕ) (rows : List A) (d : A)
    → ((k : ℕ) → k < length rows → g (get_or rows k d) ≡ f (get_or rows k d)) → map f rows ≡ map g rows
same-map f g [] d there = refl
same-map f g (r ∷ rows) d there =
    cons-both (sym (there 0 (omega arith))) (same-map f g rows d (λ k lt. there (suc k) (omega arith)))

pub set-one-more : {A : Type 0} (f g : A → ℕ) (rows : List A) (position : ℕ) (d : A) → position < length rows
    → g (get_or rows position d) ≡ f (get_or rows position d) + 1
    → ((k : ℕ) → k < length rows → k ≢ position → g (get_or rows k d) ≡ f (get_or rows k d))
    → set (map f rows) position (get_or (map f rows) position 0 + 1) ≡ map g rows
set-one-more f g [] position d lt here there = absurd (omega arith)
set-one-more f g (r ∷ rows) zero d lt here there =
    cons-both (sym here) (same-map f g rows d (λ k lt. there (suc k) (omega arith) (omega arith)))
set-one-more f g (r ∷ rows) (suc position) d lt here there =
    cons-both (sym (there 0 (omega arith) (omega arith)))
    (set-one-more f g rows position d (omega arith) here (λ k less other. there (suc k) (omega arith) (omega arith)))

-- ---- numbers that count on

-- A key's first number, and one more for each of its things.
abbrev pub behind : {K D : Type 0} → (K → ℕ) → (K → D → Bool) → List D → K → ℕ
behind first owns all key = first key + count_by (owns key) all

-- The number of the key at a position.
pub number-at : {K : Type 0} (f : K → ℕ) (keys : List K) (position : ℕ) (key : K) → slice_get keys position ≡ Some key
    → get_or (map f keys) position 0 ≡ f key
number-at f keys position key at =
    get_or-map f keys position key 0 (slice_get_within keys position key at) ∙ ap f (get_or_from_slice_get keys position key key at)

-- The number of the thing at a position is the next one of its key, of things before it.
pub next-number : {K D : Type 0} (first : K → ℕ) (owns : K → D → Bool) (uri : D → List ℕ)
    (all : List D) (keys : List K) (i position : ℕ) (thing : D) (key : K)
    → Rise uri all → i < length all → get_or all i thing ≡ thing → slice_get keys position ≡ Some key
    → get_or (map (behind first owns (take i all)) keys) position 0
    ≡ first key + count_by (λ d. owns key d && is_lt (uri_cmp (uri d) (uri thing))) all
next-number {K} {D} first owns uri all keys i position thing key up lt is at =
    number-at (behind first owns (take i all)) keys position key at
    ∙ ap (λ (n : ℕ). first key + n)
    (sym (before-position (owns key) uri all i thing up lt)
    ∙ ap (λ (x : D). count_by (λ d. owns key d && is_lt (uri_cmp (uri d) (uri x))) all) is)

-- Behind a thing that a key owns, the number of that key is one more.
pub one-owned : {K D : Type 0} (first : K → ℕ) (owns : K → D → Bool)
    (all : List D) (keys : List K) (i position : ℕ) (thing : D) (key : K)
    → i < length all → get_or all i thing ≡ thing → slice_get keys position ≡ Some key → owns key thing ≡ true
    → ((k : ℕ) → k < length keys → k ≢ position → owns (get_or keys k key) thing ≡ false)
    → set (map (behind first owns (take i all)) keys) position (get_or (map (behind first owns (take i all)) keys) position 0 + 1)
    ≡ map (behind first owns (take (i + 1) all)) keys
one-owned {K} {D} first owns all keys i position thing key lt is at mine others =
    set-one-more (behind first owns (take i all)) (behind first owns (take (i + 1) all)) keys position key
    (slice_get_within keys position key at)
    (let one = count_by_more_yes (owns (get_or keys position key)) all i thing lt
    (ap (owns (get_or keys position key)) is ∙
    (ap (λ (r : K). owns r thing) (get_or_from_slice_get keys position key key at) ∙ mine)) in omega (arith, one))
    (λ k low other. ap (λ (n : ℕ). first (get_or keys k key) + n)
    (count_by_more_no (owns (get_or keys k key)) all i thing lt (ap (owns (get_or keys k key)) is ∙ others k low other)))

-- Behind a thing that no key owns the numbers are the same.
pub none-owned : {K D : Type 0} (first : K → ℕ) (owns : K → D → Bool) (all : List D) (keys : List K) (i : ℕ) (thing : D) (key : K)
    → i < length all → get_or all i thing ≡ thing → ((k : K) → owns k thing ≡ false)
    → map (behind first owns (take i all)) keys ≡ map (behind first owns (take (i + 1) all)) keys
none-owned {K} {D} first owns all keys i thing key lt is none =
    same-map (behind first owns (take i all)) (behind first owns (take (i + 1) all)) keys key
    (λ k low. ap (λ (n : ℕ). first (get_or keys k key) + n)
    (count_by_more_no (owns (get_or keys k key)) all i thing lt (ap (owns (get_or keys k key)) is ∙ none (get_or keys k key))))
