-- Things by rising URI, each URI once: what a sort leaves, and what is found among them.
use Rattle.std.proofs.Common.{◌≡◌, ◌≢◌, ℕ, ◌+◌, ◌<◌, ◌≤◌, ◌⊎◌, inl, inr, zero, suc}
use Rattle.std.proofs.Common.{Bool, true, false, cond, Option, None, Some, List, [], ◌∷◌, length}
use Rattle.std.proofs.Common.{get_or, map, refl, sym, ap, subst, ◌∙◌, arith}
use Rattle.std.specs.Prelude.{Ok, Err}
use Rattle.std.specs.Bool.{Decides}
use Rattle.std.specs.Fn.{Called, ComparesAs}
use Rattle.std.specs.Cmp.{IsStrictWeakOrder}
use Rattle.std.specs.List.{AllByRecursion, AllPairs, Contains}
use Rattle.std.specs.List.Sorted.{IsSortedBy, IsStrictlySortedBy, IsPermutation}
use Rattle.std.specs.List.Sorted.{IsBinarySearchResult}
use Rattle.std.specs.Ordering.{is_lt, on, ordering_reverse}
use Rattle.std.specs.declared.cmp.Ordering.{Ordering}
use Rattle.std.specs.declared.cmp.Ordering.TheVariants.{Less, Equal, Greater}
use denote.Param.Members.{Mut}
use denote.Ref.{Bor}
use Rattle.std.proofs.lemmas.Bool.{cases_lt}
use Rattle.std.proofs.lemmas.Bool.Decides.{same_from_decides, Decides-like}
use Rattle.std.proofs.lemmas.Cmp.{tied_itself}
use Rattle.std.proofs.lemmas.Fn.{always_returns_same}
use Rattle.std.proofs.lemmas.List.{get_or-map, length-map}
use Rattle.std.proofs.lemmas.List.Sorted.{sorted_far, ranks_by, searchable_from_sorted}
use Rattle.std.proofs.lemmas.List.Sorted.{IsPermutation-map, IsPermutation-sym, Contains-permutation}
use Rattle.std.proofs.lemmas.Map.Keys.{Less-from_sorted, IsDistinct-IsPermutation}
use Rattle.std.proofs.lemmas.Map.Made.{AllPairs-from_IsDistinct, IsDistinct-from_AllPairs}
use Rattle.pub_set.specs.Objects.{uri_cmp, is_same, found_at, Rise}
use Rattle.pub_set.specs.laws.UriLaws.{uri_total, tied_is, same_is, same_self}

-- ---- two URIs

pub same-decides : (a b : List ℕ) → Decides (is_same a b) (a ≡ b)
same-decides a b = (same_is a b, λ e. subst (λ (c : List ℕ). is_same a c ≡ true) e (same_self a))

same-flips : (a b : List ℕ) → is_same a b ≡ is_same b a
same-flips a b =
    same_from_decides (is_same a b) (is_same b a) (same-decides a b)
    (Decides-like (is_same b a) (λ (e : b ≡ a). sym e) (λ (e : a ≡ b). sym e) (same-decides b a))

pub other-is : (a b : List ℕ) → a ≢ b → is_same a b ≡ false
other-is a b apart = by (is_same a b) refl
  where
    by : (t : Bool) → is_same a b ≡ t → is_same a b ≡ false
    by true e = absurd (apart (same_is a b e))
    by false e = e

below-by : (a b : List ℕ) → is_lt (uri_cmp b a) ≡ false → a ≢ b → uri_cmp a b ≡ Less
below-by a b above apart = by (uri_cmp a b) refl
  where
    by : (o : Ordering) → uri_cmp a b ≡ o → uri_cmp a b ≡ Less
    by Less e = e
    by Equal e = absurd (apart (tied_is a b e))
    by Greater e =
        let yes : is_lt (uri_cmp b a) ≡ true = ap is_lt (uri_total.antisymm b a ∙ ap ordering_reverse e) in
        absurd cc

-- ---- URIs that are apart

pub apart-permuted : {X : Type 0} (key : X → List ℕ) (xs ys : List X)
    → IsPermutation xs ys → AllPairs (λ a b. a ≢ b) (map key xs) → AllPairs (λ a b. a ≢ b) (map key ys)
apart-permuted key xs ys moved apart =
    AllPairs-from_IsDistinct same-decides (map key ys)
    (IsDistinct-IsPermutation is_same same-flips (map key xs) (map key ys)
    (IsPermutation-map key xs ys moved) (IsDistinct-from_AllPairs same-decides (map key xs) apart))

apart-at : {X : Type 0} (key : X → List ℕ) (xs : List X) (i j : ℕ) (d : X)
    → AllPairs (λ a b. a ≢ b) (map key xs) → i < j → j < length xs
    → key (get_or xs i d) ≢ key (get_or xs j d)
apart-at key xs i j d apart less inside =
    let long : length (map key xs) ≡ length xs = length-map xs key in
    let first : get_or (map key xs) i (key d) ≡ key (get_or xs i d) = get_or-map key xs i d (key d) (omega arith) in
    let second : get_or (map key xs) j (key d) ≡ key (get_or xs j d) = get_or-map key xs j d (key d) inside in
    let other : get_or (map key xs) i (key d) ≢ get_or (map key xs) j (key d) = apart i j (key d) less (omega arith) in
    λ e. other (first ∙ (e ∙ sym second))

pub apart-from-rise : {X : Type 0} (key : X → List ℕ) (xs : List X)
    → Rise key xs → AllPairs (λ a b. a ≢ b) (map key xs)
apart-from-rise {X} key [] up i j d less inside = absurd (omega arith)
apart-from-rise {X} key (x ∷ xs) up i j d less inside =
    let long : length (map key (x ∷ xs)) ≡ length (x ∷ xs) = length-map (x ∷ xs) key in
    let first : get_or (map key (x ∷ xs)) i d ≡ key (get_or (x ∷ xs) i x) = get_or-map key (x ∷ xs) i x d (omega arith) in
    let second : get_or (map key (x ∷ xs)) j d ≡ key (get_or (x ∷ xs) j x) = get_or-map key (x ∷ xs) j x d (omega arith) in
    let below : uri_cmp (key (get_or (x ∷ xs) i x)) (key (get_or (x ∷ xs) j x)) ≡ Less =
    Less-from_sorted (on key uri_cmp) (x ∷ xs) i j x up less (omega arith) in
    λ e.
    let same : key (get_or (x ∷ xs) i x) ≡ key (get_or (x ∷ xs) j x) = sym first ∙ (e ∙ second) in
    let tied : uri_cmp (key (get_or (x ∷ xs) i x)) (key (get_or (x ∷ xs) j x)) ≡ Equal =
    subst (λ (u : List ℕ). uri_cmp (key (get_or (x ∷ xs) i x)) u ≡ Equal) same
    (tied_itself uri_total (key (get_or (x ∷ xs) i x))) in
    cc

-- ---- what a sort leaves

all-by : {X : Type 0} (P : X → Type 0) (xs : List X)
    → ((k : ℕ) (d : X) → k < length xs → P (get_or xs k d)) → AllByRecursion P xs
all-by P [] all = tt
all-by P (x ∷ xs) all = (all 0 x (omega arith), all-by P xs (λ k d less. all (suc k) d (omega arith)))

rise-by : {X : Type 0} (key : X → List ℕ) (xs : List X)
    → ((i j : ℕ) (d : X) → i < j → j < length xs
    → uri_cmp (key (get_or xs i d)) (key (get_or xs j d)) ≡ Less)
    → Rise key xs
unfolding IsStrictlySortedBy
rise-by key [] pairs = tt
rise-by key (x ∷ xs) pairs = (
  all-by (λ y. uri_cmp (key x) (key y) ≡ Less) xs
      (λ k d less. pairs 0 (suc k) d (omega arith) (omega arith)),
  rise-by key xs (λ i j d less inside. pairs (suc i) (suc j) d (omega arith) (omega arith)),
)

-- A list that is sorted by URIs that are apart rises.
pub rise-sorted : {X : Type 0} (key : X → List ℕ) (xs ys : List X)
    → AllPairs (λ a b. a ≢ b) (map key xs) → IsPermutation xs ys
    → IsSortedBy (λ a b. is_lt (uri_cmp (key a) (key b))) ys → Rise key ys
rise-sorted {X} key xs ys apart moved up =
    rise-by key ys (λ i j d less inside.
    below-by (key (get_or ys i d)) (key (get_or ys j d))
    (sorted_far (λ (a b : X). is_lt (uri_cmp (key a) (key b))) (ranks_by uri_total key) ys up i j d (omega arith) inside)
    (apart-at key ys i j d (apart-permuted key xs ys moved apart) less inside))

-- ---- what is found at a URI

-- What is found is told of a thing with that URI.
pub found-some : {X V : Type 0} (key : X → List ℕ) (told : X → V) (xs : List X) (uri : List ℕ) (v : V)
    → found_at key told xs uri ≡ Some v
    → (x : X) × Contains xs x × (key x ≡ uri) × (told x ≡ v)
found-some key told [] uri v e = absurd cc
found-some {X} {V} key told (x ∷ xs) uri v e =
    by (is_same (key x) uri) refl (found-some key told xs uri v) e
  where
    by : (b : Bool) → is_same (key x) uri ≡ b
        → (found_at key told xs uri ≡ Some v → (y : X) × Contains xs y × (key y ≡ uri) × (told y ≡ v))
        → cond b (Some (told x)) (found_at key told xs uri) ≡ Some v
        → (y : X) × Contains (x ∷ xs) y × (key y ≡ uri) × (told y ≡ v)
    by true same rest e =
        let is : told x ≡ v = cc in
        (x, (0, omega arith, refl), same_is (key x) uri same, is)
    by false other rest e =
        let r = rest e in
        let position : suc r.1.0 < length (x ∷ xs) = omega (arith, r.1.1) in
        (r.0, (suc r.1.0, position, r.1.2), r.2, r.3)

-- Where no URI is that one, nothing is found.
pub found-none : {X V : Type 0} (key : X → List ℕ) (told : X → V) (xs : List X) (uri : List ℕ)
    → ((k : ℕ) (d : X) → k < length xs → key (get_or xs k d) ≢ uri)
    → found_at key told xs uri ≡ None
found-none key told [] uri none = refl
found-none {X} {V} key told (x ∷ xs) uri none =
    let other : is_same (key x) uri ≡ false = other-is (key x) uri (none 0 x (omega arith)) in
    ap (λ (b : Bool). cond b (Some (told x)) (found_at key told xs uri)) other
    ∙ found-none key told xs uri (λ k d less. none (suc k) d (omega arith))

-- Where URIs are apart, each thing is found at its own.
pub found-position : {X V : Type 0} (key : X → List ℕ) (told : X → V) (xs : List X) (k : ℕ) (d : X)
    → AllPairs (λ a b. a ≢ b) (map key xs) → k < length xs
    → found_at key told xs (key (get_or xs k d)) ≡ Some (told (get_or xs k d))
found-position key told [] k d apart inside = absurd (omega arith)
found-position {X} {V} key told (x ∷ xs) zero d apart inside =
    ap (λ (b : Bool). cond b (Some (told x)) (found_at key told xs (key x))) (same_self (key x))
found-position {X} {V} key told (x ∷ xs) (suc k) d apart inside =
    let y : X = get_or xs k d in
    let other : is_same (key x) (key y) ≡ false =
    other-is (key x) (key y) (apart-at key (x ∷ xs) 0 (suc k) d apart (omega arith) inside) in
    ap (λ (b : Bool). cond b (Some (told x)) (found_at key told xs (key y))) other
    ∙ found-position key told xs k d
    (λ i j e less within. apart (suc i) (suc j) e (omega arith) (omega arith)) (omega arith)

pub found-there : {X V : Type 0} (key : X → List ℕ) (told : X → V) (xs : List X) (x : X)
    → AllPairs (λ a b. a ≢ b) (map key xs) → Contains xs x
    → found_at key told xs (key x) ≡ Some (told x)
found-there {X} {V} key told xs x apart there =
    subst (λ (y : X). found_at key told xs (key y) ≡ Some (told y)) there.2
    (found-position key told xs there.0 x apart there.1)

-- The order of things doesn't matter where their URIs are apart.
pub found-permuted : {X V : Type 0} (key : X → List ℕ) (told : X → V) (xs ys : List X) (uri : List ℕ)
    → IsPermutation xs ys → AllPairs (λ a b. a ≢ b) (map key xs)
    → found_at key told ys uri ≡ found_at key told xs uri
found-permuted {X} {V} key told xs ys uri moved apart = by (found_at key told xs uri) refl
  where
    after : (o : Option V) → found_at key told ys uri ≡ o → found_at key told xs uri ≡ None
        → found_at key told ys uri ≡ None
    after None there none = there
    after (Some v) there none =
        let r = found-some key told ys uri v there in
        let back : found_at key told xs (key r.0) ≡ Some (told r.0) =
        found-there key told xs r.0 apart (Contains-permutation ys xs r.0 (IsPermutation-sym xs ys moved) r.1) in
        let here : found_at key told xs uri ≡ Some (told r.0) =
        subst (λ (u : List ℕ). found_at key told xs u ≡ Some (told r.0)) r.2 back in
        absurd cc

    by : (o : Option V) → found_at key told xs uri ≡ o → found_at key told ys uri ≡ found_at key told xs uri
    by None e = after (found_at key told ys uri) refl e ∙ sym e
    by (Some v) e =
        let r = found-some key told xs uri v e in
        let there : found_at key told ys (key r.0) ≡ Some (told r.0) =
        found-there key told ys r.0 (apart-permuted key xs ys moved apart) (Contains-permutation xs ys r.0 moved r.1) in
        subst (λ (u : List ℕ). found_at key told ys u ≡ Some (told r.0)) r.2 there
        ∙ (ap (λ (w : V). Some w) r.3 ∙ sym e)

-- ---- what a binary search answers

pub search-found : {X V : Type 0} (key : X → List ℕ) (told : X → V) (xs : List X) (uri : List ℕ)
    (i : ℕ) (d : X)
    → Rise key xs → i < length xs
    → IsBinarySearchResult (λ x. uri_cmp (key x) uri) xs (Ok i)
    → Some (told (get_or xs i d)) ≡ found_at key told xs uri
search-found {X} {V} key told xs uri i d up inside at =
    let same : key (get_or xs i d) ≡ uri = tied_is (key (get_or xs i d)) uri (at d) in
    sym (subst (λ (u : List ℕ). found_at key told xs u ≡ Some (told (get_or xs i d))) same
    (found-position key told xs i d (apart-from-rise key xs up) inside))

pub sorted-from-rise : {X : Type 0} (key : X → List ℕ) (xs : List X)
    → Rise key xs → IsSortedBy (λ a b. is_lt (uri_cmp (key a) (key b))) xs
sorted-from-rise key xs up k d low high =
    let below : uri_cmp (key (get_or xs k d)) (key (get_or xs (k + 1) d)) ≡ Less =
    Less-from_sorted (on key uri_cmp) xs k (k + 1) d up (omega arith) high in
    ap is_lt (uri_total.antisymm (key (get_or xs (k + 1) d)) (key (get_or xs k d)) ∙ ap ordering_reverse below)

pub search-missing : {X V : Type 0} (key : X → List ℕ) (told : X → V) (xs : List X) (uri : List ℕ) (i : ℕ)
    → Rise key xs → IsBinarySearchResult (λ x. uri_cmp (key x) uri) xs (Err i)
    → None ≡ found_at key told xs uri
search-missing {X} {V} key told xs uri i up at =
    let parts = at (searchable_from_sorted uri_total key xs uri (sorted-from-rise key xs up)) in
    sym (found-none key told xs uri (λ k d inside. apart k d inside (cases_lt k i) parts.0 parts.1))
  where
    tied : (a : List ℕ) → a ≡ uri → uri_cmp a uri ≡ Equal
    tied a e = subst (λ (u : List ℕ). uri_cmp a u ≡ Equal) e (tied_itself uri_total a)

    apart : (k : ℕ) (d : X) → k < length xs → (k < i) ⊎ (i ≤ k)
        → ((k : ℕ) (d : X) → 0 ≤ k → k < i → uri_cmp (key (get_or xs k d)) uri ≡ Less)
        → ((k : ℕ) (d : X) → i ≤ k → k < length xs → uri_cmp (key (get_or xs k d)) uri ≡ Greater)
        → key (get_or xs k d) ≢ uri
    apart k d inside (inl low) below above e =
        let less = below k d (omega arith) low in
        let equal = tied (key (get_or xs k d)) e in
        cc
    apart k d inside (inr high) below above e =
        let more = above k d high inside in
        let equal = tied (key (get_or xs k d)) e in
        cc

-- ---- what a sort by URIs asks

pub by-uri : {X : Type 0} (key : X → List ℕ)
    → IsStrictWeakOrder (λ (a b : X). is_lt (uri_cmp (key a) (key b)))
by-uri key = ranks_by uri_total key

-- A closure that compares URIs compares by them.
pub compares-uris : {X F : Type 0} {g : Mut F (Bor X × (Bor X × Unit {0})) Ordering} {f : F}
    (key : X → List ℕ)
    → ((a : Bor X × (Bor X × Unit {0})) (r : Ordering) (f' : F) → Called g f a r f'
    → (r ≡ uri_cmp (key a.0.now) (key a.1.0.now)) × (f' ≡ f))
    → ComparesAs g (λ a b. is_lt (uri_cmp (key a) (key b))) f
compares-uris {X} {F} {g} {f} key says =
    always_returns_same g (λ a r. is_lt r ≡ is_lt (uri_cmp (key a.0.now) (key a.1.0.now))) f
    (λ a r f' called. let q = says a r f' called in (ap is_lt q.0, q.1))

-- ---- the same things, seen another way

all-map : {X Y : Type 0} (view : X → Y) (P : Y → Type 0) (xs : List X)
    → AllByRecursion (λ x. P (view x)) xs → AllByRecursion P (map view xs)
all-map view P [] all = tt
all-map view P (x ∷ xs) all = (all.0, all-map view P xs all.1)

pub rise-map : {X Y : Type 0} (view : X → Y) (key : Y → List ℕ) (xs : List X)
    → Rise (λ x. key (view x)) xs → Rise key (map view xs)
unfolding IsStrictlySortedBy
rise-map view key [] up = tt
rise-map {X} {Y} view key (x ∷ xs) up = (
  all-map view (λ (y : Y). uri_cmp (key (view x)) (key y) ≡ Less) xs up.0,
  rise-map view key xs up.1,
)
