-- The whole walk of a tree: each object is visited, and what is owed is yielded, each once.
use Rattle.std.proofs.Common.{◌≡◌, ◌≢◌, ◌⊎◌, ℕ, ◌+◌, ◌<◌, ◌≤◌, zero, suc, Bool, true, false, ◌||◌, List, [], ◌∷◌, ◌++◌, map, filter, AllPairs, IsPermutation, IsSome, Ok, refl, sym, ap, subst, ◌∙◌, arith, inl, inr}
use Rattle.std.specs.List.{flat_map, list_any}
use Rattle.std.specs.Str.{bytes_eq}
use Rattle.std.proofs.lemmas.Bool.{true≢false, false_from_ne_true, or_left, or_right, cases_lt}
use Rattle.std.proofs.lemmas.List.Sorted.{IsPermutation-trans, IsPermutation-sym, IsPermutation-cons, IsPermutation-map}
use Rattle.std.proofs.lemmas.Slice.Eq.{bytes_eq-Decides}
use Rattle.pub_set.specs.Changes.{Contents}
use Rattle.rp_rules.specs.Checks.{Checked}
use Rattle.rp_rules.specs.Authorities.{Authority, crl_uri_of, manifest_place}
use Rattle.rp_rules.specs.Certificates.{WalkContext, is_among, accepted_anchor}
use Rattle.rp_rules.specs.Walk.{Visit, Certificate, uris_of, visited, visit_below, walk}
use Rattle.rp_rules.specs.Yield.{Yielded, yielded_by, yield}
use Rattle.items.specs.laws.AmongLaws.{In, in-filter, filter-in, in-permuted, any-in}
use Rattle.items.specs.laws.PairLaws.{Twos, twos-pairs}
use Rattle.editions.proofs.WalkLemmas.Elements.{each-from}
use Rattle.editions.proofs.WalkLemmas.Moved.{flat-moved, flat-each, flat-flat, classes, filter-all, twos-moved}
use Rattle.editions.proofs.WalkLemmas.Forest.{order, within, reached}
use Rattle.editions.proofs.WalkLemmas.Points.{ArePoints}
use Rattle.editions.proofs.WalkLemmas.Walks.{AreApart, handed, below, under, visit_of, IsDeep, subtree, block, walk-below, by-keys}

-- ---- what the walk comes to

pub record IsWalked (s : WalkContext) (held : Contents) (owed : List Yielded) : Type 0 where
  pub visits : List Visit
  pub walked : walk s held ≡ Ok visits
  pub all : (uri : List ℕ) → IsSome (held uri) → is_among (visited visits) uri ≡ true
  pub yields : IsPermutation owed (yield visits)
  pub once : AllPairs (λ a b. a ≢ b) (yield visits)

either : (a b : Bool) → (a || b) ≡ true → (a ≡ true) ⊎ (b ≡ true)
either true b h = inl refl
either false b h = inr h

-- ---- a tree of points

-- The places of a key's point and of what it lists.
abbrev pub uris_at : {K O : Type 0} → (K → Authority) → (O → List ℕ) → (K → List K) → (K → List O)
    → K → List (List ℕ)
uris_at authority place below under k =
    manifest_place (authority k) ∷ crl_uri_of (authority k)
    ∷ (map (λ c. (authority c).uri) (below k) ++ map place (under k))

-- The points are those of a tree with that top: each key has a level, at most the 64th, and is below
-- just one of those a level higher. Each origin that is owed is under just one key. No two places are
-- the same, and nothing stands elsewhere.
pub record IsTree {K O : Type 0} (s : WalkContext) (held : Contents) (keys : List K) (owed : List O)
    (is_below : K → K → Bool) (is_under : K → O → Bool) (level : ℕ → K → Bool)
    (points : ArePoints s held keys owed is_below is_under) : Type 0 where
  pub top : K
  pub anchor : accepted_anchor s held ≡ Ok (points.authority top)
  -- levels
  pub first : filter (level 0) keys ≡ top ∷ []
  pub next : (n : ℕ) (c : K) → In c keys
      → list_any (λ k. is_below k c) (filter (level n) keys) ≡ level (suc n) c
  pub one_above : Twos (λ k l. (c : K) → In c keys → is_below k c ≡ true → is_below l c ≡ false) keys
  pub some : (k : K) → In k keys → (n : ℕ) × (n ≤ 64) × (level n k ≡ true)
  pub one_level : (k : K) → In k keys → (i j : ℕ) → level i k ≡ true → level j k ≡ true → i ≡ j
  -- origins
  pub one_issuer : Twos (λ k l. (o : O) → In o owed → is_under k o ≡ true → is_under l o ≡ false) keys
  pub issued : (o : O) → In o owed → (k : K) × In k keys × (is_under k o ≡ true)
  pub told_apart : Twos (λ a b. a ≢ b) (map points.told owed)
  -- places
  pub apart : AreApart ((points.authority top).uri
      ∷ flat_map (uris_at points.authority points.place (λ k. filter (is_below k) keys)
      (λ k. filter (is_under k) owed)) keys)
  pub places : (uri : List ℕ) → IsSome (held uri) → In uri ((points.authority top).uri
      ∷ flat_map (uris_at points.authority points.place (λ k. filter (is_below k) keys)
      (λ k. filter (is_under k) owed)) keys)

module _ {K O : Type 0} (s : WalkContext) (held : Contents) (keys : List K) (owed : List O)
    (is_below : K → K → Bool) (is_under : K → O → Bool) (level : ℕ → K → Bool)
    (points : ArePoints s held keys owed is_below is_under)
    (tree : IsTree s held keys owed is_below is_under level points) where
  abbrev under_of : K → List O
  under_of = under s held keys owed is_below is_under points

  abbrev below_of : K → List K
  below_of = below s held keys owed is_below is_under points

  abbrev blocks : K → List Visit
  blocks = block s held keys owed is_below is_under points

  abbrev sub : ℕ → K → List Visit
  sub = subtree s held keys owed is_below is_under points

  abbrev of_key : K → K ⊎ O → Visit
  of_key = visit_of s held keys owed is_below is_under points

  -- ---- levels

  deep : (n j : ℕ) → j + n ≡ 65 → (k : K) → In k keys → level j k ≡ true
      → IsDeep s held keys owed is_below is_under points n k
  deep zero j sum k at here =
      let w = tree.some k at in
      let same = tree.one_level k at w.0 j w.2 here in
      let low = w.1 in
      absurd (omega (arith, sum, same, low))
  deep (suc n) j sum k at here =
      each-from (IsDeep s held keys owed is_below is_under points n) (below_of k) (λ c inside.
      let w = filter-in (is_below k) c keys inside in
      deep n (suc j) (omega (arith, sum)) c w.0
      (sym (tree.next j c w.0)
      ∙ any-in (λ l. is_below l c) (filter (level j) keys) k (in-filter (level j) k keys here at) w.1))

  top-at : In tree.top keys × (level 0 tree.top ≡ true)
  top-at = filter-in (level 0) tree.top keys
      (subst (In tree.top) (sym tree.first) (inl refl))

  within-at : (n i : ℕ) (k : K) → i < n → level i k ≡ true
      → within is_below level keys tree.top tree.first tree.next tree.one_above n k ≡ true
  within-at zero i k less here = absurd (omega (arith, less))
  within-at (suc n) i k less here = elim (cases_lt i n) [
    | inl low ↦ or_left (within is_below level keys tree.top tree.first tree.next tree.one_above n k)
        (level n k) (within-at n i k low here)
    | inr from ↦
        let same : i ≡ n = omega (arith, less, from) in
        or_right (within is_below level keys tree.top tree.first tree.next tree.one_above n k)
        (level n k) (subst (λ (m : ℕ). level m k ≡ true) same here)
  ]

  at-within : (n : ℕ) (k : K)
      → within is_below level keys tree.top tree.first tree.next tree.one_above n k ≡ true
      → (i : ℕ) × (i < n) × (level i k ≡ true)
  at-within zero k h = absurd (true≢false (sym h))
  at-within (suc n) k h = elim (either
      (within is_below level keys tree.top tree.first tree.next tree.one_above n k) (level n k) h) [
        | inl before ↦
            let w = at-within n k before in
            let less = w.1 in
            (w.0, omega (arith, less), w.2)
        | inr here ↦ (n, omega arith, here)
      ]

  all-reached : IsPermutation (order below_of 65 tree.top) keys
  all-reached =
      let all : filter (within is_below level keys tree.top tree.first tree.next tree.one_above 65) keys
      ≡ keys = filter-all _ keys (λ k at.
      let w = tree.some k at in
      let low = w.1 in
      within-at 65 w.0 k (omega (arith, low)) w.2) in
      subst (IsPermutation (order below_of 65 tree.top)) all
      (reached is_below level keys tree.top tree.first tree.next tree.one_above (λ n c at before.
      false_from_ne_true (level n c) (λ here.
      let w = at-within n c before in
      let same = tree.one_level c at w.0 n w.2 here in
      let less = w.1 in
      absurd (omega (arith, same, less)))) 65)

  -- ---- what is visited

  abbrev pub visits : List Visit
  visits = Certificate (points.authority tree.top) ∷ sub 65 tree.top

  moved : IsPermutation visits (Certificate (points.authority tree.top) ∷ flat_map blocks keys)
  moved = IsPermutation-cons (Certificate (points.authority tree.top)) (sub 65 tree.top)
      (flat_map blocks keys)
      (IsPermutation-trans (sub 65 tree.top) (flat_map blocks (order below_of 65 tree.top))
      (flat_map blocks keys)
      (by-keys s held keys owed is_below is_under points 65 tree.top)
      (flat-moved blocks (order below_of 65 tree.top) keys all-reached))

  abbrev uris : K → List (List ℕ)
  uris = uris_at points.authority points.place below_of under_of

  abbrev uri_of : K ⊎ O → List ℕ
  uri_of (inl c) = (points.authority c).uri
  uri_of (inr o) = points.place o

  entry-uris : (k : K) (es : List (K ⊎ O)) → visited (map (of_key k) es) ≡ map uri_of es
  entry-uris k [] = refl
  entry-uris k (e ∷ es) = by e ∙ ap (λ (l : List (List ℕ)). uri_of e ∷ l) (entry-uris k es)
    where
      by : (e : K ⊎ O) → visited (map (of_key k) (e ∷ es)) ≡ uri_of e ∷ visited (map (of_key k) es)
      by (inl c) = refl
      by (inr o) = refl

  parts-uris : (cs : List K) (os : List O) → map uri_of (map inl cs ++ map inr os)
      ≡ map (λ c. (points.authority c).uri) cs ++ map points.place os
  parts-uris [] [] = refl
  parts-uris [] (o ∷ os) = ap (λ (l : List (List ℕ)). points.place o ∷ l) (parts-uris [] os)
  parts-uris (c ∷ cs) os = ap (λ (l : List (List ℕ)). (points.authority c).uri ∷ l) (parts-uris cs os)

  block-uris : (k : K) → IsPermutation (visited (blocks k)) (uris k)
  block-uris k =
      let rest : List (List ℕ) = map (λ c. (points.authority c).uri) (below_of k)
      ++ map points.place (under_of k) in
      let entries : IsPermutation (visited (map (of_key k) (points.entries k))) rest =
      subst (λ (l : List (List ℕ)). IsPermutation l rest) (sym (entry-uris k (points.entries k)))
      (subst (IsPermutation (map uri_of (points.entries k))) (parts-uris (below_of k) (under_of k))
      (IsPermutation-map uri_of (points.entries k) (map inl (below_of k) ++ map inr (under_of k))
      (IsPermutation-sym (map inl (below_of k) ++ map inr (under_of k)) (points.entries k) (points.all k)))) in
      let with : Authority → Type 0 = λ a.
      IsPermutation (manifest_place a ∷ crl_uri_of a ∷ visited (map (of_key k) (points.entries k))) (uris k) in
      subst with (sym (points.above k))
      (IsPermutation-cons (manifest_place (points.authority k)) _ _
      (IsPermutation-cons (crl_uri_of (points.authority k)) _ _ entries))

  visited-are : IsPermutation (visited visits)
      ((points.authority tree.top).uri ∷ flat_map uris keys)
  visited-are =
      IsPermutation-trans (visited visits)
      (visited (Certificate (points.authority tree.top) ∷ flat_map blocks keys))
      ((points.authority tree.top).uri ∷ flat_map uris keys)
      (flat-moved uris_of visits (Certificate (points.authority tree.top) ∷ flat_map blocks keys) moved)
      (IsPermutation-cons (points.authority tree.top).uri (visited (flat_map blocks keys))
      (flat_map uris keys)
      (subst (λ (l : List (List ℕ)). IsPermutation l (flat_map uris keys))
      (sym (flat-flat blocks uris_of keys))
      (flat-each (λ k. visited (blocks k)) uris keys (λ k at. block-uris k))))

  apart-visits : AreApart (visited visits)
  apart-visits = twos-moved (λ a b. a ≢ b) (λ a b other same. other (sym same))
      ((points.authority tree.top).uri ∷ flat_map uris keys) (visited visits)
      (IsPermutation-sym (visited visits) ((points.authority tree.top).uri ∷ flat_map uris keys)
      visited-are) tree.apart

  walks : walk s held ≡ Ok visits
  unfolding walk
  walks =
      let on : Authority → Checked (List Visit) = λ anchor.
      visit_below 65 s held anchor (Certificate anchor ∷ []) in
      handed (accepted_anchor s held) (points.authority tree.top) on tree.anchor
      ∙ walk-below s held keys owed is_below is_under points 65 tree.top
      (deep 65 0 refl tree.top top-at.0 top-at.1) (Certificate (points.authority tree.top) ∷ [])
      apart-visits

  each-visited : (uri : List ℕ) → IsSome (held uri) → is_among (visited visits) uri ≡ true
  each-visited uri stands =
      any-in (λ (other : List ℕ). bytes_eq other uri) (visited visits) uri
      (in-permuted uri ((points.authority tree.top).uri ∷ flat_map uris keys) (visited visits)
      (IsPermutation-sym (visited visits) ((points.authority tree.top).uri ∷ flat_map uris keys)
      visited-are) (tree.places uri stands))
      ((bytes_eq-Decides uri uri).1 refl)

  -- ---- what is yielded

  parts-yield : (k : K) (cs : List K) (os : List O) → ((o : O) → In o os → is_under k o ≡ true)
      → yield (map (of_key k) (map inl cs ++ map inr os)) ≡ map points.told os
  parts-yield k [] [] are = refl
  parts-yield k [] (o ∷ os) are =
      ap (λ (l : List Yielded). l ++ yield (map (of_key k) (map inr os)))
      (points.yields k o (are o (inl refl)))
      ∙ ap (λ (l : List Yielded). points.told o ∷ l)
      (parts-yield k [] os (λ p at. are p (inr at)))
  parts-yield k (c ∷ cs) os are = parts-yield k cs os are

  block-yields : (k : K) → IsPermutation (yield (blocks k)) (map points.told (under_of k))
  block-yields k =
      subst (IsPermutation (yield (map (of_key k) (points.entries k))))
      (parts-yield k (below_of k) (under_of k) (λ o at. (filter-in (is_under k) o owed at).1))
      (flat-moved yielded_by (map (of_key k) (points.entries k))
      (map (of_key k) (map inl (below_of k) ++ map inr (under_of k)))
      (IsPermutation-map (of_key k) (points.entries k) (map inl (below_of k) ++ map inr (under_of k))
      (IsPermutation-sym (map inl (below_of k) ++ map inr (under_of k)) (points.entries k) (points.all k))))

  map-flat : (f : K → List O) (ks : List K) → flat_map (λ k. map points.told (f k)) ks
      ≡ map points.told (flat_map f ks)
  map-flat f [] = refl
  map-flat f (k ∷ ks) =
      ap (λ (l : List Yielded). map points.told (f k) ++ l) (map-flat f ks)
      ∙ sym (over (f k) (flat_map f ks))
    where
      over : (as_ bs : List O) → map points.told (as_ ++ bs) ≡ map points.told as_ ++ map points.told bs
      over [] bs = refl
      over (a ∷ as_) bs = ap (λ (l : List Yielded). points.told a ∷ l) (over as_ bs)

  owed-all : IsPermutation (flat_map under_of keys) owed
  owed-all =
      subst (IsPermutation (flat_map under_of keys))
      (filter-all (λ o. list_any (λ k. is_under k o) keys) owed (λ o at.
      let w = tree.issued o at in
      any-in (λ k. is_under k o) keys w.0 w.1 w.2))
      (classes is_under keys owed tree.one_issuer)

  yields : IsPermutation (yield visits) (map points.told owed)
  yields =
      IsPermutation-trans (yield visits)
      (yield (Certificate (points.authority tree.top) ∷ flat_map blocks keys)) (map points.told owed)
      (flat-moved yielded_by visits (Certificate (points.authority tree.top) ∷ flat_map blocks keys) moved)
      (IsPermutation-trans (yield (flat_map blocks keys)) (map points.told (flat_map under_of keys))
      (map points.told owed)
      (subst (IsPermutation (yield (flat_map blocks keys))) (map-flat under_of keys)
      (subst (λ (l : List Yielded). IsPermutation l (flat_map (λ k. map points.told (under_of k)) keys))
      (sym (flat-flat blocks yielded_by keys))
      (flat-each (λ k. yield (blocks k)) (λ k. map points.told (under_of k)) keys (λ k at. block-yields k))))
      (IsPermutation-map points.told (flat_map under_of keys) owed owed-all))

  pub tree-walked : IsWalked s held (map points.told owed)
  tree-walked = record {
    visits = visits;
    walked = walks;
    all = each-visited;
    yields = IsPermutation-sym (yield visits) (map points.told owed) yields;
    once = twos-pairs (λ a b. a ≢ b) (yield visits)
        (twos-moved (λ a b. a ≢ b) (λ a b other same. other (sym same)) (map points.told owed)
        (yield visits) (IsPermutation-sym (yield visits) (map points.told owed) yields) tree.told_apart);
  }
