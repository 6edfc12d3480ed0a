-- A forest, depth first and level by level.
use Rattle.std.proofs.Common.{◌≡◌, ℕ, zero, suc, Bool, true, false, ◌||◌, List, [], ◌∷◌, ◌++◌, filter, refl, sym, ap, subst, ◌∙◌, IsPermutation, append-nil}
use Rattle.std.specs.List.{flat_map, list_any}
use Rattle.std.proofs.lemmas.List.Sorted.{IsPermutation-trans, IsPermutation-append, IsPermutation-cons}
use Rattle.items.specs.laws.AmongLaws.{In}
use Rattle.items.specs.laws.PairLaws.{Twos}
use Rattle.editions.proofs.WalkLemmas.Elements.{twos-filter}
use Rattle.editions.proofs.WalkLemmas.Moved.{flat-moved, flat-each, flat-same, flat-flat, flat-parts, classes, filter-same, either-kept, moved-same}

module _ {K : Type 0} (below : K → List K) where
  -- What is reached from a key along fewer than so many steps, depth first.
  unfoldable pub order : ℕ → K → List K
  order zero k = []
  order (suc n) k = k ∷ flat_map (order n) (below k)

  -- What is reached along just so many.
  unfoldable pub layer : ℕ → K → List K
  layer zero k = k ∷ []
  layer (suc n) k = flat_map (layer n) (below k)

  nothing : (ks : List K) → flat_map (order zero) ks ≡ []
  unfolding order
  nothing [] = refl
  nothing (k ∷ ks) = nothing ks

  -- One step more.
  pub more : (n : ℕ) (k : K) → IsPermutation (order (suc n) k) (order n k ++ layer n k)
  unfolding order layer
  more zero k = moved-same _ _ (ap (λ (l : List K). k ∷ l) (nothing (below k)))
  more (suc n) k =
      IsPermutation-cons k (flat_map (order (suc n)) (below k))
      (flat_map (order n) (below k) ++ flat_map (layer n) (below k))
      (IsPermutation-trans (flat_map (order (suc n)) (below k))
      (flat_map (λ c. order n c ++ layer n c) (below k))
      (flat_map (order n) (below k) ++ flat_map (layer n) (below k))
      (flat-each (order (suc n)) (λ c. order n c ++ layer n c) (below k) (λ c at. more n c))
      (flat-parts (order n) (layer n) (below k)))

  -- The next level is what is below this one.
  pub deeper : (n : ℕ) (k : K) → layer (suc n) k ≡ flat_map below (layer n k)
  unfolding layer
  deeper zero k = one (below k) ∙ sym (append-nil (below k))
    where
      one : (ks : List K) → flat_map (layer zero) ks ≡ ks
      one [] = refl
      one (c ∷ ks) = ap (λ (l : List K). c ∷ l) (one ks)
  deeper (suc n) k =
      flat-same (layer (suc n)) (λ c. flat_map below (layer n c)) (below k) (λ c at. deeper n c)
      ∙ sym (flat-flat (layer n) below (below k))

-- Keys of which each has a level, and each that is deeper is below just one of those a level higher.
module _ {K : Type 0} (is_below : K → K → Bool) (level : ℕ → K → Bool) (keys : List K) (top : K)
    (first : filter (level zero) keys ≡ top ∷ [])
    (next : (n : ℕ) (c : K) → In c keys
    → list_any (λ k. is_below k c) (filter (level n) keys) ≡ level (suc n) c)
    (apart : Twos (λ k l. (c : K) → In c keys → is_below k c ≡ true → is_below l c ≡ false) keys)
  where
    abbrev pub below : K → List K
    below k = filter (is_below k) keys

    pub levels : (n : ℕ) → IsPermutation (layer below n top) (filter (level n) keys)
    unfolding layer
    levels zero = moved-same _ _ (sym first)
    levels (suc n) =
        IsPermutation-trans (layer below (suc n) top) (flat_map below (filter (level n) keys))
        (filter (level (suc n)) keys)
        (subst (λ (l : List K). IsPermutation l (flat_map below (filter (level n) keys)))
        (sym (deeper below n top))
        (flat-moved below (layer below n top) (filter (level n) keys) (levels n)))
        (subst (IsPermutation (flat_map below (filter (level n) keys)))
        (filter-same (λ c. list_any (λ k. is_below k c) (filter (level n) keys)) (level (suc n)) keys
        (next n))
        (classes is_below (filter (level n) keys) keys
        (twos-filter (λ k l. (c : K) → In c keys → is_below k c ≡ true → is_below l c ≡ false)
        (level n) keys apart)))

    -- Whether the level is one of the first so many.
    abbrev pub within : ℕ → K → Bool
    within zero k = false
    within (suc n) k = within n k || level n k

    pub reached : ((n : ℕ) (c : K) → In c keys → within n c ≡ true → level n c ≡ false)
        → (n : ℕ) → IsPermutation (order below n top) (filter (within n) keys)
    unfolding order
    reached once zero = moved-same _ _ (sym (none keys))
      where
        none : (ks : List K) → filter (within zero) ks ≡ []
        none [] = refl
        none (k ∷ ks) = none ks
    reached once (suc n) =
        IsPermutation-trans (order below (suc n) top) (order below n top ++ layer below n top)
        (filter (within (suc n)) keys)
        (more below n top)
        (IsPermutation-trans (order below n top ++ layer below n top)
        (filter (within n) keys ++ filter (level n) keys) (filter (within (suc n)) keys)
        (IsPermutation-append _ _ _ _ (reached once n) (levels n))
        (either-kept (within n) (level n) keys (once n)))
