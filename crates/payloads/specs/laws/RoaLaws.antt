-- What the reading of a ROA's body comes to.
use Rattle.std.proofs.Common.{◌≡◌, ℕ, Bool, true, false, cond, not, ◌&&◌, Option, Some, None, List, [], ◌∷◌, ◌++◌, map, refl, sym, ap}
use Rattle.std.specs.Prelude.{option_map}
use Rattle.std.proofs.lemmas.List.{map-append}
use Rattle.der.specs.Tags as tag
use Rattle.der.specs.Forms.{sole, after, both, only, maybe, many, tested}
use Rattle.der.specs.Leaves.{short_number}
use Rattle.payloads.specs.Order.{rises_above, rises, unordered_above, first_unordered}
use Rattle.payloads.specs.laws.PlacedLaws.{Sees, SeesFront, front-sees, placed-sees, within-sees, sole-sees, after-sees, both-sees, only-sees, maybe-sees, many-sees, tested-sees, through-sees}
use Rattle.payloads.specs.RoaFormats.{Entry, entry, placed_entry, family_number, has_some, family, joined, parted, blocks, body, AreEntries, placed_roa, unordered_roa}

-- ---- the reading with places

abbrev seen : ℕ × Entry → Entry
seen x = x.1

abbrev seen_list : List (ℕ × Entry) → List Entry
seen_list xs = map seen xs

abbrev seen_family : Bool × List (ℕ × Entry) → Bool × List Entry
seen_family x = (x.0, seen_list x.1)

some-alike : (xs : List (ℕ × Entry)) → has_some (seen_list xs) ≡ has_some xs
some-alike [] = refl
some-alike (x ∷ xs) = refl

joined-alike : (x : Bool × List (ℕ × Entry)) (o : Option (Bool × List (ℕ × Entry)))
    → joined (seen_family x) (option_map seen_family o) ≡ option_map seen_list (joined x o)
joined-alike x None = refl
joined-alike x (Some y) = both-alike (not x.0 && y.0)
  where
    both-alike : (b : Bool)
        → cond b (Some (seen_list x.1 ++ seen_list y.1)) None ≡ option_map seen_list
        (cond b (Some (x.1 ++ y.1)) None)
    both-alike true = ap (λ (l : List Entry). Some l) (sym (map-append seen x.1 y.1))
    both-alike false = refl

family-sees : SeesFront seen_family (family entry) (family placed_entry)
unfolding family
family-sees =
    within-sees seen_family tag.sequence
    (after family_number (λ v6. sole tag.sequence (tested (many (entry v6)) has_some)))
    (after family_number (λ v6. sole tag.sequence (tested (many (placed_entry v6)) has_some)))
    (after-sees seen_list family_number
    (λ v6. sole tag.sequence (tested (many (entry v6)) has_some))
    (λ v6. sole tag.sequence (tested (many (placed_entry v6)) has_some)) (λ v6.
    sole-sees seen_list tag.sequence (tested (many (entry v6)) has_some)
    (tested (many (placed_entry v6)) has_some)
    (tested-sees seen_list (many (entry v6)) (many (placed_entry v6)) has_some has_some some-alike
    (many-sees seen (entry v6) (placed_entry v6) (placed-sees (entry v6))))))

abbrev seen_families : (Bool × List (ℕ × Entry)) × Option (Bool × List (ℕ × Entry))
    → (Bool × List Entry) × Option (Bool × List Entry)
seen_families x = (seen_family x.0, option_map seen_family x.1)

blocks-sees : Sees seen_list (blocks entry (λ e. e.v6) AreEntries)
    (blocks placed_entry (λ x. x.1.v6) (λ xs. AreEntries (map (λ x. x.1) xs)))
unfolding blocks
blocks-sees =
    through-sees seen_families seen_list (both (family entry) (maybe (only (family entry))))
    (both (family placed_entry) (maybe (only (family placed_entry))))
    (λ x. joined x.0 x.1) (parted (λ e. e.v6)) AreEntries (λ x. joined x.0 x.1)
    (parted (λ x. x.1.v6)) (λ xs. AreEntries (map (λ x. x.1) xs))
    (λ y. joined-alike y.0 y.1)
    (both-sees seen_family (option_map seen_family) (family entry) (maybe (only (family entry)))
    (family placed_entry) (maybe (only (family placed_entry))) family-sees
    (maybe-sees seen_family (only (family entry)) (only (family placed_entry))
    (only-sees seen_family (family entry) (family placed_entry) family-sees)))

abbrev seen_body : ℕ × List (ℕ × Entry) → ℕ × List Entry
seen_body x = (x.0, seen_list x.1)

pub roa-sees : Sees seen_body unordered_roa placed_roa
unfolding body
roa-sees =
    let f = sole tag.sequence (blocks entry (λ e. e.v6) AreEntries) in
    let g = sole tag.sequence
    (blocks placed_entry (λ x. x.1.v6) (λ xs. AreEntries (map (λ x. x.1) xs))) in
    sole-sees seen_body tag.sequence (both short_number f) (both short_number g)
    (both-sees (λ (n : ℕ). n) seen_list short_number f short_number g (front-sees short_number)
    (sole-sees seen_list tag.sequence (blocks entry (λ e. e.v6) AreEntries)
    (blocks placed_entry (λ x. x.1.v6) (λ xs. AreEntries (map (λ x. x.1) xs))) blocks-sees))

-- ---- the first that isn't above the one before it

none-step : (b : Bool) (rest : Option ℕ) (at : ℕ) (up : Bool) → (rest ≡ None → up ≡ true)
    → cond b rest (Some at) ≡ None → (b && up) ≡ true
none-step true rest at up law e = law e
none-step false rest at up law e = absurd cc

none-above : {A : Type 0} (below : A → A → Bool) (x : A) (ys : List (ℕ × A))
    → unordered_above below x ys ≡ None → rises_above below x (map (λ y. y.1) ys) ≡ true
none-above below x [] e = refl
none-above below x (y ∷ ys) e = none-step (below x y.1) (unordered_above below y.1 ys) y.0
    (rises_above below y.1 (map (λ z. z.1) ys)) (none-above below y.1 ys) e

some-step : (b : Bool) (rest : Option ℕ) (at place : ℕ) (up : Bool)
    → (rest ≡ Some place → up ≡ false) → cond b rest (Some at) ≡ Some place → (b && up) ≡ false
some-step true rest at place up law e = law e
some-step false rest at place up law e = refl

some-above : {A : Type 0} (below : A → A → Bool) (x : A) (ys : List (ℕ × A)) (at : ℕ)
    → unordered_above below x ys ≡ Some at → rises_above below x (map (λ y. y.1) ys) ≡ false
some-above below x [] at e = absurd cc
some-above below x (y ∷ ys) at e = some-step (below x y.1) (unordered_above below y.1 ys) y.0 at
    (rises_above below y.1 (map (λ z. z.1) ys)) (some-above below y.1 ys at) e

pub none-unordered : {A : Type 0} (below : A → A → Bool) (xs : List (ℕ × A))
    → first_unordered below xs ≡ None → rises below (map (λ y. y.1) xs) ≡ true
none-unordered below [] e = refl
none-unordered below (x ∷ xs) e = none-above below x.1 xs e

pub some-unordered : {A : Type 0} (below : A → A → Bool) (xs : List (ℕ × A)) (at : ℕ)
    → first_unordered below xs ≡ Some at → rises below (map (λ y. y.1) xs) ≡ false
some-unordered below [] at e = absurd cc
some-unordered below (x ∷ xs) at e = some-above below x.1 xs at e
