-- Origins that are owed: each is of a desk that holds something, and of one desk no two are the same.
use Rattle.std.proofs.Common.{◌≡◌, ◌≢◌, ℕ, zero, suc, ◌<◌, ◌≤◌, true, false, Option, None, Some, List, [], ◌∷◌, length, get_or, refl, sym, ap, subst, ◌∙◌, arith, ◌⊎◌, inl, inr}
use Rattle.std.specs.Prelude.{IsTrue}
use Rattle.std.specs.List.{All, slice_get}
use Rattle.std.specs.Ordering.{is_eq}
use Rattle.std.specs.declared.cmp.Ordering.TheVariants.{Less}
use Rattle.std.proofs.lemmas.Bool.{true≢false}
use Rattle.std.proofs.lemmas.Map.Keys.{sorted_tail}
use Rattle.std.proofs.lemmas.Map.Views.{All-after_first}
use Rattle.std.proofs.lemmas.Option.{slice_get_within, get_or_from_slice_get, slice_get_cases}
use Rattle.origins.specs.declared.Origin.{Origin}
use Rattle.res_sets.specs.declared.holdings.Resources.{Resources}
use Rattle.res_sets.specs.Triples.{has}
use Rattle.authority_book.specs.declared.rows.NameRow.{NameRow}
use Rattle.authority_book.specs.Settings.{Settings}
use Rattle.authority_book.specs.Origins.{is_same, origin_cmp, IsAscending}
use Rattle.entitle.specs.declared.trees.Owed.{Owed}
use Rattle.entitle.specs.Certified.{names_of, certified, most_parents, AreCertified}
use Rattle.entitle.specs.Owed.{family_of, IsHeldBy, IsHeldAt, AreThose, origins_of, at_desk, AreOwedByFirst, AreOwed}
use Rattle.issue_plan.specs.Keys.{Basis}
use Rattle.items.specs.laws.AmongLaws.{In, in-all, in-parts, map-in}
use Rattle.editions.proofs.PlanLemmas.Pairs.{Twos, twos-map, twos-append, twos-weaker}
use Rattle.editions.proofs.PlanLemmas.NextKeys.{IsDesk}
use Rattle.editions.proofs.PlanLemmas.Places.{holds-some}

-- ---- those that are held

those-in : (P : Origin → Type 0) (all own : List Origin) → AreThose P all own → (x : Origin) → In x own → In x all × P x
those-in P [] own none x at = absurd (subst (In x) none at)
those-in P (o ∷ all) own (inl off) x at = let w = those-in P all own off.1 x at in (inr w.0, w.1)
those-in P (o ∷ all) own (inr on) x at = by (those-in P all on.0 on.2 x) (subst (In x) on.3 at)
  where
    by : (In x on.0 → In x all × P x) → In x (o ∷ on.0) → In x (o ∷ all) × P x
    by rest (inl same) = (inl same, subst P same on.1)
    by rest (inr here) = let w = rest here in (inr w.0, w.1)

those-twos : (P : Origin → Type 0) (R : Origin → Origin → Type 0) (all own : List Origin) → AreThose P all own → Twos R all → Twos R own
those-twos P R [] own none twos = subst (Twos R) (sym none) tt
those-twos P R (o ∷ all) own (inl off) twos = those-twos P R all own off.1 twos.1
those-twos P R (o ∷ all) own (inr on) twos =
    subst (Twos R) (sym on.3)
    ((λ y at. twos.0 y (those-in P all on.0 on.2 y at).0), those-twos P R all on.0 on.2 twos.1)

-- ---- origins in ascending order

-- Of two origins one can tell whether they are the same.
abbrev pub AreTold : Type 0
AreTold = (o : Origin) → IsTrue (is_same o o)

ascending-twos : AreTold → (origins : List Origin) → IsAscending origins → Twos (λ a b. a ≢ b) origins
ascending-twos told [] up = tt
ascending-twos told (o ∷ origins) up = (
  (λ p at same.
      let less = in-all (λ (q : Origin). origin_cmp o q ≡ Less) p origins (All-after_first origin_cmp o origins up) at in
      let here : is_same o o ≡ false = ap is_eq (subst (λ (q : Origin). origin_cmp o q ≡ Less) (sym same) less) in
      true≢false (sym (told o) ∙ here)),
  ascending-twos told origins (sorted_tail origin_cmp o origins up),
)

-- ---- all that are owed

-- Of two one is of another desk, or is another origin.
abbrev pub AreOthers : Owed → Owed → Type 0
AreOthers a b = a.desk ≡ b.desk → a.origin ≢ b.origin

module _ (configs : List Settings) where
  desk-held : (desk : ℕ) (own : List Origin) → AreThose (IsHeldAt configs desk) (origins_of (slice_get configs desk)) own
      → (o : Owed) → In o (at_desk desk own) → (o.desk ≡ desk) × IsHeldAt configs o.desk o.origin
  desk-held desk own those o at =
      let w = map-in (λ (origin : Origin). record { desk = desk; origin = origin }) o own at in
      let held = (those-in (IsHeldAt configs desk) (origins_of (slice_get configs desk)) own those w.0 w.1).1 in (
        ap (λ (x : Owed). x.desk) (sym w.2),
        subst (λ (x : Owed). IsHeldAt configs x.desk x.origin) w.2 held,
      )

  first-held : (n : ℕ) (owed : List Owed) → AreOwedByFirst configs n owed → (o : Owed) → In o owed
      → (o.desk < n) × IsHeldAt configs o.desk o.origin
  first-held zero owed none o at = absurd (subst (In o) none at)
  first-held (suc n) owed are o at = by (first-held n are.0 are.2 o) (in-parts o are.0 (at_desk n are.1) (subst (In o) are.4 at))
    where
      by : (In o are.0 → (o.desk < n) × IsHeldAt configs o.desk o.origin) → In o are.0 ⊎ In o (at_desk n are.1) → (o.desk < suc n) × IsHeldAt configs o.desk o.origin
      by rest (inl before) =
          let w = rest before in
          let less = w.0 in
          (omega (arith, less), w.1)
      by rest (inr here) =
          let w = desk-held n are.1 are.3 o here in
          let is = w.0 in
          (omega (arith, is), w.1)

  pub owed-held : (owed : List Owed) → AreOwed configs owed → (o : Owed) → In o owed → IsHeldAt configs o.desk o.origin
  owed-held owed are o at = (first-held (length (names_of configs)) owed are o at).1

module _ (told : AreTold) (configs : List Settings) (up : All (λ config. IsAscending config.origins) configs) where
  origins-up : (desk : ℕ) → Twos (λ a b. a ≢ b) (origins_of (slice_get configs desk))
  origins-up desk = by (slice_get configs desk) refl
    where
      by : (o : Option Settings) → slice_get configs desk ≡ o → Twos (λ a b. a ≢ b) (origins_of o)
      by None e = tt
      by (Some config) e =
          ascending-twos told config.origins
          (subst (λ (c : Settings). IsAscending c.origins) (get_or_from_slice_get configs desk config config e)
          (up desk config (slice_get_within configs desk config e)))

  desk-twos : (desk : ℕ) (own : List Origin) → AreThose (IsHeldAt configs desk) (origins_of (slice_get configs desk)) own
      → Twos AreOthers (at_desk desk own)
  desk-twos desk own those =
      twos-map (λ (o : Origin). record { desk = desk; origin = o }) AreOthers own
      (twos-weaker (λ (a b : Origin). a ≢ b)
      (λ (a b : Origin). AreOthers (record { desk = desk; origin = a }) (record { desk = desk; origin = b })) own
      (λ a b c d other same. other)
      (those-twos (IsHeldAt configs desk) (λ a b. a ≢ b) (origins_of (slice_get configs desk)) own those (origins-up desk)))

  first-twos : (n : ℕ) (owed : List Owed) → AreOwedByFirst configs n owed → Twos AreOthers owed
  first-twos zero owed none = subst (Twos AreOthers) (sym none) tt
  first-twos (suc n) owed are =
      subst (Twos AreOthers) (sym are.4)
      (twos-append AreOthers are.0 (at_desk n are.1) (first-twos n are.0 are.2) (desk-twos n are.1 are.3)
      (λ a b c d same.
      let less = (first-held configs n are.0 are.2 a c).0 in
      let is = (desk-held configs n are.1 are.3 b d).0 in
      absurd (omega (arith, less, is, same))))

  pub owed-twos : (owed : List Owed) → AreOwed configs owed → Twos AreOthers owed
  owed-twos owed are = first-twos (length (names_of configs)) owed are

-- ---- its desk

-- The desk of an origin that is held has a name, and holds something.
pub held-desk : (basis : Basis) → AreCertified basis.configs basis.sets → (desk : ℕ) (o : Origin) → IsHeldAt basis.configs desk o
    → (name : NameRow) × IsDesk basis desk name
held-desk basis are desk o held = by (slice_get (names_of basis.configs) desk) refl held
  where
    by : (row : Option NameRow) → slice_get (names_of basis.configs) desk ≡ row → IsHeldBy basis.configs row o.prefix
        → (name : NameRow) × IsDesk basis desk name
    by None e h = absurd h
    by (Some row) e h =
        let inside : desk < length basis.sets =
        subst (λ (n : ℕ). desk < n) (sym are.one_each) (slice_get_within (names_of basis.configs) desk row e) in
        let first : certified basis.configs most_parents row.name (family_of o.prefix) o.prefix.address ≡ true =
        h o.prefix.address (record { fits = o.prefix.prefix.fits; shares = refl }) in
        let cases = (slice_get_cases basis.sets desk).1 in
        of cases inside first
      where
        of : (((set : Resources) × (desk < length basis.sets) × (slice_get basis.sets desk ≡ Some set) × (get_or basis.sets desk set ≡ set))
            ⊎ ((length basis.sets ≤ desk) × (slice_get basis.sets desk ≡ None))) → desk < length basis.sets
            → certified basis.configs most_parents row.name (family_of o.prefix) o.prefix.address ≡ true
            → (name : NameRow) × IsDesk basis desk name
        of (inr past) inside first = let low = past.0 in absurd (omega (arith, low, inside))
        of (inl there) inside first =
            let set = there.0 in
            let same : (get_or (names_of basis.configs) desk row).name ≡ row.name =
            ap (λ (r : NameRow). r.name) (get_or_from_slice_get (names_of basis.configs) desk row row e) in
            let all : has (get_or basis.sets desk set) (family_of o.prefix) o.prefix.address ≡ true =
            are.members desk row set inside (family_of o.prefix) o.prefix.address
            ∙ (ap (λ (n : List ℕ). certified basis.configs most_parents n (family_of o.prefix) o.prefix.address) same ∙ first) in (
              row,
              record {
                named = e;
                set = set;
                has = there.2;
                some = holds-some set (family_of o.prefix) o.prefix.address
                    (ap (λ (r : Resources). has r (family_of o.prefix) o.prefix.address) (sym there.3) ∙ all);
              },
            )
