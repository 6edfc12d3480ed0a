-- Places of names, and sets that have a number.
use Rattle.std.proofs.Common.{◌≡◌, ◌≢◌, ℕ, ◌<◌, ◌≤◌, Bool, true, false, cond, ltb, ◌&&◌, ◌||◌, Option, None, Some, List, [], ◌∷◌, inl, inr, length, get_or, refl, sym, ap, ◌∙◌, arith}
use Rattle.std.specs.Prelude.{codes}
use Rattle.std.specs.List.{AllPairs, slice_get, position, position_or_len}
use Rattle.std.specs.Str.{bytes_eq}
use Rattle.std.proofs.lemmas.Bool.{false≢true, cases_lt, lt-ltb}
use Rattle.std.proofs.lemmas.Bool.Decides.{nat_tests}
use Rattle.std.proofs.lemmas.List.Quantifiers.{position-Some}
use Rattle.std.proofs.lemmas.List.Sums.{fails_before_first}
use Rattle.std.proofs.lemmas.Option.{slice_get_within, get_or_from_slice_get}
use Rattle.std.proofs.lemmas.Slice.Eq.{bytes_eq-Decides}
use Rattle.res_sets.specs.declared.numbers.Family.{Family}
use Rattle.res_sets.specs.declared.numbers.Family.TheVariants.{Asn, V4, V6}
use Rattle.res_sets.specs.declared.numbers.Range.{Range}
use Rattle.res_sets.specs.declared.holdings.Resources.{Resources}
use Rattle.res_sets.specs.Numbers.{spans, any_spans}
use Rattle.res_sets.specs.Triples.{has}
use Rattle.authority_book.specs.declared.rows.NameRow.{NameRow}
use Rattle.authority_book.specs.Listed.{place_of}
use Rattle.entitle.specs.Certified.{is_anchor}
use Rattle.issue_plan.specs.Keys.{holds_nothing, no_ranges}
use Rattle.editions.specs.Names.{AreTree}

-- Where none is found, none passes.
pub none-passes : {X : Type 0} (p : X → Bool) (xs : List X) (k : ℕ) (d : X) → position p xs ≡ None → k < length xs → p (get_or xs k d) ≡ false
none-passes p xs k d e inside =
    elim (cases_lt (position_or_len p xs) (length xs)) [
      | inl less ↦
          let t : ltb (position_or_len p xs) (length xs) ≡ true = lt-ltb (position_or_len p xs) (length xs) less in
          let some : Some (position_or_len p xs) ≡ None =
          ap (λ (b : Bool). cond b (Some (position_or_len p xs)) None) (sym t) ∙ e in
          absurd cc
      | inr from ↦ fails_before_first p xs k d (omega (arith, from, inside))
    ]

-- A place has its name.
pub name-at : (names : List NameRow) (name : List ℕ) (k : ℕ) (d : NameRow) → place_of names name ≡ Some k
    → (k < length names) × ((get_or names k d).name ≡ name)
name-at names name k d e =
    let h = position-Some (λ (row : NameRow). bytes_eq row.name name) names k d e in
    (h.0, (bytes_eq-Decides (get_or names k d).name name).0 h.1)

-- A name whose desk has it is found there.
pub placed : (names : List NameRow) (k : ℕ) (row : NameRow) → AllPairs (λ a b. a.name ≢ b.name) names → slice_get names k ≡ Some row
    → place_of names row.name ≡ Some k
placed names k row apart at = by (place_of names row.name) refl
  where
    inside : k < length names
    inside = slice_get_within names k row at

    here : get_or names k row ≡ row
    here = get_or_from_slice_get names k row row at

    by : (o : Option ℕ) → place_of names row.name ≡ o → o ≡ Some k
    by None e =
        let no : bytes_eq (get_or names k row).name row.name ≡ false =
        none-passes (λ (r : NameRow). bytes_eq r.name row.name) names k row e inside in
        let is : bytes_eq (get_or names k row).name row.name ≡ true =
        (bytes_eq-Decides (get_or names k row).name row.name).1 (ap (λ (r : NameRow). r.name) here) in
        absurd (false≢true (sym no ∙ is))
    by (Some i) e =
        let h = name-at names row.name i row e in
        let same : (get_or names i row).name ≡ (get_or names k row).name = h.1 ∙ sym (ap (λ (r : NameRow). r.name) here) in
        elim (cases_lt i k) [
          | inl less ↦ absurd (apart i k row less inside same)
          | inr from ↦ elim (cases_lt k i) [
            | inl more ↦ absurd (apart k i row more h.0 (sym same))
            | inr to ↦ let one : i ≡ k = omega (arith, from, to) in ap Some one
          ]
        ]

-- The trust anchor's name is the first one's alone.
pub no-anchor : (names : List NameRow) (desk : ℕ) (name : NameRow) → AreTree names → slice_get names desk ≡ Some name → desk ≢ 0
    → is_anchor name.name ≡ false
no-anchor names desk name tree at other = by (is_anchor name.name) refl
  where
    by : (b : Bool) → is_anchor name.name ≡ b → b ≡ false
    by false e = refl
    by true e =
        let same : name.name ≡ codes "ta" = (bytes_eq-Decides name.name (codes "ta")).0 e in
        let first : (get_or names 0 name).name ≡ codes "ta" =
        ap (λ (r : NameRow). r.name) (get_or_from_slice_get names 0 (record { name = codes "ta"; signer = 0 }) name tree.anchor) in
        let here : (get_or names desk name).name ≡ name.name =
        ap (λ (r : NameRow). r.name) (get_or_from_slice_get names desk name name at) in
        let inside : desk < length names = slice_get_within names desk name at in
        absurd (tree.apart 0 desk name (omega (arith, other)) inside (first ∙ (sym same ∙ sym here)))

-- ---- sets

pub first-spans : (r : Range) (rs : List Range) → any_spans (r ∷ rs) r.first ≡ true
first-spans r rs =
    let low : r.first ≤ r.last = r.ordered in
    let here : spans r r.first ≡ true = grind (arith, nat_tests) in
    ap (λ (b : Bool). b || any_spans rs r.first) here

-- A set that holds something has a number.
pub has-some : (set : Resources) → holds_nothing set ≡ false → (family : Family) × (n : ℕ) × (has set family n ≡ true)
has-some set some = by set.asn.ranges set.v4.ranges set.v6.ranges refl refl refl some
  where
    by : (a b c : List Range) → set.asn.ranges ≡ a → set.v4.ranges ≡ b → set.v6.ranges ≡ c
        → (no_ranges a && no_ranges b && no_ranges c) ≡ false → (family : Family) × (n : ℕ) × (has set family n ≡ true)
    by (r ∷ rs) b c e f g h = (Asn, r.first, ap (λ (l : List Range). any_spans l r.first) e ∙ first-spans r rs)
    by [] (r ∷ rs) c e f g h = (V4, r.first, ap (λ (l : List Range). any_spans l r.first) f ∙ first-spans r rs)
    by [] [] (r ∷ rs) e f g h = (V6, r.first, ap (λ (l : List Range). any_spans l r.first) g ∙ first-spans r rs)
    by [] [] [] e f g h = absurd (false≢true (sym h))

pub holds-some : (set : Resources) (family : Family) (n : ℕ) → has set family n ≡ true → holds_nothing set ≡ false
holds-some set family n held = by set.asn.ranges set.v4.ranges set.v6.ranges refl refl refl
  where
    none : (family : Family) → set.asn.ranges ≡ [] → set.v4.ranges ≡ [] → set.v6.ranges ≡ [] → has set family n ≡ false
    none Asn e f g = ap (λ (l : List Range). any_spans l n) e
    none V4 e f g = ap (λ (l : List Range). any_spans l n) f
    none V6 e f g = ap (λ (l : List Range). any_spans l n) g

    by : (a b c : List Range) → set.asn.ranges ≡ a → set.v4.ranges ≡ b → set.v6.ranges ≡ c
        → (no_ranges a && no_ranges b && no_ranges c) ≡ false
    by (r ∷ rs) b c e f g = refl
    by [] (r ∷ rs) c e f g = refl
    by [] [] (r ∷ rs) e f g = refl
    by [] [] [] e f g = absurd (false≢true (sym (none family e f g) ∙ held))
