-- How far names are below the trust anchor.
use Rattle.std.proofs.Common.{◌≡◌, ◌≢◌, ℕ, ◌<◌, ◌≤◌, zero, suc, Bool, true, false, not, cond, ◌&&◌, Option, None, Some, List, inl, inr, length, get_or, refl, sym, ap, subst, ◌∙◌, arith}
use Rattle.std.specs.Prelude.{codes, nat_lt}
use Rattle.std.specs.List.{AllPairs, slice_get}
use Rattle.std.proofs.lemmas.Bool.{true≢false, false≢true, cases_lt, and_parts, and_from}
use Rattle.std.proofs.lemmas.Option.{same_Some, slice_get_within, get_or_from_slice_get}
use Rattle.std.proofs.lemmas.Slice.Eq.{bytes_eq-Decides}
use Rattle.res_sets.specs.declared.numbers.Family.{Family}
use Rattle.res_sets.specs.Numbers.{family_end}
use Rattle.res_sets.specs.Triples.{has}
use Rattle.authority_book.specs.declared.rows.NameRow.{NameRow}
use Rattle.authority_book.specs.declared.rows.Child.{Child}
use Rattle.authority_book.specs.Settings.{Settings}
use Rattle.authority_book.specs.Listed.{place_of, child_of}
use Rattle.entitle.specs.Certified.{names_of, at_place, is_anchor, Grant, granted, granted_by, granted_to_parent_of, granted_to, grant_of, passed_on, certified}
use Rattle.entitle.specs.inner.Steps.{reaches_from}
use Rattle.issue_plan.specs.Wanted.{parent_of}
use Rattle.editions.specs.Names.{AreTree}
use Rattle.editions.specs.inner.KeyTree.{is_level}

-- ---- names and their places

-- Names tell their places.
pub one-place : (names : List NameRow) (i j : ℕ) (a b : NameRow) → AllPairs (λ a b. a.name ≢ b.name) names
    → slice_get names i ≡ Some a → slice_get names j ≡ Some b → a.name ≡ b.name → i ≡ j
one-place names i j a b apart at there same =
    let one : (get_or names i a).name ≡ a.name = ap (λ (r : NameRow). r.name) (get_or_from_slice_get names i a a at) in
    let two : (get_or names j a).name ≡ b.name = ap (λ (r : NameRow). r.name) (get_or_from_slice_get names j b a there) in
    let low : i < length names = slice_get_within names i a at in
    let high : j < length names = slice_get_within names j b there in
    elim (cases_lt i j) [
      | inl less ↦ absurd (apart i j a less high (one ∙ (same ∙ sym two)))
      | inr from ↦ elim (cases_lt j i) [
        | inl more ↦ absurd (apart j i a more low (two ∙ (sym same ∙ sym one)))
        | inr to ↦ omega (arith, from, to)
      ]
    ]

-- The trust anchor's name is the first one's alone.
pub no-anchor : (names : List NameRow) (desk : ℕ) (name : NameRow) → AreTree names
    → slice_get names desk ≡ Some name → desk ≢ 0 → is_anchor name.name ≡ false
no-anchor names desk name tree at other = by (is_anchor name.name) refl
  where
    by : (b : Bool) → is_anchor name.name ≡ b → b ≡ false
    by false e = refl
    by true e =
        let same : name.name ≡ codes "ta" = (bytes_eq-Decides name.name (codes "ta")).0 e in
        absurd (other (one-place names desk 0 name (record { name = codes "ta"; signer = 0 }) tree.apart
        at tree.anchor same))

pub the-anchor : (names : List NameRow) (name : NameRow) → AreTree names
    → slice_get names 0 ≡ Some name → name.name ≡ codes "ta"
the-anchor names name tree at =
    ap (λ (r : NameRow). r.name)
    (same_Some name (record { name = codes "ta"; signer = 0 }) (sym at ∙ tree.anchor))

-- ---- grants

-- A grant comes from the parent that the configuration names, which has a place.
pub record ComesFrom (configs : List Settings) (o : Option Settings) (grant : Grant) : Type 0 where
  pub called : parent_of o ≡ Some grant.parent
  pub place : ℕ
  pub placed : place_of (names_of configs) grant.parent ≡ Some place

pub comes-from : (configs : List Settings) (child : List ℕ) (o : Option Settings) (grant : Grant)
    → granted_to configs child o ≡ Some grant → ComesFrom configs o grant
comes-from configs child None grant e = absurd cc
comes-from configs child (Some c) grant e = on c.deleted e
  where
    of-child : (parent : List ℕ) (o : Option Child) → granted parent o ≡ Some grant → parent ≡ grant.parent
    of-child parent None h = absurd cc
    of-child parent (Some k) h = by k.suspended h
      where
        by : (b : Bool) → cond b None (Some (record { parent = parent; resources = k.grant })) ≡ Some grant
            → parent ≡ grant.parent
        by true h = absurd cc
        by false h = ap (λ (g : Grant). g.parent)
            (same_Some (record { parent = parent; resources = k.grant }) grant h)

    of-config : (parent : List ℕ) (o : Option Settings) → granted_by child parent o ≡ Some grant
        → parent ≡ grant.parent
    of-config parent None h = absurd cc
    of-config parent (Some k) h = by k.deleted h
      where
        by : (b : Bool) → cond b None (granted parent (child_of k.children child)) ≡ Some grant
            → parent ≡ grant.parent
        by true h = absurd cc
        by false h = of-child parent (child_of k.children child) h

    of-place : (parent : List ℕ) (o : Option ℕ) → place_of (names_of configs) parent ≡ o
        → granted_by child parent (at_place configs o) ≡ Some grant → c.parent ≡ Some parent
        → ComesFrom configs (Some c) grant
    of-place parent None p h named = absurd cc
    of-place parent (Some k) p h named =
        let same : parent ≡ grant.parent = of-config parent (slice_get configs k) h in
        record {
          called = named ∙ ap (λ (l : List ℕ). Some l) same;
          place = k;
          placed = ap (place_of (names_of configs)) (sym same) ∙ p;
        }

    to : (p : Option (List ℕ)) → c.parent ≡ p → granted_to_parent_of configs child p ≡ Some grant
        → ComesFrom configs (Some c) grant
    to None named h = absurd cc
    to (Some parent) named h =
        of-place parent (place_of (names_of configs) parent) refl h named

    on : (b : Bool) → cond b None (granted_to_parent_of configs child c.parent) ≡ Some grant
        → ComesFrom configs (Some c) grant
    on true h = absurd cc
    on false h = to c.parent refl h

-- What comes down to a name that isn't the anchor comes with its grant.
pub record ComesDown (configs : List Settings) (parents : ℕ) (name : List ℕ) (family : Family)
    (number : ℕ) : Type 0 where
  pub grant : Grant
  pub is : grant_of configs name ≡ Some grant
  pub above : certified configs parents grant.parent family number ≡ true
  pub granted : has grant.resources family number ≡ true

pub comes-down : (configs : List Settings) (parents : ℕ) (name : List ℕ) (family : Family) (number : ℕ)
    → is_anchor name ≡ false → certified configs (suc parents) name family number ≡ true
    → ComesDown configs parents name family number
comes-down configs parents name family number other h =
    by (grant_of configs name) refl
    (subst (λ (b : Bool). cond b (nat_lt number (family_end family))
    (passed_on (certified configs parents) (grant_of configs name) family number) ≡ true) other h)
  where
    by : (o : Option Grant) → grant_of configs name ≡ o
        → passed_on (certified configs parents) o family number ≡ true
        → ComesDown configs parents name family number
    by None e h = absurd (false≢true h)
    by (Some g) e h =
        let p = and_parts (certified configs parents g.parent family number) (has g.resources family number) h in
        record { grant = g; is = e; above = p.0; granted = p.1 }

-- What comes down along fewer parents comes down along more.
pub certified-more : (configs : List Settings) (n : ℕ) (name : List ℕ) (f : Family) (x : ℕ)
    → certified configs n name f x ≡ true → certified configs (suc n) name f x ≡ true
certified-more configs zero name f x h = by (is_anchor name) h
  where
    by : (b : Bool) → (b && nat_lt x (family_end f)) ≡ true
        → cond b (nat_lt x (family_end f)) (passed_on (certified configs zero) (grant_of configs name) f x) ≡ true
    by true h = h
    by false h = absurd (false≢true h)
certified-more configs (suc n) name f x h =
    by (is_anchor name) (grant_of configs name) (λ parent i. certified-more configs n parent f x i) h
  where
    by : (b : Bool) (o : Option Grant)
        → ((parent : List ℕ) → certified configs n parent f x ≡ true → certified configs (suc n) parent f x ≡ true)
        → cond b (nat_lt x (family_end f)) (passed_on (certified configs n) o f x) ≡ true
        → cond b (nat_lt x (family_end f)) (passed_on (certified configs (suc n)) o f x) ≡ true
    by true o up h = h
    by false None up h = h
    by false (Some g) up h =
        let p = and_parts (certified configs n g.parent f x) (has g.resources f x) h in
        and_from (certified configs (suc n) g.parent f x) (has g.resources f x) (up g.parent p.0) p.1

-- ---- levels

-- A name that has a grant is a level below the grant's parent.
pub level-below : (configs : List Settings) (name : List ℕ) (grant : Grant) (parents : ℕ)
    → is_anchor name ≡ false → grant_of configs name ≡ Some grant
    → is_level configs (suc parents) name ≡ is_level configs parents grant.parent
level-below configs name grant parents other is =
    ap (λ (b : Bool). not b && reaches_from (is_level configs parents) (grant_of configs name)) other
    ∙ ap (λ (o : Option Grant). reaches_from (is_level configs parents) o) is

level-parts : (configs : List Settings) (name : List ℕ) (parents : ℕ)
    → is_level configs (suc parents) name ≡ true
    → (is_anchor name ≡ false) × (grant : Grant) × (grant_of configs name ≡ Some grant)
    × (is_level configs parents grant.parent ≡ true)
level-parts configs name parents h = by (is_anchor name) (grant_of configs name) refl refl h
  where
    by : (b : Bool) (o : Option Grant) → is_anchor name ≡ b → grant_of configs name ≡ o
        → (not b && reaches_from (is_level configs parents) o) ≡ true
        → (is_anchor name ≡ false) × (grant : Grant) × (grant_of configs name ≡ Some grant)
        × (is_level configs parents grant.parent ≡ true)
    by true o e f h = absurd (false≢true h)
    by false None e f h = absurd (false≢true h)
    by false (Some g) e f h = (e, g, f, h)

-- A name has one level.
pub one-level : (configs : List Settings) (i j : ℕ) (name : List ℕ) → is_level configs i name ≡ true
    → is_level configs j name ≡ true → i ≡ j
one-level configs zero zero name one two = refl
one-level configs zero (suc j) name one two =
    absurd (true≢false (sym one ∙ (level-parts configs name j two).0))
one-level configs (suc i) zero name one two =
    absurd (true≢false (sym two ∙ (level-parts configs name i one).0))
one-level configs (suc i) (suc j) name one two =
    let a = level-parts configs name i one in
    let b = level-parts configs name j two in
    let same : a.1 ≡ b.1 = same_Some a.1 b.1 (sym a.2 ∙ b.2) in
    ap suc (one-level configs i j b.1.parent
    (subst (λ (g : Grant). is_level configs i g.parent ≡ true) same a.3) b.3)

-- A name to which something is certified has a level.
pub some-level : (configs : List Settings) (n : ℕ) (name : List ℕ) (f : Family) (x : ℕ)
    → certified configs n name f x ≡ true
    → (level : ℕ) × (level ≤ n) × (is_level configs level name ≡ true)
some-level configs zero name f x h = (
  0,
  omega arith,
  (and_parts (is_anchor name) (nat_lt x (family_end f)) h).0,
)
some-level configs (suc n) name f x h =
    by (is_anchor name) refl (λ parent up. some-level configs n parent f x up)
  where
    by : (b : Bool) → is_anchor name ≡ b
        → ((parent : List ℕ) → certified configs n parent f x ≡ true
        → (level : ℕ) × (level ≤ n) × (is_level configs level parent ≡ true))
        → (level : ℕ) × (level ≤ suc n) × (is_level configs level name ≡ true)
    by true e above = (0, omega arith, e)
    by false e above =
        let down = comes-down configs n name f x e h in
        let up = above down.grant.parent down.above in
        let low = up.1 in (
          suc up.0,
          omega (arith, low),
          level-below configs name down.grant up.0 e down.is ∙ up.2,
        )
