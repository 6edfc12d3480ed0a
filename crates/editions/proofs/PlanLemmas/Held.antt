-- Each key but the trust anchor's has a certificate, since its authority holds something.
use Rattle.std.proofs.Common.{◌≡◌, ◌≢◌, ℕ, ◌<◌, zero, suc, Bool, true, false, cond, ◌&&◌, Option, None, Some, List, length, get_or, refl, sym, ap, subst, ◌∙◌, arith}
use Rattle.std.specs.Prelude.{nat_lt}
use Rattle.std.specs.List.{slice_get}
use Rattle.std.proofs.lemmas.Bool.{false≢true, and_parts}
use Rattle.std.proofs.lemmas.Option.{same_Some, slice_get_within, get_or_from_slice_get, slice_get-get_or}
use Rattle.res_sets.specs.declared.numbers.Family.{Family}
use Rattle.res_sets.specs.declared.holdings.Resources.{Resources}
use Rattle.res_sets.specs.Numbers.{family_end}
use Rattle.res_sets.specs.Triples.{has}
use Rattle.authority_book.specs.declared.rows.NameRow.{NameRow}
use Rattle.authority_book.specs.declared.rows.Child.{Child}
use Rattle.authority_book.specs.Settings.{Settings}
use Rattle.authority_book.specs.Listed.{place_of, child_of}
use Rattle.entitle.specs.Certified.{names_of, at_place, config_of, is_anchor, Grant, granted, granted_by, granted_to_parent_of, granted_to, grant_of, passed_on, certified, most_parents}
use Rattle.issue_plan.specs.Keys.{Basis, holds_nothing}
use Rattle.issue_plan.specs.Wanted.{parents_desk, parent_of, desk_of}
use Rattle.editions.specs.inner.PlannedWork.{AreNamed}
use Rattle.editions.proofs.PlanLemmas.Places.{name-at, placed, no-anchor, has-some, holds-some}

-- ---- what comes down

pub more : (configs : List Settings) (n : ℕ) (name : List ℕ) (f : Family) (x : ℕ) → certified configs n name f x ≡ true
    → certified configs (suc n) name f x ≡ true
more configs zero name f x h = by (is_anchor name) h
  where
    by : (b : Bool) → (b && nat_lt x (family_end f)) ≡ true
        → cond b (nat_lt x (family_end f)) (passed_on (certified configs zero) (grant_of configs name) f x) ≡ true
    by true h = h
    by false h = absurd (false≢true h)
more configs (suc n) name f x h = by (is_anchor name) (grant_of configs name) (λ parent i. more configs n parent f x i) h
  where
    by : (b : Bool) (o : Option Grant)
        → ((parent : List ℕ) → certified configs n parent f x ≡ true → certified configs (suc n) parent f x ≡ true)
        → cond b (nat_lt x (family_end f)) (passed_on (certified configs n) o f x) ≡ true
        → cond b (nat_lt x (family_end f)) (passed_on (certified configs (suc n)) o f x) ≡ true
    by true o up h = h
    by false None up h = h
    by false (Some g) up h =
        let p = and_parts (certified configs n g.parent f x) (has g.resources f x) h in
        ap (λ (b : Bool). b && has g.resources f x) (up g.parent p.0) ∙ p.1

-- What a grant passes on is its parent's, who has a place.
record IsFrom (configs : List Settings) (above : List ℕ → Family → ℕ → Bool) (f : Family) (x : ℕ) (parent : List ℕ) : Type 0 where
  pub place : ℕ
  pub placed : place_of (names_of configs) parent ≡ Some place
  pub held : above parent f x ≡ true

from-parent : (configs : List Settings) (above : List ℕ → Family → ℕ → Bool) (f : Family) (x : ℕ) (child parent : List ℕ)
    → passed_on above (granted_by child parent (config_of configs parent)) f x ≡ true → IsFrom configs above f x parent
from-parent configs above f x child parent h = by (place_of (names_of configs) parent) refl h
  where
    of-child : (o : Option Child) → passed_on above (granted parent o) f x ≡ true → above parent f x ≡ true
    of-child None h = absurd (false≢true h)
    of-child (Some c) h = on c.suspended h
      where
        on : (b : Bool) → passed_on above (cond b None (Some (record { parent = parent; resources = c.grant }))) f x ≡ true
            → above parent f x ≡ true
        on true h = absurd (false≢true h)
        on false h = (and_parts (above parent f x) (has c.grant f x) h).0

    of-config : (o : Option Settings) → passed_on above (granted_by child parent o) f x ≡ true → above parent f x ≡ true
    of-config None h = absurd (false≢true h)
    of-config (Some c) h = on c.deleted h
      where
        on : (b : Bool) → passed_on above (cond b None (granted parent (child_of c.children child))) f x ≡ true
            → above parent f x ≡ true
        on true h = absurd (false≢true h)
        on false h = of-child (child_of c.children child) h

    by : (o : Option ℕ) → place_of (names_of configs) parent ≡ o
        → passed_on above (granted_by child parent (at_place configs o)) f x ≡ true → IsFrom configs above f x parent
    by None e h = absurd (false≢true h)
    by (Some place) e h = record { place = place; placed = e; held = of-config (slice_get configs place) h }

-- The same of a configuration.
record HasParent (configs : List Settings) (above : List ℕ → Family → ℕ → Bool) (f : Family) (x : ℕ) (o : Option Settings)
    : Type 0 where
  pub parent : List ℕ
  pub named : parent_of o ≡ Some parent
  pub from : IsFrom configs above f x parent

has-parent : (configs : List Settings) (above : List ℕ → Family → ℕ → Bool) (f : Family) (x : ℕ) (child : List ℕ) (o : Option Settings)
    → passed_on above (granted_to configs child o) f x ≡ true → HasParent configs above f x o
has-parent configs above f x child None h = absurd (false≢true h)
has-parent configs above f x child (Some c) h = on c.deleted h
  where
    to : (p : Option (List ℕ)) → c.parent ≡ p → passed_on above (granted_to_parent_of configs child p) f x ≡ true
        → HasParent configs above f x (Some c)
    to None e h = absurd (false≢true h)
    to (Some parent) e h = record { parent = parent; named = e; from = from-parent configs above f x child parent h }

    on : (b : Bool) → passed_on above (cond b None (granted_to_parent_of configs child c.parent)) f x ≡ true
        → HasParent configs above f x (Some c)
    on true h = absurd (false≢true h)
    on false h = to c.parent refl h

-- ---- no parent of its own

-- What comes down to an authority comes of another one: to one that is its own parent nothing comes.
own-none : (configs : List Settings) (name : List ℕ) (f : Family) (x : ℕ) → is_anchor name ≡ false
    → parent_of (config_of configs name) ≡ Some name → (n : ℕ) → certified configs n name f x ≡ true → ⊥
own-none configs name f x other own zero h =
    false≢true (ap (λ (b : Bool). b && nat_lt x (family_end f)) (sym other) ∙ h)
own-none configs name f x other own (suc n) h =
    let passed : passed_on (certified configs n) (grant_of configs name) f x ≡ true =
    subst (λ (b : Bool). cond b (nat_lt x (family_end f)) (passed_on (certified configs n) (grant_of configs name) f x) ≡ true) other h in
    let w = has-parent configs (certified configs n) f x name (config_of configs name) passed in
    let same : w.parent ≡ name = same_Some w.parent name (sym w.named ∙ own) in
    own-none configs name f x other own n (subst (λ (p : List ℕ). certified configs n p f x ≡ true) same w.from.held)

-- ---- the parent's desk

-- An authority's parent is at a desk, and holds something.
pub record IsBelow (basis : Basis) (desk : ℕ) : Type 0 where
  pub place : ℕ
  pub is : parents_desk basis.configs desk ≡ Some place
  pub name : NameRow
  pub named : slice_get (names_of basis.configs) place ≡ Some name
  pub set : Resources
  pub has_set : slice_get basis.sets place ≡ Some set
  pub some : holds_nothing set ≡ false
  pub parent : List ℕ
  pub called : parent_of (slice_get basis.configs desk) ≡ Some parent
  pub says : name.name ≡ parent
  pub other : place ≢ desk

pub is-below : (basis : Basis) (desk : ℕ) (name : NameRow) (set : Resources) → AreNamed basis → desk ≢ 0
    → slice_get (names_of basis.configs) desk ≡ Some name → slice_get basis.sets desk ≡ Some set → holds_nothing set ≡ false
    → IsBelow basis desk
is-below basis desk name set are other named sized some =
    let names = names_of basis.configs in
    let w = has-some set some in
    let inside : desk < length basis.sets = slice_get_within basis.sets desk set sized in
    let here : get_or basis.sets desk set ≡ set = get_or_from_slice_get basis.sets desk set set sized in
    let there : get_or names desk name ≡ name = get_or_from_slice_get names desk name name named in
    let held : certified basis.configs (suc 63) name.name w.0 w.1 ≡ true =
    sym (ap (λ (r : NameRow). certified basis.configs most_parents r.name w.0 w.1) there)
    ∙ (sym (are.certified.members desk name set inside w.0 w.1) ∙ (ap (λ (r : Resources). has r w.0 w.1) here ∙ w.2)) in
    let passed : passed_on (certified basis.configs 63) (grant_of basis.configs name.name) w.0 w.1 ≡ true =
    subst (λ (b : Bool). cond b (nat_lt w.1 (family_end w.0)) (passed_on (certified basis.configs 63) (grant_of basis.configs name.name) w.0 w.1) ≡ true)
    (no-anchor names desk name are.tree named other) held in
    let own : passed_on (certified basis.configs 63) (granted_to basis.configs name.name (slice_get basis.configs desk)) w.0 w.1 ≡ true =
    subst (λ (o : Option ℕ). passed_on (certified basis.configs 63) (granted_to basis.configs name.name (at_place basis.configs o)) w.0 w.1 ≡ true)
    (placed names desk name are.tree.apart named) passed in
    let h = has-parent basis.configs (certified basis.configs 63) w.0 w.1 name.name (slice_get basis.configs desk) own in
    let p = h.from.place in
    let at = name-at names h.parent p name h.from.placed in
    let low : p < length basis.sets = omega (arith, at.0, are.certified.one_each) in
    let up : certified basis.configs most_parents h.parent w.0 w.1 ≡ true = more basis.configs 63 h.parent w.0 w.1 h.from.held in
    let all : has (get_or basis.sets p set) w.0 w.1 ≡ true =
    are.certified.members p name set low w.0 w.1
    ∙ (ap (λ (n : List ℕ). certified basis.configs most_parents n w.0 w.1) at.1 ∙ up) in record {
      place = p;
      is = ap (desk_of basis.configs) h.named ∙ h.from.placed;
      name = get_or names p name;
      named = slice_get-get_or names p name at.0;
      set = get_or basis.sets p set;
      has_set = slice_get-get_or basis.sets p set low;
      some = holds-some (get_or basis.sets p set) w.0 w.1 all;
      parent = h.parent;
      called = h.named;
      says = at.1;
      other = λ same.
          let mine : name.name ≡ h.parent =
          sym (ap (λ (r : NameRow). r.name) there)
          ∙ (ap (λ (k : ℕ). (get_or names k name).name) (sym same) ∙ at.1) in
          let own_parent : parent_of (config_of basis.configs name.name) ≡ Some name.name =
          ap (λ (o : Option ℕ). parent_of (at_place basis.configs o)) (placed names desk name are.tree.apart named)
          ∙ (h.named ∙ ap (λ (l : List ℕ). Some l) (sym mine)) in
          own-none basis.configs name.name w.0 w.1 (no-anchor names desk name are.tree named other) own_parent (suc 63) held;
    }
