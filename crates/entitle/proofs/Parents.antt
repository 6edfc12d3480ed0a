-- The parent that grants a name something is listed.
use Rattle.std.proofs.Common.{◌≡◌, ℕ, ◌<◌, Bool, true, false, refl, sym, ◌∙◌, ap, arith, length, get_or, List, cond}
use Rattle.std.specs.Prelude.{Option, None, Some, nat_lt}
use Rattle.std.specs.List.{position_or_len}
use Rattle.std.specs.Str.{bytes_eq}
use Rattle.std.specs.Cmp.Lexicographic.{same_text}
use Rattle.std.proofs.lemmas.List.Sums.{passes_at_first}
use Rattle.authority_book.specs.declared.rows.NameRow.{NameRow}
use Rattle.authority_book.specs.declared.rows.Child.{Child}
use Rattle.authority_book.specs.Settings.{Settings}
use Rattle.authority_book.specs.Listed.{place_of, child_of}
use Rattle.entitle.specs.Certified.{Grant, names_of, at_place, config_of, granted, granted_by, granted_to_parent_of, granted_to, grant_of}

-- A name's place is within the list, and has the name.
pub record IsPlaceOf (names : List NameRow) (name : List ℕ) (place : ℕ) : Type 0 where
  pub found : place_of names name ≡ Some place
  pub within : place < length names
  pub named : (row : NameRow) → (get_or names place row).name ≡ name

pub place_is : (names : List NameRow) (name : List ℕ) (place : ℕ) → place_of names name ≡ Some place → IsPlaceOf names name place
place_is names name place found =
    by_test (nat_lt first (length names)) refl found
  where
    first : ℕ
    first = position_or_len (λ (row : NameRow). bytes_eq row.name name) names

    by_test : (b : Bool) → nat_lt first (length names) ≡ b → cond b (Some first) None ≡ Some place → IsPlaceOf names name place
    by_test true within at =
        let is : first ≡ place = cc in
        let small : first < length names = grind arith in
        record {
          found = found;
          within = rw (← is) small;
          named = λ row. rw (← is) (same_text (get_or names first row).name name (sym (passes_at_first (λ (r : NameRow). bytes_eq r.name name) names row small)));
        }
    by_test false past at = absurd (cc)

from_granted : (parent : List ℕ) (child : Option Child) (grant : Grant) → granted parent child ≡ Some grant → grant.parent ≡ parent
from_granted parent None grant is = absurd (cc)
from_granted parent (Some child) grant is = by_test child.suspended is
  where
    by_test : (b : Bool) → cond b None (Some (record { parent = parent; resources = child.grant })) ≡ Some grant → grant.parent ≡ parent
    by_test true at = absurd (cc)
    by_test false at =
        let same : record { parent = parent; resources = child.grant } ≡ grant = cc in
        sym (ap (λ (g : Grant). g.parent) same)

-- The parent has a configuration.
pub record HasParent (configs : List Settings) (grant : Grant) : Type 0 where
  pub config : Settings
  pub is : config_of configs grant.parent ≡ Some config

from_granted_by : (child parent : List ℕ) (above : Option Settings) (grant : Grant) → granted_by child parent above ≡ Some grant →
    (grant.parent ≡ parent) × ((config : Settings) × (above ≡ Some config))
from_granted_by child parent None grant is = absurd (cc)
from_granted_by child parent (Some config) grant is = by_test config.deleted is
  where
    by_test : (b : Bool) → cond b None (granted parent (child_of config.children child)) ≡ Some grant →
        (grant.parent ≡ parent) × ((config' : Settings) × (Some config ≡ Some config'))
    by_test true at = absurd (cc)
    by_test false at = (from_granted parent (child_of config.children child) grant at, (config, refl))

from_parent : (configs : List Settings) (child : List ℕ) (parent : Option (List ℕ)) (grant : Grant) →
    granted_to_parent_of configs child parent ≡ Some grant → HasParent configs grant
from_parent configs child None grant is = absurd (cc)
from_parent configs child (Some parent) grant is =
    let found = from_granted_by child parent (config_of configs parent) grant is in
    record { config = found.1.0; is = ap (λ p. config_of configs p) found.0 ∙ found.1.1 }

from_granted_to : (configs : List Settings) (child : List ℕ) (config : Option Settings) (grant : Grant) →
    granted_to configs child config ≡ Some grant → HasParent configs grant
from_granted_to configs child None grant is = absurd (cc)
from_granted_to configs child (Some config) grant is = by_test config.deleted is
  where
    by_test : (b : Bool) → cond b None (granted_to_parent_of configs child config.parent) ≡ Some grant → HasParent configs grant
    by_test true at = absurd (cc)
    by_test false at = from_parent configs child config.parent grant at

pub record HasParentDesk (configs : List Settings) (grant : Grant) : Type 0 where
  pub place : ℕ
  pub is : IsPlaceOf (names_of configs) grant.parent place

-- A parent that grants something has a place in the tree.
pub parent_placed : (configs : List Settings) (name : List ℕ) (grant : Grant) → grant_of configs name ≡ Some grant → HasParentDesk configs grant
parent_placed configs name grant is =
    let parent = from_granted_to configs name (config_of configs name) grant is in
    by_place (place_of (names_of configs) grant.parent) refl parent.config parent.is
  where
    by_place : (place : Option ℕ) → place_of (names_of configs) grant.parent ≡ place → (config : Settings) →
        at_place configs place ≡ Some config → HasParentDesk configs grant
    by_place None found config at = absurd (cc)
    by_place (Some place) found config at = record { place = place; is = place_is (names_of configs) grant.parent place found }
