-- How far names are from the anchor, and what is certified to those that are too far.
use Rattle.std.proofs.Common.{◌≡◌, ℕ, ◌+◌, zero, suc, arith, Bool, true, false, refl, sym, ◌∙◌, ap, List, cond}
use Rattle.std.specs.Prelude.{Option, None, Some, option_map, ◌&&◌, nat_lt}
use Rattle.res_sets.specs.declared.numbers.Family.{Family}
use Rattle.res_sets.specs.Numbers.{family_end}
use Rattle.res_sets.specs.Triples.{has}
use Rattle.authority_book.specs.Settings.{Settings}
use Rattle.entitle.specs.Certified.{Grant, is_anchor, grant_of, passed_on, certified}
use Rattle.entitle.specs.inner.Steps.{reaches, reaches_from}

-- A name that is granted nothing is out of reach.
pub reaches_last : (configs : List Settings) (parents : ℕ) (name : List ℕ) → is_anchor name ≡ false → grant_of configs name ≡ None →
    reaches configs parents name ≡ false
reaches_last configs zero name other none = other
reaches_last configs (suc parents) name other none =
    ap (λ b. cond b true (reaches_from (reaches configs parents) (grant_of configs name))) other ∙ ap (reaches_from (reaches configs parents)) none

-- A name is as far from the anchor as its parent, and one more.
pub reaches_next : (configs : List Settings) (parents : ℕ) (name : List ℕ) (grant : Grant) → is_anchor name ≡ false →
    grant_of configs name ≡ Some grant → reaches configs (suc parents) name ≡ reaches configs parents grant.parent
reaches_next configs parents name grant other is =
    ap (λ b. cond b true (reaches_from (reaches configs parents) (grant_of configs name))) other ∙ ap (reaches_from (reaches configs parents)) is

-- What is certified to a name that isn't the anchor.
pub certified_next : (configs : List Settings) (parents : ℕ) (name : List ℕ) (family : Family) (number : ℕ) → is_anchor name ≡ false →
    certified configs (suc parents) name family number ≡ passed_on (certified configs parents) (grant_of configs name) family number
certified_next configs parents name family number other =
    ap (λ b. cond b (nat_lt number (family_end family)) (passed_on (certified configs parents) (grant_of configs name) family number)) other

anchor_first : (anchor rest : Bool) → cond anchor true rest ≡ false → (anchor ≡ false) × (rest ≡ false)
anchor_first true rest none = absurd (cc)
anchor_first false rest none = (refl, none)

-- Nothing is certified to a name that is too far.
pub certified_none : (configs : List Settings) (parents : ℕ) (name : List ℕ) (family : Family) (number : ℕ) →
    reaches configs parents name ≡ false → certified configs parents name family number ≡ false
certified_none configs zero name family number far = ap (λ b. b && nat_lt number (family_end family)) far
certified_none configs (suc parents) name family number far =
    let apart = anchor_first (is_anchor name) (reaches_from (reaches configs parents) (grant_of configs name)) far in
    certified_next configs parents name family number apart.0 ∙ by_grant (grant_of configs name) apart.1 (λ above. certified_none configs parents above family number)
  where
    by_grant : (grant : Option Grant) → reaches_from (reaches configs parents) grant ≡ false →
        ((above : List ℕ) → reaches configs parents above ≡ false → certified configs parents above family number ≡ false) →
        passed_on (certified configs parents) grant family number ≡ false
    by_grant None far further = refl
    by_grant (Some grant) far further = ap (λ b. b && has grant.resources family number) (further grant.parent far)

-- What is certified to a name within reach stays, however many more parents are followed.
pub certified_stays : (configs : List Settings) (parents : ℕ) (name : List ℕ) (family : Family) (number : ℕ) →
    reaches configs parents name ≡ true → certified configs (suc parents) name family number ≡ certified configs parents name family number
certified_stays configs zero name family number near =
    ap (λ b. cond b (nat_lt number (family_end family)) (passed_on (certified configs zero) (grant_of configs name) family number)) near
    ∙ sym (ap (λ b. b && nat_lt number (family_end family)) near)
certified_stays configs (suc parents) name family number near =
    by_anchor (is_anchor name) refl near (λ above. certified_stays configs parents above family number)
  where
    by_grant : (grant : Option Grant) → reaches_from (reaches configs parents) grant ≡ true →
        ((above : List ℕ) → reaches configs parents above ≡ true →
        certified configs (suc parents) above family number ≡ certified configs parents above family number) →
        passed_on (certified configs (suc parents)) grant family number ≡ passed_on (certified configs parents) grant family number
    by_grant None near further = absurd (cc)
    by_grant (Some grant) near further = ap (λ b. b && has grant.resources family number) (further grant.parent near)

    by_anchor : (anchor : Bool) → is_anchor name ≡ anchor →
        cond anchor true (reaches_from (reaches configs parents) (grant_of configs name)) ≡ true →
        ((above : List ℕ) → reaches configs parents above ≡ true →
        certified configs (suc parents) above family number ≡ certified configs parents above family number) →
        certified configs (suc (suc parents)) name family number ≡ certified configs (suc parents) name family number
    by_anchor true is near further =
        ap (λ b. cond b (nat_lt number (family_end family)) (passed_on (certified configs (suc parents)) (grant_of configs name) family number)) is
        ∙ sym (ap (λ b. cond b (nat_lt number (family_end family)) (passed_on (certified configs parents) (grant_of configs name) family number)) is)
    by_anchor false is near further =
        certified_next configs (suc parents) name family number is
        ∙ (by_grant (grant_of configs name) near further ∙ sym (certified_next configs parents name family number is))

-- A name within reach stays within reach.
reaches_more : (configs : List Settings) (parents : ℕ) (name : List ℕ) → reaches configs parents name ≡ true →
    reaches configs (suc parents) name ≡ true
reaches_more configs zero name near =
    ap (λ b. cond b true (reaches_from (reaches configs zero) (grant_of configs name))) near
reaches_more configs (suc parents) name near =
    by_anchor (is_anchor name) refl near (λ above. reaches_more configs parents above)
  where
    by_grant : (grant : Option Grant) → reaches_from (reaches configs parents) grant ≡ true →
        ((above : List ℕ) → reaches configs parents above ≡ true → reaches configs (suc parents) above ≡ true) →
        reaches_from (reaches configs (suc parents)) grant ≡ true
    by_grant None near further = absurd (cc)
    by_grant (Some grant) near further = further grant.parent near

    by_anchor : (anchor : Bool) → is_anchor name ≡ anchor →
        cond anchor true (reaches_from (reaches configs parents) (grant_of configs name)) ≡ true →
        ((above : List ℕ) → reaches configs parents above ≡ true → reaches configs (suc parents) above ≡ true) →
        reaches configs (suc (suc parents)) name ≡ true
    by_anchor true is near further =
        ap (λ b. cond b true (reaches_from (reaches configs (suc parents)) (grant_of configs name))) is
    by_anchor false is near further =
        ap (λ b. cond b true (reaches_from (reaches configs (suc parents)) (grant_of configs name))) is
        ∙ by_grant (grant_of configs name) near further

pub reaches_up : (configs : List Settings) (more parents : ℕ) (name : List ℕ) → reaches configs parents name ≡ true →
    reaches configs (more + parents) name ≡ true
reaches_up configs zero parents name near =
    let same : 0 + parents ≡ parents = omega arith in
    ap (λ n. reaches configs n name) same ∙ near
reaches_up configs (suc more) parents name near =
    let next : suc more + parents ≡ suc (more + parents) = omega arith in
    ap (λ n. reaches configs n name) next ∙ reaches_more configs (more + parents) name (reaches_up configs more parents name near)

-- What looking for the parent has told of the grant.
pub without_grant : (grant : Option Grant) → option_map (λ (g : Grant). g.parent) grant ≡ None → grant ≡ None
without_grant None none = refl
without_grant (Some grant) none = absurd (cc)

pub with_grant : (grant : Option Grant) (parent : List ℕ) → option_map (λ (g : Grant). g.parent) grant ≡ Some parent →
    (g : Grant) × (grant ≡ Some g) × (g.parent ≡ parent)
with_grant None parent some = absurd (cc)
with_grant (Some grant) parent some =
    let same : grant.parent ≡ parent = cc in
    (grant, refl, same)
