-- What comes down to a name in its turn.
use Rattle.std.proofs.Common.{◌≡◌, ℕ, ◌+◌, ◌-◌, ◌<◌, ◌≤◌, zero, suc, Bool, true, false, refl, sym, ◌∙◌, ap, subst, arith, length, get_or, set, List, inl, inr}
use Rattle.std.specs.Prelude.{◌⊎◌, ◌≢◌, Option, None, Some, Result, Ok, Err, IfOk, ◌&&◌}
use Rattle.std.proofs.lemmas.Bool.{cases_lt}
use Rattle.std.proofs.lemmas.List.{length-set, get_or-set_other}
use Rattle.std.proofs.lemmas.Grind.{get_or-set_at}
use Rattle.std.proofs.lemmas.Option.{slice_get-get_or}
use Rattle.res_sets.specs.declared.numbers.Family.{Family}
use Rattle.res_sets.specs.declared.numbers.Family.TheVariants.{Asn, V4, V6}
use Rattle.res_sets.specs.declared.holdings.Resources.{Resources}
use Rattle.res_sets.specs.Triples.{has, AreMeets}
use Rattle.authority_book.specs.declared.rows.NameRow.{NameRow}
use Rattle.authority_book.specs.Settings.{Settings}
use Rattle.authority_book.specs.Listed.{place_of}
use Rattle.entitle.specs.Certified.{Grant, names_of, is_anchor, grant_of, passed_on, certified, most_parents}
use Rattle.entitle.specs.inner.Steps.{reaches, IsReachedBy, IsSteps, has_of, set_at, has_at}
use Rattle.entitle.proofs.Reaching.{reaches_next, certified_next, certified_none, certified_stays, reaches_up}
use Rattle.entitle.proofs.Parents.{parent_placed, place_is}

-- Each set has what comes down along so many parents and one more, or along so many.
pub record IsBetween (configs : List Settings) (parents : ℕ) (sets : List Resources) (family : Family) (number : ℕ) : Type 0 where
  pub one_each : length sets ≡ length (names_of configs)
  pub either : (place : ℕ) (row : NameRow) (set : Resources) → place < length sets →
      (has (get_or sets place set) family number ≡ certified configs (suc parents) (get_or (names_of configs) place row).name family number)
      ⊎ (has (get_or sets place set) family number ≡ certified configs parents (get_or (names_of configs) place row).name family number)

-- The parent's set has what is certified to the parent.
has_above : (configs : List Settings) (name : List ℕ) (parents : ℕ) (sets : List Resources) (family : Family) (number : ℕ) (grant : Grant) →
    grant_of configs name ≡ Some grant → reaches configs parents grant.parent ≡ true → IsBetween configs parents sets family number →
    has_at (names_of configs) sets grant.parent family number ≡ certified configs parents grant.parent family number
has_above configs name parents sets family number grant is near between =
    let placed = parent_placed configs name grant is in
    let row : NameRow = record { name = grant.parent; signer = 0 } in
    let within : placed.place < length sets = rw between.one_each placed.is.within in
    ap (λ p. has_of (set_at sets p) family number) placed.is.found
    ∙ (ap (λ s. has_of s family number) (slice_get-get_or sets placed.place grant.resources within)
    ∙ elim (between.either placed.place row grant.resources within) [
      | inl next ↦ next ∙ (ap (λ n. certified configs (suc parents) n family number) (placed.is.named row)
          ∙ certified_stays configs parents grant.parent family number near)
      | inr before ↦ before ∙ ap (λ n. certified configs parents n family number) (placed.is.named row)
    ])

-- What a name gets in its turn is what is certified to it.
pub arrives : (configs : List Settings) (name : List ℕ) (parents : ℕ) (sets : List Resources) (family : Family) (number : ℕ) →
    IsReachedBy configs name (suc parents) → IsBetween configs parents sets family number →
    passed_on (has_at (names_of configs) sets) (grant_of configs name) family number ≡ certified configs (suc parents) name family number
arrives configs name parents sets family number reached between =
    let other : is_anchor name ≡ false = reached.least zero (omega arith) in
    by_grant (grant_of configs name) refl other ∙ sym (certified_next configs parents name family number other)
  where
    by_grant : (grant : Option Grant) → grant_of configs name ≡ grant → is_anchor name ≡ false →
        passed_on (has_at (names_of configs) sets) grant family number ≡ passed_on (certified configs parents) (grant_of configs name) family number
    by_grant None is other = sym (ap (λ g. passed_on (certified configs parents) g family number) is)
    by_grant (Some grant) is other =
        let near : reaches configs parents grant.parent ≡ true = sym (reaches_next configs parents name grant other is) ∙ reached.enough in
        ap (λ b. b && has grant.resources family number) (has_above configs name parents sets family number grant is near between)
        ∙ sym (ap (λ g. passed_on (certified configs parents) g family number) is)

-- What is certified to a name changes in its turn alone.
pub settled : (configs : List Settings) (name : List ℕ) (parents : ℕ) (steps : Option ℕ) (family : Family) (number : ℕ) →
    IsSteps configs name steps → (steps ≡ Some (suc parents) → ⊥) → parents < most_parents →
    certified configs (suc parents) name family number ≡ certified configs parents name family number
settled configs name parents None family number far unlike within =
    certified_none configs (suc parents) name family number (far (suc parents) (omega arith))
    ∙ sym (certified_none configs parents name family number (far parents (omega arith)))
settled configs name parents (Some steps) family number reached unlike within = elim (cases_lt parents steps) [
  | inl before ↦
      let past : suc parents < steps = by_gap steps before unlike in
      certified_none configs (suc parents) name family number (reached.least (suc parents) past)
      ∙ sym (certified_none configs parents name family number (reached.least parents (omega arith)))
  | inr after ↦
      let gap : parents - steps + steps ≡ parents = omega arith in
      certified_stays configs parents name family number
      (ap (λ n. reaches configs n name) (sym gap) ∙ reaches_up configs (parents - steps) steps name reached.enough)
]
  where
    by_gap : (steps : ℕ) → parents < steps → (Some steps ≡ Some (suc parents) → ⊥) → suc parents < steps
    by_gap steps before unlike = elim (cases_lt (suc parents) steps) [
      | inl past ↦ past
      | inr not_past ↦
          let same : steps ≡ suc parents = omega arith in
          absurd (unlike (ap (λ n. Some n) same))
    ]

meets_has : (a b both : Resources) (family : Family) (number : ℕ) → AreMeets a b both →
    has both family number ≡ (has a family number && has b family number)
meets_has a b both Asn number meets = meets.asn.members number
meets_has a b both V4 number meets = meets.v4.members number
meets_has a b both V6 number meets = meets.v6.members number

-- What a meet of the parent's set and the grant has.
pub from_meet : {E : Type 0} (r : Result Resources E) (a b : Resources) (right : Family → ℕ → Bool) → IfOk r (AreMeets a b) →
    ((family : Family) (number : ℕ) → (has a family number && has b family number) ≡ right family number) →
    IfOk r (λ set. (family : Family) (number : ℕ) → has set family number ≡ right family number)
from_meet (Ok set) a b right meets same = λ family number. meets_has a b set family number meets ∙ same family number
from_meet (Err fault) a b right meets same = tt

-- What comes down with a grant from the set at the parent's place.
pub from_parent_at : (configs : List Settings) (name : List ℕ) (sets : List Resources) (grant : Grant) (place : ℕ) (set : Resources)
    (family : Family) (number : ℕ) → grant_of configs name ≡ Some grant → place_of (names_of configs) grant.parent ≡ Some place →
    length sets ≡ length (names_of configs) → set ≡ get_or sets place set →
    (has set family number && has grant.resources family number) ≡ passed_on (has_at (names_of configs) sets) (grant_of configs name) family number
from_parent_at configs name sets grant place set family number is found one_each at =
    let within : place < length sets = rw one_each (place_is (names_of configs) grant.parent place found).within in
    let here : has_at (names_of configs) sets grant.parent family number ≡ has set family number =
    ap (λ p. has_of (set_at sets p) family number) found
    ∙ (ap (λ s. has_of s family number) (slice_get-get_or sets place set within)
    ∙ ap (λ (s : Resources). has s family number) (sym at)) in
    ap (λ b. b && has grant.resources family number) (sym here)
    ∙ sym (ap (λ g. passed_on (has_at (names_of configs) sets) g family number) is)

-- The sets before a place have what comes along so many parents, and the others along one fewer.
pub record AreUpTo (configs : List Settings) (parents place : ℕ) (sets : List Resources) : Type 0 where
  pub one_each : length sets ≡ length (names_of configs)
  pub done : (earlier : ℕ) (row : NameRow) (set : Resources) → earlier < place → (family : Family) (number : ℕ) →
      has (get_or sets earlier set) family number ≡ certified configs parents (get_or (names_of configs) earlier row).name family number
  pub left : (later : ℕ) (row : NameRow) (set : Resources) → place ≤ later → later < length sets → (family : Family) (number : ℕ) →
      has (get_or sets later set) family number ≡ certified configs (parents - 1) (get_or (names_of configs) later row).name family number

between : (configs : List Settings) (parents place : ℕ) (sets : List Resources) (family : Family) (number : ℕ) → 0 < parents →
    AreUpTo configs parents place sets → IsBetween configs (parents - 1) sets family number
between configs parents place sets family number some upto = record {
  one_each = upto.one_each;
  either = λ at row set within. elim (cases_lt at place) [
    | inl before ↦
        let next : parents ≡ suc (parents - 1) = omega arith in
        inl (upto.done at row set before family number ∙ ap (λ n. certified configs n (get_or (names_of configs) at row).name family number) next)
    | inr from ↦ inr (upto.left at row set from within family number)
  ];
}

-- A name whose turn it isn't.
pub upto_same : (configs : List Settings) (parents place : ℕ) (sets : List Resources) (steps : Option ℕ) → 0 < parents → parents ≤ most_parents →
    place < length (names_of configs) → ((row : NameRow) → IsSteps configs (get_or (names_of configs) place row).name steps) →
    (steps ≡ Some parents → ⊥) → AreUpTo configs parents place sets → AreUpTo configs parents (place + 1) sets
upto_same configs parents place sets steps some within here needs unlike upto = record {
  one_each = upto.one_each;
  done = λ earlier row set before family number. elim (cases_lt earlier place) [
    | inl passed ↦ upto.done earlier row set passed family number
    | inr from ↦
        let same : earlier ≡ place = omega arith in
        let next : suc (parents - 1) ≡ parents = omega arith in
        let name = (get_or (names_of configs) earlier row).name in
        let turn : IsSteps configs name steps = subst (λ n. IsSteps configs (get_or (names_of configs) n row).name steps) (sym same) (needs row) in
        upto.left earlier row set from (rw upto.one_each (omega arith)) family number
        ∙ (sym (settled configs name (parents - 1) steps family number turn (λ is. unlike (is ∙ ap (λ n. Some n) next)) (omega arith))
        ∙ ap (λ n. certified configs n name family number) next)
  ];
  left = λ later row set from small family number. upto.left later row set (omega arith) small family number;
}

-- A name whose turn it is.
pub upto_next : (configs : List Settings) (parents place : ℕ) (sets : List Resources) (name : List ℕ) (new : Resources) → 0 < parents →
    place < length (names_of configs) → ((row : NameRow) → (get_or (names_of configs) place row).name ≡ name) → IsReachedBy configs name parents →
    ((family : Family) (number : ℕ) → has new family number ≡ passed_on (has_at (names_of configs) sets) (grant_of configs name) family number) →
    AreUpTo configs parents place sets → AreUpTo configs parents (place + 1) (set sets place new)
upto_next configs parents place sets name new some here named reached made upto = record {
  one_each = length-set sets place new ∙ upto.one_each;
  done = λ earlier row other before family number. elim (cases_lt earlier place) [
    | inl passed ↦
        let apart : earlier ≢ place = λ same. absurd (omega (arith, same, passed)) in
        ap (λ (s : Resources). has s family number) (get_or-set_other sets place earlier new other apart) ∙ upto.done earlier row other passed family number
    | inr from ↦
        let same : earlier ≡ place = omega arith in
        let next : parents ≡ suc (parents - 1) = omega arith in
        let turn : IsReachedBy configs name (suc (parents - 1)) = subst (λ n. IsReachedBy configs name n) next reached in
        ap (λ (s : Resources). has s family number) (get_or-set_at sets place earlier new other same (rw upto.one_each here))
        ∙ (made family number
        ∙ (arrives configs name (parents - 1) sets family number turn (between configs parents place sets family number some upto)
        ∙ (ap (λ n. certified configs n name family number) (sym next)
        ∙ ap (λ n. certified configs parents n family number) (sym (ap (λ n. (get_or (names_of configs) n row).name) same ∙ named row)))))
  ];
  left = λ later row other from small family number.
      let apart : later ≢ place = λ same. absurd (omega (arith, same, from)) in
      let inside : later < length sets = rw (length-set sets place new) at small in
      ap (λ (s : Resources). has s family number) (get_or-set_other sets place later new other apart)
      ∙ upto.left later row other (omega arith) inside family number;
}
