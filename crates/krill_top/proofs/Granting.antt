-- What a workload grants, and which origins it adds.
use Rattle.std.proofs.Common.{◌≡◌, ℕ, suc, ◌+◌, List, [], ◌∷◌, ◌++◌, length, refl, sym, ap, subst, ◌∙◌, arith, append_assoc}
use Rattle.std.specs.Prelude.{Result, Ok, Err, IfOk}
use Rattle.res_sets.specs.declared.numbers.Family.TheVariants.{Asn, V4, V6}
use Rattle.res_sets.specs.declared.numbers.Range.{Range}
use Rattle.res_sets.specs.declared.holdings.Resources.{Resources}
use Rattle.res_sets.specs.Sets.{RangeSet, no_numbers, with_range}
use Rattle.origins.specs.declared.Origin.{Origin}
use Rattle.krill_top.specs.declared.generated.Wanted.{Wanted}
use Rattle.krill_top.specs.declared.generated.Wanted.TheVariants.{Add, AddChild, AddParent, AddOrigins}
use Rattle.krill_top.specs.Generated.{first_address, IsGrant, IsOriginOf, AreOriginsFrom, AreOriginsOf, generated}

pub granted_is : (last : ℕ) (range : Range) (grant : Resources) (empty new : RangeSet) → new ≡ with_range empty range → empty ≡ no_numbers V4 → grant.asn ≡ no_numbers Asn → grant.v4 ≡ new → grant.v6 ≡ no_numbers V6
    → range.first ≡ first_address → range.last ≡ last → IsGrant last grant
granted_is last range grant empty new pushed none asn v4 v6 first_is last_is = record {
  asn = asn;
  range = range;
  first_is = first_is;
  last_is = last_is;
  v4 = v4 ∙ pushed ∙ ap (λ (s : RangeSet). with_range s range) none;
  v6 = v6;
}

pub origins_more : (authority place : ℕ) (origins : List Origin) (origin : Origin) → AreOriginsFrom authority place origins → IsOriginOf authority (place + length origins) origin → AreOriginsFrom authority place (origins ++ origin ∷ [])
origins_more authority place [] origin all is = (subst (λ (n : ℕ). IsOriginOf authority n origin) (omega arith) is, tt)
origins_more authority place (first ∷ rest) origin all is =
    (all.0, origins_more authority (suc place) rest origin all.1 (subst (λ (n : ℕ). IsOriginOf authority n origin) (omega arith) is))

pub origins_listed : {E : Type 0} (authority : ℕ) (result : Result (List Origin) E) (items : List Origin) → IfOk result (λ list. list ≡ items) → length items ≡ 64 → AreOriginsFrom authority 0 items → IfOk result (AreOriginsOf authority)
origins_listed authority (Ok list) items is count all =
    subst (AreOriginsOf authority) (sym is) (record { count = count; are = all })
origins_listed authority (Err fault) items is count all = tt

pub generated_more : (before : ℕ) (items : List Wanted) → items ≡ generated before
    → (((items ++ Add (before + 1) ∷ []) ++ AddChild (before + 1) ∷ []) ++ AddParent (before + 1) ∷ []) ++ AddOrigins (before + 1) ∷ [] ≡ generated (before + 1)
generated_more before items is =
    append_assoc ((items ++ Add (before + 1) ∷ []) ++ AddChild (before + 1) ∷ []) (AddParent (before + 1) ∷ []) (AddOrigins (before + 1) ∷ [])
    ∙ append_assoc (items ++ Add (before + 1) ∷ []) (AddChild (before + 1) ∷ []) (AddParent (before + 1) ∷ AddOrigins (before + 1) ∷ [])
    ∙ append_assoc items (Add (before + 1) ∷ []) (AddChild (before + 1) ∷ AddParent (before + 1) ∷ AddOrigins (before + 1) ∷ [])
    ∙ ap (λ (l : List Wanted). l ++ Add (before + 1) ∷ AddChild (before + 1) ∷ AddParent (before + 1) ∷ AddOrigins (before + 1) ∷ []) is
    ∙ next
  where
    as_suc : before + 1 ≡ suc before
    as_suc = omega arith

    next : generated before ++ Add (before + 1) ∷ AddChild (before + 1) ∷ AddParent (before + 1) ∷ AddOrigins (before + 1) ∷ [] ≡ generated (before + 1)
    next = subst (λ (n : ℕ). generated before ++ Add n ∷ AddChild n ∷ AddParent n ∷ AddOrigins n ∷ [] ≡ generated n) (sym as_suc) refl
