-- What an edition drafts for its keys and for the origins that it owes.
use Rattle.std.proofs.Common.{◌≡◌, ◌≢◌, ℕ, ◌<◌, ◌≤◌, true, Option, None, Some, List, [], ◌∷◌, map, length, slice_get, get_or, AllPairs, refl, ap, subst, ◌∙◌, arith, inl, inr, ◌⊎◌, zero, suc}
use Rattle.std.specs.Option.{option_map}
use Rattle.std.proofs.lemmas.Option.{slice_get_within, slice_get_cases}
use Rattle.origins.specs.declared.Prefix.{Prefix}
use Rattle.origins.specs.declared.Origin.{Origin}
use Rattle.res_sets.specs.declared.holdings.Resources.{Resources}
use Rattle.res_sets.specs.Triples.{has}
use Rattle.key_ids.specs.Uris.{crl_uri, manifest_uri}
use Rattle.authority_book.specs.declared.rows.NameRow.{NameRow}
use Rattle.authority_book.specs.Settings.{Settings}
use Rattle.entitle.specs.declared.trees.Owed.{Owed}
use Rattle.entitle.specs.Certified.{names_of, certified, most_parents, AreCertified}
use Rattle.entitle.specs.Owed.{family_of, HasEach, IsHeldBy, IsHeldAt, AreThose, origins_of, at_desk, AreOwedByFirst, AreOwed}
use Rattle.key_roll.specs.declared.rows.KeyRow.{KeyRow}
use Rattle.key_roll.specs.declared.rows.Role.TheVariants.{Current}
use Rattle.key_roll.specs.declared.work.RoaWork.{RoaWork}
use Rattle.issue_values.specs.Publishers.{roa_uri}
use Rattle.issue_plan.specs.Keys.{kept, next_keys, row_of}
use Rattle.issue_plan.specs.Wanted as plan
use Rattle.issue_plan.specs.Wanted.{point_of}
use Rattle.issue_keys.specs.Keys.{id_of}
use Rattle.issue_drafts.specs.Publishers.{name_at}
use Rattle.issue_drafts.specs.Drafts.{Draft, crl_draft, manifest_draft, roa_draft}
use Rattle.issue_drafts.specs.Drafts.Kind.{Roa, Crl, Manifest}
use Rattle.editions.specs.Keys.{AreNext}
use Rattle.editions.specs.Objects.{Issuance}
use Rattle.editions.specs.Names.{AreTree}
use Rattle.editions.specs.inner.KeyTree.{IsDesk}
use Rattle.items.specs.laws.AmongLaws.{In, in-parts, map-in}
use Rattle.editions.proofs.WalkLemmas.KeyTree.{desk-has, has-current, certified-desk}
use Rattle.editions.proofs.WalkLemmas.NextKeys.{row-parts}
use Rattle.editions.proofs.PlanLemmas.Places.{placed}
use Rattle.editions.proofs.WalkLemmas.Homes as homes

-- ---- desks

abbrev pub slice_of : List Resources → ℕ → Option Resources
slice_of sets desk = slice_get sets desk

pub current-desk : (keys : List KeyRow) (desk : ℕ) (k : KeyRow) → row_of keys desk Current ≡ Some k
    → k.desk ≡ desk
current-desk keys desk k found = (row-parts keys desk Current k found).1

pub each-in : (p : Prefix) (one other : Resources) → one ≡ other → HasEach (has one) p → HasEach (has other) p
each-in p one other same each = subst (λ (r : Resources). HasEach (has r) p) same each

-- ---- places

abbrev pub crl-uri : Issuance → KeyRow → List ℕ
crl-uri m k = crl_uri m.plan_input.site (name_at (names_of m.plan_input.basis.configs) k.desk) (id_of k)

abbrev pub manifest-uri : Issuance → KeyRow → List ℕ
manifest-uri m k =
    manifest_uri m.plan_input.site (name_at (names_of m.plan_input.basis.configs) k.desk) (id_of k)

-- ---- what is owed

those-in : (P : Origin → Type 0) (all own : List Origin) → AreThose P all own → (x : Origin) → In x own → P x
those-in P [] own none x at = absurd (subst (In x) none at)
those-in P (o ∷ all) own (inl off) x at = those-in P all own off.1 x at
those-in P (o ∷ all) own (inr on) x at = by (those-in P all on.0 on.2 x) (subst (In x) on.3 at)
  where
    by : (In x on.0 → P x) → In x (o ∷ on.0) → P x
    by rest (inl same) = subst P same on.1
    by rest (inr here) = rest here

first-held : (configs : List Settings) (n : ℕ) (owed : List Owed) → AreOwedByFirst configs n owed
    → (o : Owed) → In o owed → IsHeldAt configs o.desk o.origin
first-held configs zero owed none o at = absurd (subst (In o) none at)
first-held configs (suc n) owed are o at =
    by (first-held configs n are.0 are.2 o) (in-parts o are.0 (at_desk n are.1) (subst (In o) are.4 at))
  where
    by : (In o are.0 → IsHeldAt configs o.desk o.origin) → In o are.0 ⊎ In o (at_desk n are.1)
        → IsHeldAt configs o.desk o.origin
    by rest (inl before) = rest before
    by rest (inr here) =
        let w = map-in (λ (origin : Origin). record { desk = n; origin = origin }) o are.1 here in
        subst (λ (x : Owed). IsHeldAt configs x.desk x.origin) w.2
        (those-in (IsHeldAt configs n) (origins_of (slice_get configs n)) are.1 are.3 w.0 w.1)

pub owed-held : (configs : List Settings) (owed : List Owed) → AreOwed configs owed → (o : Owed) → In o owed
    → IsHeldAt configs o.desk o.origin
owed-held configs owed are o at = first-held configs (length (names_of configs)) owed are o at

module _ (m : Issuance) (tree : AreTree (names_of m.plan_input.basis.configs))
    (are : AreCertified m.plan_input.basis.configs m.plan_input.basis.sets)
    (before : AllPairs (λ a b. id_of a ≢ id_of b) m.plan_input.basis.rows)
    (next : AreNext m.plan_input.basis.rows (next_keys m.plan_input.basis) m.keys) where
  module _ (k : KeyRow) (at : In k m.keys) where
    abbrev name : List ℕ
    name = name_at (names_of m.plan_input.basis.configs) k.desk

    -- ---- the CRL

    abbrev pub crl : Draft
    crl = record { uri = crl_uri m.plan_input.site name (id_of k); issuer = k; kind = Crl }

    pub crl-draft-is : crl_draft (homes.w m tree are before next) (homes.ks m tree are before next)
        (point_of (kept k)) ≡ Some crl
    crl-draft-is = ap (option_map (λ (issuer : KeyRow). record {
      uri = crl_uri m.plan_input.site
          (name_at (names_of m.plan_input.basis.configs) issuer.desk) (id_of issuer);
      issuer = issuer;
      kind = Crl;
    })) (homes.named m tree are before next k at)

    -- ---- the manifest

    abbrev pub manifest : Draft
    manifest = record { uri = manifest_uri m.plan_input.site name (id_of k); issuer = k; kind = Manifest }

    pub manifest-draft-is : manifest_draft (homes.w m tree are before next)
        (homes.ks m tree are before next) (point_of (kept k)) ≡ Some manifest
    manifest-draft-is = ap (option_map (λ (issuer : KeyRow). record {
      uri = manifest_uri m.plan_input.site
          (name_at (names_of m.plan_input.basis.configs) issuer.desk) (id_of issuer);
      issuer = issuer;
      kind = Manifest;
    })) (homes.named m tree are before next k at)

  -- ---- ROAs

  abbrev names : List NameRow
  names = names_of m.plan_input.basis.configs

  abbrev configs : List Settings
  configs = m.plan_input.basis.configs

  -- The desk of an origin that is held has each of its addresses.
  pub record HoldsPrefix (o : Owed) : Type 0 where
    pub row : NameRow
    pub is : IsDesk configs m.plan_input.basis.sets o.desk row
    pub each : HasEach (has is.set) o.origin.prefix

  holds-prefix : (o : Owed) → IsHeldAt configs o.desk o.origin → HoldsPrefix o
  holds-prefix o at = by (slice_get names o.desk) refl at
    where
      with_set : (row : NameRow) → slice_get names o.desk ≡ Some row
          → HasEach (certified configs most_parents row.name) o.origin.prefix
          → (((set : Resources) × (o.desk < length m.plan_input.basis.sets)
          × (slice_get m.plan_input.basis.sets o.desk ≡ Some set)
          × (get_or m.plan_input.basis.sets o.desk set ≡ set))
          ⊎ ((length m.plan_input.basis.sets ≤ o.desk) × (slice_get m.plan_input.basis.sets o.desk ≡ None)))
          → HoldsPrefix o
      with_set row e each (inr past) =
          let inside : o.desk < length names = slice_get_within names o.desk row e in
          let long = are.one_each in
          let low = past.0 in
          absurd (omega (arith, inside, long, low))
      with_set row e each (inl there) =
          let first : certified configs most_parents row.name (family_of o.origin.prefix)
          o.origin.prefix.address ≡ true =
          each o.origin.prefix.address (record { fits = o.origin.prefix.prefix.fits; shares = refl }) in
          let d = certified-desk m.plan_input.basis tree are row.name o.desk row there.0
          (family_of o.origin.prefix) o.origin.prefix.address (placed names o.desk row tree.apart e) first in
          record {
            row = d.0;
            is = d.2;
            each = λ a member.
                desk-has m.plan_input.basis tree are o.desk d.0 d.2 (family_of o.origin.prefix) a
                ∙ (ap (λ (n : List ℕ). certified configs most_parents n (family_of o.origin.prefix) a) d.1
                ∙ each a member);
          }

      by : (row : Option NameRow) → slice_get names o.desk ≡ row → IsHeldBy configs row o.origin.prefix
          → HoldsPrefix o
      by None e h = absurd h
      by (Some row) e h = with_set row e h (slice_get_cases m.plan_input.basis.sets o.desk).1

  module _ (owes : AreOwed configs m.plan_input.owed) (o : Owed) (oat : In o m.plan_input.owed) where
    pub holds : HoldsPrefix o
    holds = holds-prefix o (owed-held configs m.plan_input.owed owes o oat)

    pub signs : (key : KeyRow) × (row_of m.keys o.desk Current ≡ Some key)
    signs = has-current m.plan_input.basis m.keys tree are before next o.desk holds.row holds.is

    -- The key that signs it: the current one of its desk.
    abbrev pub signer : KeyRow
    signer = signs.0

    pub signer-current : row_of m.keys o.desk Current ≡ Some signer
    signer-current = signs.1

    pub signer-at : In signer m.keys
    signer-at = (row-parts m.keys o.desk Current signer signs.1).0

    pub signer-desk : signer.desk ≡ o.desk
    signer-desk = (row-parts m.keys o.desk Current signer signs.1).1

    abbrev pub work : RoaWork
    work = record { issuer = (kept signer).name; origin = o.origin }

    pub work-is : plan.roa_of (map kept m.keys) o ≡ Some work
    work-is = ap (plan.roa_by o) (homes.current-is m tree are before next o.desk signer signs.1)

    abbrev pub roa_drafted : Draft
    roa_drafted = record {
      uri = roa_uri m.plan_input.site (name_at names signer.desk) o.origin;
      issuer = signer;
      kind = Roa o.origin;
    }

    pub roa-draft-is : roa_draft (homes.w m tree are before next) (homes.ks m tree are before next)
        work ≡ Some roa_drafted
    roa-draft-is = ap (option_map (λ (issuer : KeyRow). record {
      uri = roa_uri m.plan_input.site (name_at names issuer.desk) o.origin;
      issuer = issuer;
      kind = Roa o.origin;
    })) (homes.named m tree are before next signer signer-at)
