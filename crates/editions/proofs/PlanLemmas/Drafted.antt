-- The objects of an edition that wants all afresh: each key has its certificate, its CRL and its manifest, and each owed
-- origin its ROA.
use Rattle.std.proofs.Common.{◌≡◌, ◌≢◌, ℕ, ◌&&◌, eqb, Bool, true, false, cond, Option, None, Some, List, [], ◌++◌, map, find, refl, sym, ap, subst, ◌∙◌, ◌⊎◌, inl, inr}
use Rattle.std.specs.List.{AllPairs, slice_get, filter_map}
use Rattle.std.specs.Option.{is_some, option_map, option_and_then, option_map_or}
use Rattle.std.specs.Str.{bytes_eq}
use Rattle.std.proofs.lemmas.Bool.{false≢true, false_from_ne_true, and_parts, eqb-true, eq-eqb}
use Rattle.std.proofs.lemmas.Slice.Eq.{bytes_eq-Decides}
use Rattle.res_sets.specs.declared.holdings.Resources.{Resources}
use Rattle.key_ids.specs.Uris.{anchor_uri, cert_uri, crl_uri, manifest_uri}
use Rattle.authority_book.specs.declared.rows.NameRow.{NameRow}
use Rattle.authority_book.specs.Settings.{Settings}
use Rattle.entitle.specs.declared.trees.Owed.{Owed}
use Rattle.entitle.specs.Certified.{names_of}
use Rattle.entitle.specs.Owed.{AreOwed}
use Rattle.issue_values.specs.Publishers.{roa_uri}
use Rattle.key_roll.specs.declared.rows.KeyRow.{KeyRow}
use Rattle.key_roll.specs.declared.rows.Role.{Role}
use Rattle.key_roll.specs.declared.rows.Role.TheVariants.{Current}
use Rattle.key_roll.specs.declared.work.KeyName.{KeyName}
use Rattle.key_roll.specs.declared.work.KeyName.TheVariants.{Live}
use Rattle.issue_keys.specs.Keys.{id_of}
use Rattle.issue_drafts.specs.WorkKeys.{Keys, all_keys, key_named}
use Rattle.issue_drafts.specs.IssueInput.{IssueInput}
use Rattle.issue_drafts.specs.Publishers.{is_key, name_at, made_uri}
use Rattle.issue_drafts.specs.Drafts.{Draft, Kind, certificate_draft, roa_draft, crl_draft, manifest_draft, drafts, manifests}
use Rattle.issue_drafts.specs.Drafts.Kind.{Certificate, Roa, Crl, Manifest}
use Rattle.issue_plan.specs.declared.keys.NextKey.{NextKey}
use Rattle.issue_plan.specs.Keys as plan
use Rattle.issue_plan.specs.Keys.{kept, next_keys}
use Rattle.key_roll.specs.Roles.{is_role}
use Rattle.issue_plan.specs.Wanted.{PlanInput, parent_of, parents_desk, current_of, current_at, issuer_of, certificate, certificate_of, roa_by, roa_of, point_of}
use Rattle.editions.specs.Wanted.{there, whole}
use Rattle.editions.specs.inner.PlannedWork.{AreNamed}
use Rattle.items.specs.laws.AmongLaws.{In, in-front, in-parts, in-map, map-in, found-in, found-some}
use Rattle.items.specs.laws.PairLaws.{Sides}
use Rattle.editions.proofs.PlanLemmas.Pairs.{right-of, left-of, given-map, given-given}
use Rattle.editions.proofs.PlanLemmas.NextKeys.{IsDesk, key-desk}
use Rattle.editions.proofs.PlanLemmas.Desks.{one-id}
use Rattle.editions.proofs.PlanLemmas.Held.{is-below}
use Rattle.editions.proofs.PlanLemmas.Certs.{current-in}
use Rattle.editions.proofs.PlanLemmas.Owing.{owed-held, held-desk}
use Rattle.editions.proofs.PlanLemmas.Beside.{IsBeside}

-- What is known of the keys of an edition.
pub record AreKnown (plan_input : PlanInput) (ks : List KeyRow) : Type 0 where
  pub sides : Sides (IsBeside plan_input.basis.rows) (next_keys plan_input.basis) ks
  pub own : AllPairs (λ a b. id_of a ≢ id_of b) ks
  pub named : AreNamed plan_input.basis
  pub owes : AreOwed plan_input.basis.configs plan_input.owed

-- ---- what each comes to

abbrev pub cert_for : PlanInput → List KeyRow → KeyRow → Option Draft
cert_for plan_input ks k =
    option_and_then (certificate_draft (whole plan_input ks) (there ks))
    (certificate_of plan_input.basis.configs plan_input.basis.sets (map kept ks) (kept k))

abbrev pub roa_for : PlanInput → List KeyRow → Owed → Option Draft
roa_for plan_input ks o =
    option_and_then (roa_draft (whole plan_input ks) (there ks)) (roa_of (map kept ks) o)

abbrev pub crl_for : PlanInput → List KeyRow → KeyRow → Option Draft
crl_for plan_input ks k = crl_draft (whole plan_input ks) (there ks) (point_of (kept k))

abbrev pub manifest_for : PlanInput → List KeyRow → KeyRow → Option Draft
manifest_for plan_input ks k = manifest_draft (whole plan_input ks) (there ks) (point_of (kept k))

abbrev pub all_certs : PlanInput → List KeyRow → List Draft
all_certs plan_input ks = filter_map (cert_for plan_input ks) ks

abbrev pub all_roas : PlanInput → List KeyRow → List Draft
all_roas plan_input ks = filter_map (roa_for plan_input ks) plan_input.owed

abbrev pub all_crls : PlanInput → List KeyRow → List Draft
all_crls plan_input ks = filter_map (crl_for plan_input ks) ks

abbrev pub all_manifests : PlanInput → List KeyRow → List Draft
all_manifests plan_input ks = filter_map (manifest_for plan_input ks) ks

abbrev pub all_puts : PlanInput → List KeyRow → List Draft
all_puts plan_input ks =
    ((all_certs plan_input ks ++ all_roas plan_input ks) ++ all_crls plan_input ks) ++ all_manifests plan_input ks

pub puts-are : (plan_input : PlanInput) (ks : List KeyRow)
    → drafts (whole plan_input ks) (there ks) ++ manifests (whole plan_input ks) (there ks) ≡ all_puts plan_input ks
puts-are plan_input ks =
    let s : IssueInput = whole plan_input ks in
    let keys : Keys = there ks in
    let configs = plan_input.basis.configs in
    let sets = plan_input.basis.sets in
    let certs : filter_map (certificate_draft s keys) s.work.certs ≡ all_certs plan_input ks =
    given-given (certificate_draft s keys) (certificate_of configs sets (map kept ks)) (map kept ks)
    ∙ given-map (λ (n : NextKey). option_and_then (certificate_draft s keys) (certificate_of configs sets (map kept ks) n)) kept ks in
    let roas : filter_map (roa_draft s keys) s.work.roas ≡ all_roas plan_input ks =
    given-given (roa_draft s keys) (roa_of (map kept ks)) plan_input.owed in
    let crls : filter_map (crl_draft s keys) s.work.points ≡ all_crls plan_input ks =
    given-map (crl_draft s keys) point_of (map kept ks)
    ∙ given-map (λ (n : NextKey). crl_draft s keys (point_of n)) kept ks in
    let mans : filter_map (manifest_draft s keys) s.work.points ≡ all_manifests plan_input ks =
    given-map (manifest_draft s keys) point_of (map kept ks)
    ∙ given-map (λ (n : NextKey). manifest_draft s keys (point_of n)) kept ks in
    ap (λ (l : List Draft). ((l ++ filter_map (roa_draft s keys) s.work.roas) ++ filter_map (crl_draft s keys) s.work.points)
    ++ filter_map (manifest_draft s keys) s.work.points) certs
    ∙ (ap (λ (l : List Draft). ((all_certs plan_input ks ++ l) ++ filter_map (crl_draft s keys) s.work.points)
    ++ filter_map (manifest_draft s keys) s.work.points) roas
    ∙ (ap (λ (l : List Draft). ((all_certs plan_input ks ++ all_roas plan_input ks) ++ l)
    ++ filter_map (manifest_draft s keys) s.work.points) crls
    ∙ ap (λ (l : List Draft). ((all_certs plan_input ks ++ all_roas plan_input ks) ++ all_crls plan_input ks) ++ l) mans))

-- ---- what each is

-- A name of the tree.
pub record IsListed (configs : List Settings) (name : List ℕ) : Type 0 where
  pub place : ℕ
  pub row : NameRow
  pub there : slice_get (names_of configs) place ≡ Some row
  pub says : row.name ≡ name

-- The issuer's authority is the parent, and no child of its own.
pub record IsChild (plan_input : PlanInput) (k issuer : KeyRow) : Type 0 where
  pub parent : List ℕ
  pub called : parent_of (slice_get plan_input.basis.configs k.desk) ≡ Some parent
  pub listed : IsListed plan_input.basis.configs parent
  pub says : name_at (names_of plan_input.basis.configs) issuer.desk ≡ parent
  pub other : issuer.desk ≢ k.desk

pub record HasIssuer (plan_input : PlanInput) (ks : List KeyRow) (k : KeyRow) : Type 0 where
  pub issuer : KeyRow
  pub among : In issuer ks
  pub is : issuer_of plan_input.basis.configs (map kept ks) (kept k) ≡ Some (Live (plan.id_of issuer))
  pub own : k.desk ≡ 0 → issuer ≡ k
  pub below : k.desk ≢ 0 → IsChild plan_input k issuer

-- A key's certificate.
pub record HasCert (plan_input : PlanInput) (ks : List KeyRow) (k : KeyRow) : Type 0 where
  pub draft : Draft
  pub is : cert_for plan_input ks k ≡ Some draft
  pub held : Resources
  pub kind : draft.kind ≡ Certificate k held
  pub anchor : k.desk ≡ 0 → draft.uri ≡ anchor_uri plan_input.site
  pub below : k.desk ≢ 0
      → (parent : List ℕ) × (parent_of (slice_get plan_input.basis.configs k.desk) ≡ Some parent)
      × IsListed plan_input.basis.configs parent × (draft.uri ≡ cert_uri plan_input.site parent (id_of k))

-- A key's CRL, or its manifest, at the URI of its authority's name and its identifier.
pub record HasPoint (plan_input : PlanInput) (given : Option Draft) (of : Kind) (uri_of : List ℕ → List ℕ → List ℕ)
    (k : KeyRow) : Type 0 where
  pub draft : Draft
  pub is : given ≡ Some draft
  pub issuer : draft.issuer ≡ k
  pub kind : draft.kind ≡ of
  pub name : NameRow
  pub called : slice_get (names_of plan_input.basis.configs) k.desk ≡ Some name
  pub uri : draft.uri ≡ uri_of name.name (id_of k)

-- An origin's ROA.
pub record HasRoa (plan_input : PlanInput) (ks : List KeyRow) (o : Owed) : Type 0 where
  pub draft : Draft
  pub is : roa_for plan_input ks o ≡ Some draft
  pub name : NameRow
  pub called : slice_get (names_of plan_input.basis.configs) o.desk ≡ Some name
  pub uri : draft.uri ≡ roa_uri plan_input.site name.name o.origin

module _ (plan_input : PlanInput) (ks : List KeyRow) (known : AreKnown plan_input ks) where
  abbrev names : List NameRow
  names = names_of plan_input.basis.configs

  abbrev configs : List Settings
  configs = plan_input.basis.configs

  abbrev s : IssueInput
  s = whole plan_input ks

  abbrev keys : Keys
  keys = there ks

  abbrev Beside : NextKey → KeyRow → Type 0
  Beside = IsBeside plan_input.basis.rows

  name-is : (a b : ℕ) (name : NameRow) → a ≡ b → slice_get names b ≡ Some name → name_at names a ≡ name.name
  name-is a b name same e =
      ap (λ (o : Option NameRow). option_map_or (λ (n : NameRow). n.name) o []) (ap (slice_get names) same ∙ e)

  pub same-key : (a b : KeyRow) → In a ks → In b ks → id_of a ≡ id_of b → a ≡ b
  same-key a b c d e = one-id ks a b known.own c d e

  back : (r : KeyRow) → In r ks ⊎ In r [] → In r ks
  back r (inl here) = here
  back r (inr nothing) = absurd nothing

  self-named : (k : KeyRow) → In k ks → key_named keys (Live (plan.id_of k)) ≡ Some k
  self-named k at =
      by (find (λ (r : KeyRow). bytes_eq (id_of r) (id_of k)) (all_keys keys)) refl
      (found-some (λ (r : KeyRow). bytes_eq (id_of r) (id_of k)) (all_keys keys) k (in-front k ks [] at)
      ((bytes_eq-Decides (id_of k) (id_of k)).1 refl))
    where
      by : (o : Option KeyRow) → find (λ (r : KeyRow). bytes_eq (id_of r) (id_of k)) (all_keys keys) ≡ o → is_some o ≡ true
          → o ≡ Some k
      by None e some = absurd (false≢true some)
      by (Some r) e some =
          let f = found-in (λ (r : KeyRow). bytes_eq (id_of r) (id_of k)) (all_keys keys) r e in
          ap (λ (x : KeyRow). Some x)
          (same-key r k (back r (in-parts r ks [] f.0)) at ((bytes_eq-Decides (id_of r) (id_of k)).0 f.1))

  current-there : (desk : ℕ) (name : NameRow) → IsDesk plan_input.basis desk name
      → (c : KeyRow) × In c ks × (c.desk ≡ desk) × (current_of (map kept ks) desk ≡ Some (Live (plan.id_of c)))
  current-there desk name is =
      let w = current-in plan_input.basis desk name is in
      let r = right-of Beside (next_keys plan_input.basis) ks w.0 known.sides w.1 in
      let passes : (eqb r.0.desk desk && is_role r.0.role Current) ≡ true =
      ap (λ (b : Bool). b && is_role r.0.role Current) (eq-eqb r.0.desk desk (r.2.desk ∙ w.2.0))
      ∙ (ap (λ (role : Role). is_role role Current) r.2.role ∙ w.2.1) in
      by (find (λ (n : NextKey). eqb n.desk desk && is_role n.role Current) (map kept ks)) refl
      (found-some (λ (n : NextKey). eqb n.desk desk && is_role n.role Current) (map kept ks) (kept r.0)
      (in-map kept r.0 ks r.1) passes)
    where
      by : (o : Option NextKey) → find (λ (n : NextKey). eqb n.desk desk && is_role n.role Current) (map kept ks) ≡ o
          → is_some o ≡ true
          → (c : KeyRow) × In c ks × (c.desk ≡ desk) × (option_map (λ (n : NextKey). n.name) o ≡ Some (Live (plan.id_of c)))
      by None e some = absurd (false≢true some)
      by (Some n) e some =
          let f = found-in (λ (n : NextKey). eqb n.desk desk && is_role n.role Current) (map kept ks) n e in
          let m = map-in kept n ks f.0 in (
            m.0,
            m.1,
            ap (λ (x : NextKey). x.desk) m.2 ∙ eqb-true n.desk desk (and_parts (eqb n.desk desk) (is_role n.role Current) f.1).0,
            ap (λ (x : NextKey). Some x.name) (sym m.2),
          )

  -- The desk of a key.
  pub desk-of-key : (k : KeyRow) → In k ks → (name : NameRow) × IsDesk plan_input.basis k.desk name
  desk-of-key k at =
      let n = left-of Beside (next_keys plan_input.basis) ks k known.sides at in
      let d = key-desk plan_input.basis n.0 n.1 in
      (d.0, subst (λ (desk : ℕ). IsDesk plan_input.basis desk d.0) (sym n.2.desk) d.1)

  issuer-of-key : (k : KeyRow) → In k ks → HasIssuer plan_input ks k
  issuer-of-key k at = by (eqb k.desk 0) refl
    where
      by : (b : Bool) → eqb k.desk 0 ≡ b → HasIssuer plan_input ks k
      by true e = record {
        issuer = k;
        among = at;
        is = ap (λ (b : Bool). cond b (Some (Live (plan.id_of k))) (current_at (map kept ks) (parents_desk configs k.desk))) e;
        own = λ anchor. refl;
        below = λ other. absurd (other (eqb-true k.desk 0 e));
      }
      by false e =
          let other : k.desk ≢ 0 = λ zero_desk. false≢true (sym e ∙ eq-eqb k.desk 0 zero_desk) in
          let d = desk-of-key k at in
          let b = is-below plan_input.basis k.desk d.0 d.1.set known.named other d.1.named d.1.has d.1.some in
          let c = current-there b.place b.name (record { named = b.named; set = b.set; has = b.has_set; some = b.some }) in
          record {
            issuer = c.0;
            among = c.1;
            is = ap (λ (b : Bool). cond b (Some (Live (plan.id_of k))) (current_at (map kept ks) (parents_desk configs k.desk))) e
                ∙ (ap (current_at (map kept ks)) b.is ∙ c.3);
            own = λ anchor. absurd (other anchor);
            below = λ off. record {
              parent = b.parent;
              called = b.called;
              listed = record { place = b.place; row = b.name; there = b.named; says = b.says };
              says = name-is c.0.desk b.place b.name c.2 b.named ∙ b.says;
              other = λ same. b.other (sym c.2 ∙ same);
            };
          }

  pub cert-of-key : (k : KeyRow) → In k ks → HasCert plan_input ks k
  cert-of-key k at =
      let i = issuer-of-key k at in
      let d = desk-of-key k at in
      let set : Resources = d.1.set in
      let make : KeyRow → KeyRow → Draft = λ issuer subject. record {
        uri = made_uri s.site s.names issuer subject;
        issuer = issuer;
        kind = Certificate subject set;
      } in
      record {
        draft = make i.issuer k;
        is = ap (λ (o : Option KeyName). option_and_then (certificate_draft s keys)
            (certificate (Live (plan.id_of k)) o (slice_get plan_input.basis.sets k.desk))) i.is
            ∙ (ap (λ (o : Option Resources). option_and_then (certificate_draft s keys)
            (certificate (Live (plan.id_of k)) (Some (Live (plan.id_of i.issuer))) o)) d.1.has
            ∙ (ap (λ (o : Option KeyRow). option_and_then (λ (issuer : KeyRow).
            option_map (λ (subject : KeyRow). record {
              uri = made_uri s.site s.names issuer subject;
              issuer = issuer;
              kind = Certificate subject set;
            }) (key_named keys (Live (plan.id_of k)))) o) (self-named i.issuer i.among)
            ∙ ap (λ (o : Option KeyRow). option_map (λ (subject : KeyRow). record {
              uri = made_uri s.site s.names i.issuer subject;
              issuer = i.issuer;
              kind = Certificate subject set;
            }) o) (self-named k at)));
        held = set;
        kind = refl;
        anchor = λ anchor.
            ap (λ (x : KeyRow). made_uri plan_input.site names x k) (i.own anchor)
            ∙ ap (λ (b : Bool). cond b (anchor_uri plan_input.site) (cert_uri plan_input.site (name_at names k.desk) (id_of k)))
            ((bytes_eq-Decides (id_of k) (id_of k)).1 refl);
        below = λ off.
            let c = i.below off in
            let not_own : is_key i.issuer k ≡ false =
            false_from_ne_true (is_key i.issuer k) (λ same.
            c.other (ap (λ (r : KeyRow). r.desk) (same-key i.issuer k i.among at
            ((bytes_eq-Decides (id_of i.issuer) (id_of k)).0 same)))) in (
              c.parent,
              c.called,
              c.listed,
              ap (λ (b : Bool). cond b (anchor_uri plan_input.site)
                  (cert_uri plan_input.site (name_at names i.issuer.desk) (id_of k))) not_own
                  ∙ ap (λ (n : List ℕ). cert_uri plan_input.site n (id_of k)) c.says,
            );
      }

  pub crl-of-key : (k : KeyRow) → In k ks → HasPoint plan_input (crl_for plan_input ks k) Crl (crl_uri plan_input.site) k
  crl-of-key k at =
      let d = desk-of-key k at in
      record {
        draft = record { uri = crl_uri plan_input.site (name_at names k.desk) (id_of k); issuer = k; kind = Crl };
        is = ap (λ (o : Option KeyRow). option_map (λ (issuer : KeyRow). record {
          uri = crl_uri s.site (name_at s.names issuer.desk) (id_of issuer);
          issuer = issuer;
          kind = Crl;
        }) o) (self-named k at);
        issuer = refl;
        kind = refl;
        name = d.0;
        called = d.1.named;
        uri = ap (λ (n : List ℕ). crl_uri plan_input.site n (id_of k)) (name-is k.desk k.desk d.0 refl d.1.named);
      }

  pub manifest-of-key : (k : KeyRow) → In k ks
      → HasPoint plan_input (manifest_for plan_input ks k) Manifest (manifest_uri plan_input.site) k
  manifest-of-key k at =
      let d = desk-of-key k at in
      record {
        draft = record { uri = manifest_uri plan_input.site (name_at names k.desk) (id_of k); issuer = k; kind = Manifest };
        is = ap (λ (o : Option KeyRow). option_map (λ (issuer : KeyRow). record {
          uri = manifest_uri s.site (name_at s.names issuer.desk) (id_of issuer);
          issuer = issuer;
          kind = Manifest;
        }) o) (self-named k at);
        issuer = refl;
        kind = refl;
        name = d.0;
        called = d.1.named;
        uri = ap (λ (n : List ℕ). manifest_uri plan_input.site n (id_of k)) (name-is k.desk k.desk d.0 refl d.1.named);
      }

  pub roa-of-owed : (o : Owed) → In o plan_input.owed → HasRoa plan_input ks o
  roa-of-owed o at =
      let h = held-desk plan_input.basis known.named.certified o.desk o.origin (owed-held configs plan_input.owed known.owes o at) in
      let c = current-there o.desk h.0 h.1 in
      record {
        draft = record { uri = roa_uri plan_input.site (name_at names c.0.desk) o.origin; issuer = c.0; kind = Roa o.origin };
        is = ap (λ (n : Option KeyName). option_and_then (roa_draft s keys) (roa_by o n)) c.3
            ∙ ap (λ (k : Option KeyRow). option_map (λ (issuer : KeyRow). record {
              uri = roa_uri s.site (name_at s.names issuer.desk) o.origin;
              issuer = issuer;
              kind = Roa o.origin;
            }) k) (self-named c.0 c.1);
        name = h.0;
        called = h.1.named;
        uri = ap (λ (n : List ℕ). roa_uri plan_input.site n o.origin) (name-is c.0.desk o.desk h.0 c.2 h.1.named);
      }
