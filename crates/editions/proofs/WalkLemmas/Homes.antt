-- The keys of an edition, each with its issuer and the place of its certificate.
use Rattle.std.proofs.Common.{◌≡◌, ◌≢◌, ◌⊎◌, ℕ, ◌==◌, ◌&&◌, Bool, true, false, cond, Option, None, Some, List, [], ◌∷◌, map, find, option_map, slice_get, AllPairs, refl, sym, ap, subst, ◌∙◌, append-nil, arith, inl, inr}
use Rattle.std.specs.Option.{option_and_then}
use Rattle.std.specs.Str.{bytes_eq}
use Rattle.std.proofs.lemmas.Bool.{true≢false, false_from_ne_true, eqb-true, eq-eqb}
use Rattle.std.proofs.lemmas.Option.{same_Some}
use Rattle.std.proofs.lemmas.Slice.Eq.{bytes_eq-Decides}
use Rattle.res_sets.specs.declared.holdings.Resources.{Resources}
use Rattle.key_ids.specs.Uris.{anchor_uri, cert_uri}
use Rattle.authority_book.specs.declared.rows.NameRow.{NameRow}
use Rattle.entitle.specs.Certified.{names_of, AreCertified}
use Rattle.key_roll.specs.declared.rows.KeyRow.{KeyRow}
use Rattle.key_roll.specs.declared.rows.Role.TheVariants.{Current}
use Rattle.key_roll.specs.declared.work.KeyName.{KeyName}
use Rattle.key_roll.specs.declared.work.CertWork.{CertWork}
use Rattle.issue_plan.specs.declared.keys.NextKey.{NextKey}
use Rattle.issue_plan.specs.Keys.{row_of, kept, next_keys}
use Rattle.key_roll.specs.Roles.{is_role}
use Rattle.issue_plan.specs.Wanted.{current_of, current_at, parents_desk, issuer_of, certificate, certificate_of}
use Rattle.issue_keys.specs.Keys.{id_of}
use Rattle.issue_keys.specs.Indexes.{has_id}
use Rattle.issue_drafts.specs.WorkKeys.{Keys, key_named, key_of}
use Rattle.issue_drafts.specs.Publishers as publishers
use Rattle.issue_drafts.specs.IssueInput.{IssueInput}
use Rattle.issue_drafts.specs.Publishers.{is_key, names_key, made_uri, issuer_for, made_for, standing_for, first_of, name_at, publishing_of}
use Rattle.issue_drafts.specs.Drafts.{Draft, certificate_draft}
use Rattle.issue_drafts.specs.Drafts.Kind.{Certificate}
use Rattle.editions.specs.Keys.{AreNext}
use Rattle.editions.specs.Wanted as editions
use Rattle.editions.specs.Wanted.{whole, all_certificates}
use Rattle.editions.specs.Objects.{Issuance}
use Rattle.editions.specs.Names.{AreTree}
use Rattle.editions.specs.inner.KeyTree.{is_level, HasIssuer, IsInTree}
use Rattle.items.specs.laws.AmongLaws.{In, in-map, in-filter-map, filter-map-in, map-in, found-in, some-found}
use Rattle.editions.proofs.WalkLemmas.Elements.{one-of, pairs-twos}
use Rattle.editions.proofs.WalkLemmas.KeyTree.{in-tree}
use Rattle.editions.proofs.WalkLemmas.Levels.{one-level}
use Rattle.editions.proofs.WalkLemmas.NextKeys.{row-parts}
use Rattle.editions.proofs.WalkLemmas.Point.{Seat, publishing}

-- What is found in a map.
find-map : {X Y : Type 0} (f : X → Y) (p : Y → Bool) (xs : List X)
    → find p (map f xs) ≡ option_map f (find (λ x. p (f x)) xs)
find-map f p [] = refl
find-map {X} {Y} f p (x ∷ xs) =
    ap (λ (o : Option Y). cond (p (f x)) (Some (f x)) o) (find-map f p xs)
    ∙ by (p (f x)) (find (λ z. p (f z)) xs)
  where
    by : (b : Bool) (o : Option X)
        → cond b (Some (f x)) (option_map f o) ≡ option_map f (cond b (Some x) o)
    by true o = refl
    by false o = refl

subject-by : (name : KeyName) (o : Option KeyName) (set : Option Resources) (cert : CertWork)
    → certificate name o set ≡ Some cert → cert.subject ≡ name
subject-by name None set cert e = absurd cc
subject-by name (Some issuer) None cert e = absurd cc
subject-by name (Some issuer) (Some set) cert e =
    sym (ap (λ (c : CertWork). c.subject)
    (same_Some (record { subject = name; issuer = issuer; held = set }) cert e))

module _ (m : Issuance) (tree : AreTree (names_of m.plan_input.basis.configs))
    (certified : AreCertified m.plan_input.basis.configs m.plan_input.basis.sets)
    (before : AllPairs (λ a b. id_of a ≢ id_of b) m.plan_input.basis.rows)
    (next : AreNext m.plan_input.basis.rows (next_keys m.plan_input.basis) m.keys) where
  abbrev pub w : IssueInput
  w = whole m.plan_input m.keys

  abbrev pub ks : Keys
  ks = editions.there m.keys

  abbrev nexts : List NextKey
  nexts = map kept m.keys

  abbrev IsKey : KeyRow → Type 0
  IsKey k = In k m.keys

  pub placed : (k : KeyRow) → In k m.keys
      → IsInTree m.plan_input.basis.configs m.plan_input.basis.sets m.keys k
  placed = in-tree m.plan_input.basis m.keys tree certified before next

  -- ---- identifiers

  pub one-key : (a b : KeyRow) → In a m.keys → In b m.keys → id_of a ≡ id_of b → a ≡ b
  one-key a b = one-of id_of m.keys a b (pairs-twos (λ x y. id_of x ≢ id_of y) m.keys next.apart)

  same-key : (k : KeyRow) → is_key k k ≡ true
  same-key k = (bytes_eq-Decides (id_of k) (id_of k)).1 refl

  pub named : (k : KeyRow) → In k m.keys → key_named ks (kept k).name ≡ Some k
  named k at =
      let test : KeyRow → Bool = λ row. bytes_eq (id_of row) (id_of k) in
      let f = some-found test m.keys k at (same-key k) in
      let p = found-in test m.keys f.0 f.1 in
      let same : f.0 ≡ k = one-key f.0 k p.0 at ((bytes_eq-Decides (id_of f.0) (id_of k)).0 p.1) in
      ap (find test) (append-nil m.keys) ∙ (f.1 ∙ ap (λ (r : KeyRow). Some r) same)

  -- ---- issuers

  pub current-is : (desk : ℕ) (k : KeyRow) → row_of m.keys desk Current ≡ Some k
      → current_of nexts desk ≡ Some (kept k).name
  current-is desk k found =
      ap (option_map (λ (n : NextKey). n.name))
      (find-map kept (λ (n : NextKey). (n.desk == desk) && is_role n.role Current) m.keys
      ∙ ap (option_map kept) found)

  -- The issuer of a key: the key itself for the trust anchor's, and else the one above.
  pub record HasAbove (k : KeyRow) (at : In k m.keys) : Type 0 where
    pub issuer : KeyRow
    pub live : In issuer m.keys
    pub is : issuer_of m.plan_input.basis.configs nexts (kept k) ≡ Some (kept issuer).name
    pub how : ((k.desk ≡ 0) × (issuer ≡ k))
        ⊎ ((k.desk ≢ 0) × (has : HasIssuer m.plan_input.basis.configs m.plan_input.basis.sets m.keys
        k.desk (placed k at).is.set (placed k at).level) × (has.issuer ≡ issuer))

  pub above : (k : KeyRow) (at : In k m.keys) → HasAbove k at
  above k at = by (k.desk == 0) refl
    where
      by : (b : Bool) → (k.desk == 0) ≡ b → HasAbove k at
      by true e = record {
        issuer = k;
        live = at;
        is = ap (λ (b : Bool). cond b (Some (kept k).name)
            (current_at nexts (parents_desk m.plan_input.basis.configs k.desk))) e;
        how = inl (eqb-true k.desk 0 e, refl);
      }
      by false e =
          let other : k.desk ≢ 0 = λ zero. true≢false (sym (eq-eqb k.desk 0 zero) ∙ e) in
          let has = (placed k at).issuer other in
          record {
            issuer = has.issuer;
            live = (row-parts m.keys has.above Current has.issuer has.current).0;
            is = ap (λ (b : Bool). cond b (Some (kept k).name)
                (current_at nexts (parents_desk m.plan_input.basis.configs k.desk))) e
                ∙ (ap (current_at nexts) has.parent ∙ current-is has.above has.issuer has.current);
            how = inr (other, has, refl);
          }

  -- ---- certificates

  module _ (k : KeyRow) (at : In k m.keys) where
    abbrev pub issuer : KeyRow
    issuer = (above k at).issuer

    abbrev pub held : Resources
    held = (placed k at).is.set

    abbrev pub work : CertWork
    work = record { subject = (kept k).name; issuer = (kept issuer).name; held = held }

    pub work-is : certificate_of m.plan_input.basis.configs m.plan_input.basis.sets nexts (kept k) ≡ Some work
    work-is =
        ap (λ (o : Option KeyName). certificate (kept k).name o (slice_get m.plan_input.basis.sets k.desk))
        (above k at).is
        ∙ ap (certificate (kept k).name (Some (kept issuer).name)) (placed k at).is.has

    pub among : In work (all_certificates m.plan_input m.keys)
    among = in-filter-map
        (certificate_of m.plan_input.basis.configs m.plan_input.basis.sets nexts) (kept k) work nexts work-is
        (in-map kept k m.keys at)

    -- Where its certificate stands.
    abbrev pub place : List ℕ
    place = made_uri m.plan_input.site (names_of m.plan_input.basis.configs) issuer k

    abbrev pub draft : Draft
    draft = record { uri = place; issuer = issuer; kind = Certificate k held }

    pub draft-is : certificate_draft w ks work ≡ Some draft
    draft-is =
        let of : Option KeyRow → Option KeyRow → Option Draft = λ subjects issuers.
        option_and_then (λ i. option_map (λ subject. record {
          uri = made_uri m.plan_input.site (names_of m.plan_input.basis.configs) i subject;
          issuer = i;
          kind = Certificate subject held;
        }) subjects) issuers in
        ap (λ (o : Option KeyRow). of o (key_named ks (kept issuer).name)) (named k at)
        ∙ ap (of (Some k)) (named issuer (above k at).live)

    -- A work for the key is this one.
    pub one-work : (cert : CertWork) → In cert (all_certificates m.plan_input m.keys)
        → names_key ks cert.subject k ≡ true → cert ≡ work
    one-work cert inside names =
        let n = filter-map-in (certificate_of m.plan_input.basis.configs m.plan_input.basis.sets nexts) cert
        nexts inside in
        let r = map-in kept n.0 m.keys n.1 in
        let of-row : certificate_of m.plan_input.basis.configs m.plan_input.basis.sets nexts (kept r.0)
        ≡ Some cert =
        ap (certificate_of m.plan_input.basis.configs m.plan_input.basis.sets nexts) r.2 ∙ n.2 in
        let subject : cert.subject ≡ (kept r.0).name = subject-by (kept r.0).name
        (issuer_of m.plan_input.basis.configs nexts (kept r.0))
        (slice_get m.plan_input.basis.sets r.0.desk) cert of-row in
        let same : bytes_eq (id_of r.0) (id_of k) ≡ true =
        sym (ap (λ (name : KeyName). names_key ks name k) subject
        ∙ ap (λ (o : Option KeyRow). has_id (id_of k) (option_map key_of o)) (named r.0 r.1)) ∙ names in
        let key : r.0 ≡ k = one-key r.0 k r.1 at ((bytes_eq-Decides (id_of r.0) (id_of k)).0 same) in
        same_Some cert work
        (sym of-row ∙ (ap (λ (x : KeyRow). certificate_of m.plan_input.basis.configs
        m.plan_input.basis.sets nexts (kept x)) key ∙ work-is))

    -- ---- how certificates see it

    abbrev test : CertWork → Bool
    test cert = names_key ks cert.subject k

    found : find test (all_certificates m.plan_input m.keys) ≡ Some work
    found =
        let yes : test work ≡ true =
        ap (λ (o : Option KeyRow). has_id (id_of k) (option_map key_of o)) (named k at) ∙ same-key k in
        let f = some-found test (all_certificates m.plan_input m.keys) work among yes in
        let p = found-in test (all_certificates m.plan_input m.keys) f.0 f.1 in
        f.1 ∙ ap (λ (c : CertWork). Some c) (one-work f.0 p.0 p.1)

    issuer-found : issuer_for ks (all_certificates m.plan_input m.keys) k ≡ Some issuer
    issuer-found =
        ap (option_and_then (λ (cert : CertWork). key_named ks cert.issuer)) found
        ∙ named issuer (above k at).live

    pub certificate-at : publishers.certificate_of w ks k ≡ place
    certificate-at = by (above k at).how
      where
        behind : List ℕ
        behind = first_of (made_for w ks k) (standing_for w.issued k) (anchor_uri m.plan_input.site)

        by : ((k.desk ≡ 0) × (issuer ≡ k))
            ⊎ ((k.desk ≢ 0) × (has : HasIssuer m.plan_input.basis.configs m.plan_input.basis.sets m.keys
            k.desk (placed k at).is.set (placed k at).level) × (has.issuer ≡ issuer))
            → publishers.certificate_of w ks k ≡ place
        by (inl own) =
            ap (λ (b : Bool). cond b (anchor_uri m.plan_input.site) behind) (eq-eqb k.desk 0 own.0)
            ∙ sym (ap (λ (i : KeyRow). made_uri m.plan_input.site (names_of m.plan_input.basis.configs) i k) own.1
            ∙ ap (λ (b : Bool). cond b (anchor_uri m.plan_input.site)
            (cert_uri m.plan_input.site (name_at (names_of m.plan_input.basis.configs) k.desk) (id_of k)))
            (same-key k))
        by (inr other) =
            ap (λ (b : Bool). cond b (anchor_uri m.plan_input.site) behind)
            (false_from_ne_true (k.desk == 0) (λ e. other.0 (eqb-true k.desk 0 e)))
            ∙ ap (λ (o : Option KeyRow). first_of (option_map (λ (i : KeyRow).
            made_uri m.plan_input.site (names_of m.plan_input.basis.configs) i k) o)
            (standing_for w.issued k) (anchor_uri m.plan_input.site)) issuer-found

    abbrev pub seat : Seat
    seat = record {
      key = k.key.bytes;
      name = name_at (names_of m.plan_input.basis.configs) k.desk;
      certificate = publishers.certificate_of w ks k;
    }

    pub publishing-is : publishing_of w ks k ≡ publishing seat
    publishing-is = refl

    -- The trust anchor's issuer is itself, and another key's another one.
    pub own-issuer : k.desk ≡ 0 → issuer ≡ k
    own-issuer zero = by (above k at).how
      where
        by : ((k.desk ≡ 0) × (issuer ≡ k))
            ⊎ ((k.desk ≢ 0) × (has : HasIssuer m.plan_input.basis.configs m.plan_input.basis.sets m.keys
            k.desk (placed k at).is.set (placed k at).level) × (has.issuer ≡ issuer))
            → issuer ≡ k
        by (inl own) = own.1
        by (inr other) = absurd (other.0 zero)

    pub other-issuer : k.desk ≢ 0 → (has : HasIssuer m.plan_input.basis.configs m.plan_input.basis.sets m.keys
        k.desk (placed k at).is.set (placed k at).level) × (has.issuer ≡ issuer)
    other-issuer other = by (above k at).how
      where
        by : ((k.desk ≡ 0) × (issuer ≡ k))
            ⊎ ((k.desk ≢ 0) × (has : HasIssuer m.plan_input.basis.configs m.plan_input.basis.sets m.keys
            k.desk (placed k at).is.set (placed k at).level) × (has.issuer ≡ issuer))
            → (has : HasIssuer m.plan_input.basis.configs m.plan_input.basis.sets m.keys
            k.desk (placed k at).is.set (placed k at).level) × (has.issuer ≡ issuer)
        by (inl own) = absurd (other own.0)
        by (inr has) = (has.1, has.2)

    pub apart-issuer : k.desk ≢ 0 → is_key issuer k ≡ false
    apart-issuer other = false_from_ne_true (is_key issuer k) (λ e.
        let has = other-issuer other in
        let same : issuer ≡ k =
        one-key issuer k (above k at).live at ((bytes_eq-Decides (id_of issuer) (id_of k)).0 e) in
        let desk : has.0.above ≡ k.desk =
        sym (row-parts m.keys has.0.above Current has.0.issuer has.0.current).1
        ∙ (ap (λ (r : KeyRow). r.desk) has.1 ∙ ap (λ (r : KeyRow). r.desk) same) in
        let name : has.0.parents_name ≡ (placed k at).name =
        same_Some has.0.parents_name (placed k at).name
        (sym has.0.is.named ∙ (ap (slice_get (names_of m.plan_input.basis.configs)) desk
        ∙ (placed k at).is.named)) in
        let levels = one-level m.plan_input.basis.configs has.0.higher (placed k at).level
        (placed k at).name.name
        (subst (λ (r : NameRow). is_level m.plan_input.basis.configs has.0.higher r.name ≡ true) name
        has.0.at) (placed k at).at in
        let deeper = has.0.below in
        absurd (omega (arith, levels, deeper)))
