-- Each key that issues but the trust anchor's has its certificate made, or it stands.
use Rattle.std.proofs.Common.{◌≡◌, ℕ, ◌==◌, Bool, true, false, cond, Option, None, Some, List, [], ◌++◌, map, find, option_map, refl, sym, ap, subst, ◌∙◌, ◌⊎◌, inl, inr}
use Rattle.std.specs.Prelude.{IsSome}
use Rattle.std.specs.List.{All}
use Rattle.std.specs.Option.{IfSome, is_some, option_and_then, option_map_or}
use Rattle.std.specs.Str.{bytes_eq}
use Rattle.std.proofs.lemmas.Option.{same_Some}
use Rattle.std.proofs.lemmas.Slice.Eq.{bytes_eq-Decides}
use Rattle.names.specs.Name.{IsName}
use Rattle.cert_obj.specs.Values.{is_uri}
use Rattle.key_ids.specs.Uris.{anchor_uri, cert_uri}
use Rattle.authority_book.specs.declared.rows.NameRow.{NameRow}
use Rattle.entitle.specs.Certified.{names_of}
use Rattle.key_roll.specs.declared.rows.KeyRow.{KeyRow}
use Rattle.key_roll.specs.declared.issued.IssuedRow.{IssuedRow}
use Rattle.key_roll.specs.declared.work.Work.{Work}
use Rattle.key_roll.specs.declared.work.CertWork.{CertWork}
use Rattle.issue_plan.specs.Keys.{kept}
use Rattle.issue_plan.specs.Wanted.{PlanInput, certificate_of}
use Rattle.issue_keys.specs.Keys.{id_of}
use Rattle.issue_keys.specs.Indexes.{has_id}
use Rattle.issue_drafts.specs.WorkKeys.{Keys, key_named, key_of}
use Rattle.issue_drafts.specs.IssueInput.{IssueInput}
use Rattle.issue_values.specs.Publishers.{Publishing}
use Rattle.issue_drafts.specs.Publishers.{is_key, name_at, made_uri, names_key, made_for, standing_for, certified_key, first_of, publishing_of}
use Rattle.issue_drafts.specs.Drafts.{Draft, Kind, certificate_draft, drafts, manifests}
use Rattle.issue_drafts.specs.Drafts.Kind.{Certificate, Roa, Crl, Manifest}
use Rattle.issue_make.specs.ObjectPlan.{puts}
use Rattle.issue_make.specs.CanMake.{IsCertified}
use Rattle.editions.specs.Wanted.{there, whole, anew, all_certificates, keeps_certificate}
use Rattle.editions.specs.inner.PlanAndTable.{made_from, AreOfPlan, IsCertifiedBy}
use Rattle.editions.specs.inner.Following.{CanBeNamed}
use Rattle.items.specs.laws.AmongLaws.{In, in-map, map-in, in-filter-map, filter-map-in, found-in, some-found, all-in, in-contains, contains-in}
use Rattle.editions.specs.inner.PlannedWork.{AreApart}
use Rattle.editions.proofs.ObjectLemmas.Fitting.{kept-certificate}
use Rattle.editions.proofs.ObjectLemmas.Kept.{IsOver}
use Rattle.editions.proofs.ObjectLemmas.Named.{key-named, made-for, cert-draft}
use Rattle.editions.proofs.PlanLemmas.Drafted.{AreKnown, cert-of-key, desk-of-key, same-key}
use Rattle.editions.proofs.PlanLemmas.Once.{name-ok}
use Rattle.editions.proofs.PlanLemmas.Fitted.{new_puts, new-in, placed}

then-some : {X Y : Type 0} (f : X → Option Y) (o : Option X) (y : Y) → option_and_then f o ≡ Some y
    → (x : X) × (o ≡ Some x) × (f x ≡ Some y)
then-some f None y e = absurd cc
then-some f (Some x) y e = (x, refl, e)

-- The subject of a certificate.
abbrev subject_in : KeyRow → Kind → KeyRow
subject_in other (Certificate subject held) = subject
subject_in other (Roa origin) = other
subject_in other Crl = other
subject_in other Manifest = other

module _ (plan_input : PlanInput) (work : Work) (found : Keys) (plan : AreOfPlan plan_input work found)
    (known : AreKnown plan_input plan.keys) (apart : AreApart plan_input.basis.rows) where
  abbrev s : IssueInput
  s = made_from plan_input work

  abbrev ks : List KeyRow
  ks = plan.keys

  abbrev want : IssueInput
  want = whole plan_input ks

  abbrev keys : Keys
  keys = there ks

  over : IsOver plan_input ks
  over = record { next = plan.next; apart = apart }

  -- ---- certificates that are wanted

  record IsDrafted (cert : CertWork) : Type 0 where
    pub key : KeyRow
    pub live : In key ks
    pub gives : certificate_of plan_input.basis.configs plan_input.basis.sets (map kept ks) (kept key) ≡ Some cert
    pub issuer : KeyRow
    pub subject : KeyRow
    pub by : key_named keys cert.issuer ≡ Some issuer
    pub of : key_named keys cert.subject ≡ Some subject
    pub own : subject ≡ key
    pub is : certificate_draft want keys cert ≡ Some (made-for want cert issuer subject)

  drafted : (cert : CertWork) → In cert (all_certificates plan_input ks) → IsDrafted cert
  drafted cert at =
      let n = filter-map-in (certificate_of plan_input.basis.configs plan_input.basis.sets (map kept ks)) cert (map kept ks) at in
      let k = map-in kept n.0 ks n.1 in
      let h = cert-of-key plan_input ks known k.0 k.1 in
      let gives : certificate_of plan_input.basis.configs plan_input.basis.sets (map kept ks) (kept k.0) ≡ Some cert =
      ap (certificate_of plan_input.basis.configs plan_input.basis.sets (map kept ks)) k.2 ∙ n.2 in
      let is : certificate_draft want keys cert ≡ Some h.draft =
      sym (ap (option_and_then (certificate_draft want keys)) gives) ∙ h.is in
      let c = cert-draft want keys cert h.draft is in
      record {
        key = k.0;
        live = k.1;
        gives = gives;
        issuer = c.0;
        subject = c.1;
        by = c.2;
        of = c.3;
        own = ap (λ (x : Draft). subject_in k.0 x.kind) c.4 ∙ ap (subject_in k.0) h.kind;
        is = is ∙ ap (λ (d : Draft). Some d) (sym c.4);
      }

  -- A certificate for the key is among them.
  made-whole : (k : KeyRow) → In k ks → is_some (made_for want keys k) ≡ true
  made-whole k at =
      let h = cert-of-key plan_input ks known k at in
      let c = then-some (certificate_draft want keys)
      (certificate_of plan_input.basis.configs plan_input.basis.sets (map kept ks) (kept k)) h.draft h.is in
      let among : In c.0 (all_certificates plan_input ks) =
      in-filter-map (certificate_of plan_input.basis.configs plan_input.basis.sets (map kept ks)) (kept k) c.0 (map kept ks) c.1
      (in-map kept k ks at) in
      let d = cert-draft want keys c.0 h.draft c.2 in
      let subject : d.1 ≡ k =
      ap (λ (x : Draft). subject_in k x.kind) d.4 ∙ ap (subject_in k) h.kind in
      let names : names_key keys c.0.subject k ≡ true =
      ap (λ (o : Option KeyRow). has_id (id_of k) (option_map key_of o)) d.3
      ∙ (bytes_eq-Decides (id_of d.1) (id_of k)).1 (ap id_of subject) in
      let f = some-found (λ (x : CertWork). names_key keys x.subject k) (all_certificates plan_input ks) c.0 among names in
      let of = drafted f.0 (found-in (λ (x : CertWork). names_key keys x.subject k) (all_certificates plan_input ks) f.0 f.1).0 in
      ap (λ (o : Option CertWork). is_some (option_map (λ (issuer : KeyRow). made_uri want.site want.names issuer k)
      (option_and_then (λ (x : CertWork). key_named keys x.issuer) o))) f.1
      ∙ ap (λ (o : Option KeyRow). is_some (option_map (λ (issuer : KeyRow). made_uri want.site want.names issuer k) o)) of.by

  -- ---- one certificate for each key

  -- The key that a certificate names.
  names-own : (cert : CertWork) (d : IsDrafted cert) (row : KeyRow) → names_key keys cert.subject row ≡ true → id_of d.key ≡ id_of row
  names-own cert d row names =
      ap id_of (sym d.own)
      ∙ (bytes_eq-Decides (id_of d.subject) (id_of row)).0
      (sym (ap (λ (o : Option KeyRow). has_id (id_of row) (option_map key_of o)) d.of) ∙ names)

  one-work : (one other : CertWork) → In one (all_certificates plan_input ks) → In other (all_certificates plan_input ks)
      → (row : KeyRow) → names_key keys one.subject row ≡ true → names_key keys other.subject row ≡ true → one ≡ other
  one-work one other c e row names named =
      let d = drafted one c in
      let f = drafted other e in
      let same : d.key ≡ f.key =
      same-key plan_input ks known d.key f.key d.live f.live (names-own one d row names ∙ sym (names-own other f row named)) in
      same_Some one other
      (sym d.gives
      ∙ (ap (λ (k : KeyRow). certificate_of plan_input.basis.configs plan_input.basis.sets (map kept ks) (kept k)) same ∙ f.gives))

  -- The certificate that is wanted for a key, of which the one that stands fits, is where it stands.
  fits-made : (row : KeyRow) (cert : CertWork) → In cert (all_certificates plan_input ks) → names_key keys cert.subject row ≡ true
      → (d : IsDrafted cert) → made_for want keys row ≡ Some (made_uri want.site want.names d.issuer row)
  fits-made row cert at names d =
      let test : CertWork → Bool = λ x. names_key keys x.subject row in
      let f = some-found test (all_certificates plan_input ks) cert at names in
      let g = found-in test (all_certificates plan_input ks) f.0 f.1 in
      let same : f.0 ≡ cert = one-work f.0 cert g.0 at row g.1 names in
      ap (λ (o : Option CertWork). option_map (λ (issuer : KeyRow). made_uri want.site want.names issuer row)
      (option_and_then (λ (x : CertWork). key_named keys x.issuer) o)) (f.1 ∙ ap (λ (x : CertWork). Some x) same)
      ∙ ap (option_map (λ (issuer : KeyRow). made_uri want.site want.names issuer row)) d.by

  fits-stands : (row : KeyRow) (cert : CertWork) → In cert (all_certificates plan_input ks) → names_key keys cert.subject row ≡ true
      → keeps_certificate plan_input ks cert ≡ true → (d : IsDrafted cert)
      → standing_for plan_input.issued row ≡ Some (made_uri want.site want.names d.issuer row)
  fits-stands row cert at names keeps d =
      let fit = kept-certificate plan_input ks over cert (in-contains cert (all_certificates plan_input ks) at) keeps
      (made-for want cert d.issuer d.subject) d.is in
      let ids : id_of row ≡ id_of d.subject = sym (names-own cert d row names) ∙ ap id_of (sym d.own) in
      ap (λ (id : List ℕ). option_map (λ (r : IssuedRow). r.uri)
      (find (λ (r : IssuedRow). has_id id (certified_key r.what)) plan_input.issued)) ids
      ∙ (fit.first d.subject cert.held refl
      ∙ ap (λ (id : List ℕ). Some (cond (bytes_eq (id_of d.issuer) id) (anchor_uri want.site)
      (cert_uri want.site (name_at want.names d.issuer.desk) id))) (sym ids))

  -- So each key has its certificate where all that is wanted has it.
  pub homes : (row : KeyRow) → publishing_of s found row ≡ publishing_of want keys row
  homes row = ap publish (by (plan.published row))
    where
      publish : List ℕ → Publishing
      publish uri = record {
        key = row.key.bytes;
        id = id_of row;
        name = name_at (names_of plan_input.basis.configs) row.desk;
        certificate = uri;
      }

      tell : Option (List ℕ) → Option (List ℕ) → List ℕ
      tell made stands = cond (row.desk == 0) (anchor_uri plan_input.site) (first_of made stands (anchor_uri plan_input.site))

      by : IsCertifiedBy plan_input work found ks row
          → tell (made_for s found row) (standing_for plan_input.issued row)
          ≡ tell (made_for want keys row) (standing_for plan_input.issued row)
      by (inl same) = ap (λ (o : Option (List ℕ)). tell o (standing_for plan_input.issued row)) same
      by (inr fit) =
          let cert : CertWork = fit.1.0 in
          let at : In cert (all_certificates plan_input ks) = contains-in cert (all_certificates plan_input ks) fit.1.1 in
          let d = drafted cert at in
          let stands = fits-stands row cert at fit.1.2 fit.1.3 d in
          let made = fits-made row cert at fit.1.2 d in
          ap (λ (o : Option (List ℕ)). tell o (standing_for plan_input.issued row)) fit.0
          ∙ (ap (tell None) stands
          ∙ sym (ap (λ (o : Option (List ℕ)). tell o (standing_for plan_input.issued row)) made))

  module _ (plain : All (λ row. IsName row.name) (names_of plan_input.basis.configs)) (named : CanBeNamed plan_input.site) where
    -- Where one is made it can be named.
    uri-named : (issuer subject : KeyRow) → In issuer ks → is_uri (made_uri want.site want.names issuer subject) ≡ true
    uri-named issuer subject at = by (is_key issuer subject)
      where
        name : IsName (name_at (names_of plan_input.basis.configs) issuer.desk)
        name =
            let d = desk-of-key plan_input ks known issuer at in
            subst IsName
            (sym (ap (λ (o : Option NameRow). option_map_or (λ (n : NameRow). n.name) o []) d.1.named))
            (name-ok plan_input.basis.configs issuer.desk d.0 plain d.1.named)

        by : (b : Bool) → is_uri (cond b (anchor_uri want.site) (cert_uri want.site (name_at want.names issuer.desk) (id_of subject))) ≡ true
        by true = named.anchor
        by false = named.certificate (name_at want.names issuer.desk) (id_of subject) name

    -- One that fits stands.
    stands : (k : KeyRow) → In k ks → (cert : CertWork) → In cert (all_certificates plan_input ks)
        → names_key keys cert.subject k ≡ true → keeps_certificate plan_input ks cert ≡ true
        → IsSome (standing_for plan_input.issued k) × IfSome (standing_for plan_input.issued k) (λ uri. is_uri uri ≡ true)
    stands k at cert among names keeps =
        let d = drafted cert among in
        let ids : bytes_eq (id_of d.subject) (id_of k) ≡ true =
        sym (ap (λ (o : Option KeyRow). has_id (id_of k) (option_map key_of o)) d.of) ∙ names in
        let subject : d.subject ≡ k =
        same-key plan_input ks known d.subject k (contains-in d.subject ks (key-named ks cert.subject d.subject d.of)) at
        ((bytes_eq-Decides (id_of d.subject) (id_of k)).0 ids) in
        let fit = kept-certificate plan_input ks over cert (in-contains cert (all_certificates plan_input ks) among) keeps
        (made-for want cert d.issuer d.subject) d.is in
        let is : standing_for plan_input.issued k ≡ Some (made_uri want.site want.names d.issuer d.subject) =
        ap (standing_for plan_input.issued) (sym subject) ∙ fit.first d.subject cert.held refl in (
          ap is_some is,
          subst (λ (o : Option (List ℕ)). IfSome o (λ uri. is_uri uri ≡ true)) (sym is)
              (uri-named d.issuer d.subject (contains-in d.issuer ks (key-named ks cert.issuer d.issuer d.by))),
        )

    pub certified : (k : KeyRow) → In k ks → IsCertified s found k
    certified k at = λ other. by (plan.published k)
      where
        by : IsCertifiedBy plan_input work found ks k → IsSome (made_for s found k)
            ⊎ (IsSome (standing_for s.issued k) × IfSome (standing_for s.issued k) (λ uri. is_uri uri ≡ true))
        by (inl same) = inl (ap is_some same ∙ made-whole k at)
        by (inr fit) =
            let cert : CertWork = fit.1.0 in
            inr (stands k at cert (contains-in cert (all_certificates plan_input ks) fit.1.1) fit.1.2 fit.1.3)

    pub puts-new : puts s found ≡ new_puts plan_input ks
    puts-new =
        ap (λ (l : List Draft). l ++ manifests s found) plan.drafts
        ∙ ap (λ (l : List Draft). drafts (anew plan_input ks) keys ++ l) plan.manifests

    pub are-certified : All (λ d. IsCertified s found d.issuer) (puts s found)
    are-certified =
        subst (All (λ (d : Draft). IsCertified s found d.issuer)) (sym puts-new)
        (all-in (λ (d : Draft). IsCertified s found d.issuer) (new_puts plan_input ks)
        (λ d at. certified d.issuer (placed plan_input ks d (new-in plan_input ks d at)).live))
