-- What stands in the set of an edition serves for what it wants: the edition made it, or it served the one before.
use Rattle.std.proofs.Common.{◌≡◌, ◌≢◌, ℕ, zero, suc, ◌+◌, ◌<◌, ◌≤◌, ◌==◌, Bool, true, false, cond, Option, None, Some, List, [], ◌∷◌, ◌++◌, map, length, take, All, AllPairs, refl, sym, ap, subst, ◌∙◌, arith, ◌⊎◌, inl, inr}
use Rattle.std.specs.Prelude.{Any, Contains, option_map, is_some, nat_le, slice_get, filter, not}
use Rattle.sha2.specs.Sha256.{sha256}
use Rattle.std.specs.List.{filter_map}
use Rattle.std.specs.Str.{bytes_eq}
use Rattle.std.proofs.lemmas.Bool.{true≢false, and_parts, and_from, leb-true, le-leb, eqb-true, eq-eqb}
use Rattle.std.proofs.lemmas.Option.{same_Some, none-some}
use Rattle.std.proofs.lemmas.List.{take_at, length-take-le}
use Rattle.std.proofs.lemmas.List.Elements.{All-contains, Contains-append_cases, Contains-append_left, Contains-append_right}
use Rattle.std.proofs.lemmas.List.Sorted.{IsPermutation-sym, IsPermutation-trans}
use Rattle.std.proofs.lemmas.Slice.Eq.{bytes_eq-Decides}
use Rattle.sha1.specs.Sha1.{sha1}
use Rattle.names.specs.Name.{IsName}
use Rattle.cert_obj.specs.laws.IdentifierLaws.{sha1-bytes}
use Rattle.signer_api.specs.declared.values.PublicKey.{PublicKey}
use Rattle.origins.specs.declared.Origin.{Origin}
use Rattle.res_sets.specs.declared.holdings.Resources.{Resources}
use Rattle.key_ids.specs.Uris.{Bases, folder_of, anchor_uri, cert_uri, crl_uri, manifest_uri}
use Rattle.authority_book.specs.declared.commands.Command.{Command}
use Rattle.authority_book.specs.declared.rows.NameRow.{NameRow}
use Rattle.authority_book.specs.Fold.{first_names, empty_settings}
use Rattle.entitle.specs.Certified.{names_of}
use Rattle.key_roll.specs.declared.rows.KeyRow.{KeyRow}
use Rattle.key_roll.specs.declared.issued.IssuedRow.{IssuedRow}
use Rattle.cert_obj.specs.Values.{Sets, CertValue, SignedCert, sets_of}
use Rattle.rp_rules.specs.Certificates.{lies_in}
use Rattle.crl_obj.specs.Values.{CrlValue, SignedCrl}
use Rattle.rp_rules.specs.Objects.{SignedRoa, certificate_in, roa_in, crl_in, manifest_in}
use Rattle.issue_values.specs.Bodies.{crl_value_of}
use Rattle.issue_values.specs.Publishers.{Publishing, roa_uri}
use Rattle.issue_values.specs.Certificates as values
use Rattle.issue_values.specs.Certificates.{certificate_life, point_life}
use Rattle.issue_values.specs.UriEndings.{last_byte}
use Rattle.issue_plan.specs.Keys.{kept, next_keys}
use Rattle.issue_plan.specs.Wanted.{point_of}
use Rattle.issue_keys.specs.Keys.{id_of}
use Rattle.issue_drafts.specs.WorkKeys.{key_named}
use Rattle.issue_drafts.specs.Publishers.{is_key, name_at}
use Rattle.issue_drafts.specs.Drafts.{Draft, Kind, certificate_draft, roa_draft, crl_draft, manifest_draft, drafts, manifests, serial_at, serial_behind}
use Rattle.issue_sign.specs.Objects.{number_of}
use Rattle.issue_drafts.specs.Drafts.Kind.{Certificate, Roa, Crl, Manifest}
use Rattle.issue_make.specs.Trace.{Says as Tells}
use Rattle.key_roll.specs.declared.issued.What.{What}
use Rattle.key_roll.specs.declared.issued.What.TheVariants as Whats
use Rattle.issue_drafts.specs.Files.{name_in, folder_at, is_made_under}
use Rattle.issue_drafts.specs.laws.UriOrder.{apart-permuted}
use Rattle.editions.specs.Held.{HasCertificate, certificate_inside}
use Rattle.editions.specs.Table.{IsDated, IsTold}
use Rattle.editions.specs.Edition.{Edition, State, state_after, cut_at}
use Rattle.editions.specs.Names.{AreTree}
use Rattle.editions.specs.Wanted as wanted
use Rattle.editions.specs.Wanted.{whole, all_certificates, all_roas, all_points, all_objects, new_objects, keeps_point}
use Rattle.editions.specs.Objects.{Issuance, moment_of, IsObject, IsCertificate, IsRoa, IsCrl, IsManifest, IsNewSet, AreFiles, file_of}
use Rattle.editions.specs.Step.{Premises, IsStep, AreSteps, configs_at, counted}
use Rattle.editions.specs.MadeIn.{issuance_of, IsSameKey, published_key}
use Rattle.items.specs.laws.ElementLaws.{into-map, from-map, into-filter, from-filter, into-filter_map, from-filter_map, all-front, pairs-front}
use Rattle.items.specs.laws.PairLaws.{twos-from}
use Rattle.items.specs.laws.AmongLaws.{In, in-front, contains-in}
use Rattle.editions.proofs.ObjectLemmas.Fitting.{keeps-files}
use Rattle.editions.proofs.ObjectLemmas.Kept.{IsOver}
use Rattle.editions.proofs.ObjectLemmas.Permuted.{same-members}
use Rattle.editions.proofs.ObjectLemmas.Tables.{dated}
use Rattle.editions.proofs.PlanLemmas.Pairs as pairs
use Rattle.editions.proofs.PlanLemmas.Drafted.{AreKnown}
use Rattle.editions.proofs.PlanLemmas.Planning.{known-next}
use Rattle.editions.proofs.PlanLemmas.Filing.{File, name_of, files-apart}
use Rattle.editions.proofs.PlanLemmas.Fitted.{twos-parted}
use Rattle.editions.proofs.WalkLemmas.Rising.{rising-apart}
use Rattle.editions.proofs.ObjectLemmas.Named.{self-named, cert-draft, mapped-draft}
use Rattle.editions.proofs.ObjectLemmas.Standing.{IsPlacedAt, IsPut, IsStood, left-draft, files-stay, files-fit}
use Rattle.editions.proofs.ObjectLemmas.Views.{apart-same}
use Rattle.editions.proofs.ObjectLemmas.History.{after-last, take-next}
use Rattle.editions.proofs.ObjectLemmas.Lasts.{last-of}
use Rattle.editions.proofs.ObjectLemmas.OneKind.{certificate-no-crl, crl-no-object}
use Rattle.editions.proofs.ObjectLemmas.Given.{roa-read, manifest-read}
use Rattle.editions.proofs.ObjectLemmas.Left.{IsSubject, of-keys, front-steps}
use Rattle.editions.proofs.ObjectLemmas.Lives.{same-then, id-same, counted-same, each-carried}
use Rattle.editions.proofs.PlanLemmas.Told.{AreTold, HaveEnds, ends-apart, cert-roa, cert-crl, cert-manifest, roa-crl, roa-manifest, crl-manifest}
use Rattle.editions.proofs.PlanLemmas.Once.{name-ok}
use Rattle.editions.proofs.WalkLemmas.Folders.{plain-name}
use Rattle.editions.proofs.WalkLemmas.KeyTree.{in-tree}
use Rattle.editions.proofs.WalkLemmas.Rows.{rows-apart, last-step}
use Rattle.editions.proofs.WalkLemmas.Point.{lies-in}
use Rattle.editions.proofs.WalkLemmas.Homes as homes
use Rattle.editions.proofs.WalkLemmas.CertDrafts.{own-draft}
use Rattle.editions.proofs.WalkLemmas.Stays as stays
use Rattle.editions.proofs.WalkLemmas.Serving.{certificate_made, ServesCertificate, ServesRoa, ServesPoint, IsServed}

-- ---- what an edition made serves

module _ (m : Issuance) where
  made-certificate : (d : Draft) (subject : KeyRow) (held : Resources) (bytes : List ℕ) → d.kind ≡ Certificate subject held
      → IsPut m d bytes → ServesCertificate m d subject held bytes
  made-certificate d subject held bytes is put =
      let object : IsCertificate m d subject held bytes = subst (λ (kind : Kind). IsObject m d kind bytes) is put.object in
      record {
        certificate = object.certificate;
        read = object.read;
        made = moment_of m;
        serial = serial_at (new_objects m.plan_input m.keys) d.issuer d.uri;
        time = lies-in (moment_of m) certificate_life;
        says = object.issued.says;
        vouched = object.issued.vouched;
      }

  made-roa : (d : Draft) (origin : Origin) (bytes : List ℕ) → d.kind ≡ Roa origin → IsPut m d bytes
      → ServesRoa m d origin bytes
  made-roa d origin bytes is put =
      let object : IsRoa m d origin bytes = subst (λ (kind : Kind). IsObject m d kind bytes) is put.object in
      record {
        roa = object.roa;
        read = object.read;
        body = object.signed.body;
        made = moment_of m;
        serial = serial_at (new_objects m.plan_input m.keys) d.issuer d.uri;
        time = lies-in (moment_of m) certificate_life;
        says = object.signed.certificate.says;
        issued = object.signed.certificate.vouched;
        signer = object.signed.signer;
        signed = object.signed.vouched;
      }

  abbrev crl_for : KeyRow → Draft
  crl_for k = record {
    uri = crl_uri m.plan_input.site (name_at (names_of m.plan_input.basis.configs) k.desk) (id_of k);
    issuer = k;
    kind = Crl;
  }

  abbrev manifest_for : KeyRow → Draft
  manifest_for k = record {
    uri = manifest_uri m.plan_input.site (name_at (names_of m.plan_input.basis.configs) k.desk) (id_of k);
    issuer = k;
    kind = Manifest;
  }

  made-point : (k : KeyRow) (crl_bytes bytes : List ℕ) → m.new (crl_for k).uri ≡ Some crl_bytes
      → m.new (manifest_for k).uri ≡ Some bytes → IsPut m (crl_for k) crl_bytes → IsPut m (manifest_for k) bytes
      → ServesPoint m k
  made-point k crl_bytes bytes stands there list put =
      let crl : IsCrl m (crl_for k) crl_bytes = list.object in
      let object : IsManifest m (manifest_for k) bytes = put.object in
      record {
        made = moment_of m;
        number = number_of k;
        time = lies-in (moment_of m) point_life;
        revoked = m.entries k;
        crl_bytes = crl_bytes;
        crl_there = stands;
        crl = crl.crl;
        crl_read = crl.read;
        crl_says = crl.says;
        crl_vouched = crl.vouched;
        bytes = bytes;
        there = there;
        manifest = object.manifest;
        read = object.read;
        files = object.files;
        listed = object.listed;
        body = object.signed.body;
        serial = serial_behind (new_objects m.plan_input m.keys) k;
        says = object.signed.certificate.says;
        issued = object.signed.certificate.vouched;
        signer = object.signed.signer;
        signed = object.signed.vouched;
      }

  -- ---- all of it, where what stood before serves

  module _ (over : IsOver m.plan_input m.keys) (set : IsNewSet m)
      (old-certificate : (d : Draft) (subject : KeyRow) (held : Resources) (bytes : List ℕ)
      → Contains (all_objects m.plan_input m.keys) d → d.kind ≡ Certificate subject held
      → IsStood m d bytes → ServesCertificate m d subject held bytes)
      (old-roa : (d : Draft) (origin : Origin) (bytes : List ℕ) → Contains (all_objects m.plan_input m.keys) d
      → d.kind ≡ Roa origin → IsStood m d bytes → ServesRoa m d origin bytes)
      (old-point : (k : KeyRow) (crl_bytes bytes : List ℕ) → Contains m.keys k
      → m.new (crl_for k).uri ≡ Some crl_bytes → m.new (manifest_for k).uri ≡ Some bytes
      → IsStood m (crl_for k) crl_bytes → IsStood m (manifest_for k) bytes → ServesPoint m k) where
    bytes-at : (o : Option (List ℕ)) → is_some o ≡ true → (bytes : List ℕ) × (o ≡ Some bytes)
    bytes-at None e = absurd cc
    bytes-at (Some bytes) e = (bytes, refl)

    there-is : (d : Draft) → Contains (all_objects m.plan_input m.keys) d
        → (bytes : List ℕ) × (m.new d.uri ≡ Some bytes) × (IsPut m d bytes ⊎ IsStood m d bytes)
    there-is d c =
        let at = bytes-at (m.new d.uri) ((set.places d.uri).1 (c.0, d, c.1, c.2, refl)) in
        (at.0, at.1, left-draft m over set d c at.0 at.1)

    certificates : (d : Draft) → Contains (all_objects m.plan_input m.keys) d → (subject : KeyRow) (held : Resources)
        → d.kind ≡ Certificate subject held
        → (bytes : List ℕ) × (m.new d.uri ≡ Some bytes) × ServesCertificate m d subject held bytes
    certificates d c subject held is =
        let at = there-is d c in (
          at.0,
          at.1,
          elim (at.2) [
            | inl put ↦ made-certificate d subject held at.0 is put
            | inr old ↦ old-certificate d subject held at.0 c is old
          ],
        )

    roas : (d : Draft) → Contains (all_objects m.plan_input m.keys) d → (origin : Origin) → d.kind ≡ Roa origin
        → (bytes : List ℕ) × (m.new d.uri ≡ Some bytes) × ServesRoa m d origin bytes
    roas d c origin is =
        let at = there-is d c in (
          at.0,
          at.1,
          elim (at.2) [
            | inl put ↦ made-roa d origin at.0 is put
            | inr old ↦ old-roa d origin at.0 c is old
          ],
        )

    -- The drafts of a key's point are wanted.
    own-name : (k : KeyRow) → Contains m.keys k → key_named (wanted.there m.keys) (kept k).name ≡ Some k
    own-name k c =
        let named = self-named m.keys k c in
        named.1 ∙ ap (λ (r : KeyRow). Some r) (apart-same m.keys named.0 k over.next.apart named.2 c named.3)

    own-point : (k : KeyRow) → Contains m.keys k → Contains (all_points m.keys) (point_of (kept k))
    own-point k c = into-map point_of (map kept m.keys) (kept k) (into-map kept m.keys k c)

    crl-wanted : (k : KeyRow) → Contains m.keys k → Contains (all_objects m.plan_input m.keys) (crl_for k)
    crl-wanted k c =
        let s = whole m.plan_input m.keys in
        let ks = wanted.there m.keys in
        let certs : List Draft = filter_map (certificate_draft s ks) (all_certificates m.plan_input m.keys) in
        let roas : List Draft = filter_map (roa_draft s ks) (all_roas m.plan_input m.keys) in
        let crls : List Draft = filter_map (crl_draft s ks) (all_points m.keys) in
        Contains-append_left (drafts s ks) (manifests s ks) (crl_for k)
        (Contains-append_right (certs ++ roas) crls (crl_for k)
        (into-filter_map (crl_draft s ks) (all_points m.keys) (point_of (kept k)) (crl_for k) (own-point k c)
        (ap (option_map (λ (r : KeyRow). crl_for r)) (own-name k c))))

    manifest-wanted : (k : KeyRow) → Contains m.keys k → Contains (all_objects m.plan_input m.keys) (manifest_for k)
    manifest-wanted k c =
        let s = whole m.plan_input m.keys in
        let ks = wanted.there m.keys in
        Contains-append_right (drafts s ks) (manifests s ks) (manifest_for k)
        (into-filter_map (manifest_draft s ks) (all_points m.keys) (point_of (kept k)) (manifest_for k) (own-point k c)
        (ap (option_map (λ (r : KeyRow). manifest_for r)) (own-name k c)))

    points : (k : KeyRow) → Contains m.keys k → ServesPoint m k
    points k c =
        let list = there-is (crl_for k) (crl-wanted k c) in
        let object = there-is (manifest_for k) (manifest-wanted k c) in
        elim (list.2) [
          | inl put ↦ elim (object.2) [
            | inl also ↦ made-point k list.0 object.0 list.1 object.1 put also
            | inr old ↦ absurd (true≢false (sym (old.point refl) ∙ put.point refl))
          ]
          | inr old ↦ elim (object.2) [
            | inl put ↦ absurd (true≢false (sym (old.point refl) ∙ put.point refl))
            | inr also ↦ old-point k list.0 object.0 c list.1 object.1 old also
          ]
        ]

    pub served-by : IsServed m
    served-by = record {
      places = set.places;
      certificates = certificates;
      roas = roas;
      points = points;
    }

-- Where nothing stood before.
pub first-served : (m : Issuance) → IsOver m.plan_input m.keys → IsNewSet m
    → ((uri : List ℕ) → m.old uri ≡ None) → IsServed m
first-served m over set none = served-by m over set
    (λ d subject held bytes c is old. absurd (none-some bytes (sym (none d.uri) ∙ old.stood)))
    (λ d origin bytes c is old. absurd (none-some bytes (sym (none d.uri) ∙ old.stood)))
    (λ k crl_bytes bytes c stands there old also. absurd (none-some bytes (sym (none (manifest_for m k).uri) ∙ also.stood)))

-- ---- manifests and other files

module _ (ends : HaveEnds) (x : Issuance) where
  abbrev front_drafts : List Draft
  front_drafts = drafts (whole x.plan_input x.keys) (wanted.there x.keys)

  abbrev last_drafts : List Draft
  last_drafts = manifests (whole x.plan_input x.keys) (wanted.there x.keys)

  -- A manifest has its ending.
  list-end : (d : Draft) → Contains last_drafts d → last_byte d.uri ≡ 116
  list-end d c =
      let s = whole x.plan_input x.keys in
      let from = from-filter_map (manifest_draft s (wanted.there x.keys)) (all_points x.keys) d c in
      let parts = mapped-draft (λ issuer. record {
        uri = manifest_uri s.site (name_at s.names issuer.desk) (id_of issuer);
        issuer = issuer;
        kind = Manifest;
      }) (key_named (wanted.there x.keys) from.0.key) d from.2 in
      ap (λ (e : Draft). last_byte e.uri) (sym parts.2) ∙ ends.manifests s.site (name_at s.names parts.0.desk) (id_of parts.0)

  certificate-at : (site : Bases) (name : List ℕ) (issuer subject : KeyRow) (b : Bool)
      → last_byte (cond b (anchor_uri site) (cert_uri site name (id_of subject))) ≡ 114
  certificate-at site name issuer subject true = ends.anchor site
  certificate-at site name issuer subject false = ends.certificates site name (id_of subject)

  -- Other files have others.
  front-end : (d : Draft) → Contains front_drafts d → last_byte d.uri ≢ 116
  front-end d c e =
      let s = whole x.plan_input x.keys in
      let ks = wanted.there x.keys in
      let certs : List Draft = filter_map (certificate_draft s ks) (all_certificates x.plan_input x.keys) in
      let roas : List Draft = filter_map (roa_draft s ks) (all_roas x.plan_input x.keys) in
      let crls : List Draft = filter_map (crl_draft s ks) (all_points x.keys) in
      elim (Contains-append_cases (certs ++ roas) crls d c) [
        | inr inside ↦
            let from = from-filter_map (crl_draft s ks) (all_points x.keys) d inside in
            let parts = mapped-draft (λ issuer. record {
              uri = crl_uri s.site (name_at s.names issuer.desk) (id_of issuer);
              issuer = issuer;
              kind = Crl;
            }) (key_named ks from.0.key) d from.2 in
            ends-apart d.uri d.uri 108 116 (ap (λ (y : Draft). last_byte y.uri) (sym parts.2)
            ∙ ends.crls s.site (name_at s.names parts.0.desk) (id_of parts.0)) e crl-manifest refl
        | inl more ↦ elim (Contains-append_cases certs roas d more) [
          | inl inside ↦
              let from = from-filter_map (certificate_draft s ks) (all_certificates x.plan_input x.keys) d inside in
              let parts = cert-draft s ks from.0 d from.2 in
              ends-apart d.uri d.uri 114 116 (ap (λ (y : Draft). last_byte y.uri) (sym parts.4)
              ∙ certificate-at s.site (name_at s.names parts.0.desk) parts.0 parts.1 (is_key parts.0 parts.1)) e cert-manifest refl
          | inr inside ↦
              let from = from-filter_map (roa_draft s ks) (all_roas x.plan_input x.keys) d inside in
              let parts = mapped-draft (λ issuer. record {
                uri = roa_uri s.site (name_at s.names issuer.desk) from.0.origin;
                issuer = issuer;
                kind = Roa from.0.origin;
              }) (key_named ks from.0.issuer) d from.2 in
              ends-apart d.uri d.uri 97 116 (ap (λ (y : Draft). last_byte y.uri) (sym parts.2)
              ∙ ends.roas s.site (name_at s.names parts.0.desk) from.0.origin) e roa-manifest refl
        ]
      ]

  front-from : (d : Draft) → Contains (all_objects x.plan_input x.keys) d → last_byte d.uri ≢ 116 → Contains front_drafts d
  front-from d c other = elim (Contains-append_cases front_drafts last_drafts d c) [
    | inl front ↦ front
    | inr list ↦ absurd (other (list-end d list))
  ]

crl-row : (bytes : List ℕ) (row : IssuedRow) (what : What) (l : SignedCrl) → IsTold bytes row what → crl_in bytes ≡ Some l
    → row.issuer.bytes ≡ l.crl.issuer
crl-row bytes row (Whats.Authority key held) l is read = absurd (certificate-no-crl bytes is.certificate l is.read read)
crl-row bytes row (Whats.Route origin) l is read =
    absurd (crl-no-object bytes l is.roa.object read (roa-read bytes is.roa is.read).object)
crl-row bytes row Whats.Point l (inl is) read =
    is.issuer ∙ ap (λ (x : SignedCrl). x.crl.issuer) (same_Some is.crl l (sym is.read ∙ read))
crl-row bytes row Whats.Point l (inr is) read =
    absurd (crl-no-object bytes l is.manifest.object read (manifest-read bytes is.manifest is.read).object)

-- ---- one edition behind another

module _ (told : AreTold) (ends : HaveEnds) (premises : Premises) (before : List Edition) (was edition : Edition)
    (earlier clock : ℕ) (first : IsStep premises earlier before was)
    (step : IsStep premises clock (before ++ was ∷ []) edition)
    (until : AreSteps premises (before ++ was ∷ []))
    (steps : AreSteps premises ((before ++ was ∷ []) ++ edition ∷ []))
    (tree : AreTree (names_of (configs_at premises.lists edition.cut)))
    (plain : All (λ row. IsName row.name) (names_of (configs_at premises.lists edition.cut)))
    (trees : AreTree (names_of (configs_at premises.lists was.cut)))
    (plains : All (λ row. IsName row.name) (names_of (configs_at premises.lists was.cut)))
  where
    abbrev m : Issuance
    m = issuance_of premises clock (before ++ was ∷ []) edition step

    abbrev n : Issuance
    n = issuance_of premises earlier before was first

    abbrev site : Bases
    site = premises.site

    abbrev names : List NameRow
    names = names_of m.plan_input.basis.configs

    abbrev old_names : List NameRow
    old_names = names_of n.plan_input.basis.configs

    apart : AllPairs (λ a b. id_of a ≢ id_of b) m.plan_input.basis.rows
    apart = rows-apart premises (before ++ was ∷ []) edition steps

    over : IsOver m.plan_input m.keys
    over = record { next = step.made.next; apart = apart }

    old-apart : AllPairs (λ a b. id_of a ≢ id_of b) n.plan_input.basis.rows
    old-apart = rows-apart premises before was until

    rows-are : m.plan_input.basis.rows ≡ was.rows
    rows-are = ap (λ (s : State). s.rows) (after-last before was)

    later : moment_of n < moment_of m
    later =
        let is : (state_after (before ++ was ∷ [])).moment ≡ was.moment = ap (λ (s : State). s.moment) (after-last before was) in
        let next = step.moment in
        omega (arith, is, next)

    cut-more : cut_at was.cut 0 ≤ cut_at edition.cut 0
    cut-more =
        let is : cut_at (state_after (before ++ was ∷ [])).cut 0 ≡ cut_at was.cut 0 =
        ap (λ (s : State). cut_at s.cut 0) (after-last before was) in
        let more = step.cut.grown 0 in
        omega (arith, is, more)

    -- ---- one key in both

    row-of : (k : KeyRow) → Contains n.keys k
        → Contains m.plan_input.basis.rows (counted n.plan_input n.keys n.entries k)
    row-of k c =
        subst (λ (rows : List KeyRow). Contains rows (counted n.plan_input n.keys n.entries k))
        (sym (rows-are ∙ first.made.rows)) (into-map (counted n.plan_input n.keys n.entries) n.keys k c)

    key-of : (row : KeyRow) → Contains m.plan_input.basis.rows row
        → (k : KeyRow) × Contains n.keys k × (counted n.plan_input n.keys n.entries k ≡ row)
    key-of row c =
        from-map (counted n.plan_input n.keys n.entries) n.keys row
        (subst (λ (rows : List KeyRow). Contains rows row) (rows-are ∙ first.made.rows) c)

    same-key : (k l : KeyRow) → Contains n.keys k → Contains m.keys l → id_of k ≡ id_of l → IsSameKey k l
    same-key k l c d ids = elim (each-carried m.plan_input.basis.rows (next_keys m.plan_input.basis) m.keys l
        step.made.next.each d) [
          | inl carried ↦
              let of = key-of carried.row carried.live in
              let counted_id : id_of carried.row ≡ id_of of.0 =
              id-same of.0 carried.row (subst (IsSameKey of.0) of.2 (counted-same n of.0)) in
              let one : of.0 ≡ k = apart-same n.keys of.0 k first.made.next.apart of.1 c
              (sym counted_id ∙ (carried.named ∙ sym ids)) in
              same-then k carried.row l
              (subst (λ (x : KeyRow). IsSameKey x carried.row) one (subst (IsSameKey of.0) of.2 (counted-same n of.0)))
              carried.same
          | inr other ↦
              let row : KeyRow = counted n.plan_input n.keys n.entries k in
              absurd (All-contains (λ (live : KeyRow). id_of live ≢ id_of l) m.plan_input.basis.rows row other (row-of k c)
              (id-same k row (counted-same n k) ∙ ids))
        ]

    -- Its name, and the place of its certificate, where that stood.
    name-same : (k l : KeyRow) → Contains n.keys k → IsSameKey k l → name_at names l.desk ≡ name_at old_names k.desk
    name-same k l c same =
        let placed = in-tree n.plan_input.basis n.keys trees first.made.certified old-apart first.made.next k
        (contains-in k n.keys c) in
        ap (name_at names) same.desk
        ∙ stays.name-stays old_names names k.desk placed.name
        (stays.names-grow premises.lists was.cut edition.cut cut-more) placed.is.named

    name-old : (k : KeyRow) → Contains n.keys k → IsName (name_at old_names k.desk)
    name-old k c =
        let is = in-tree n.plan_input.basis n.keys trees first.made.certified old-apart first.made.next k
        (contains-in k n.keys c) in
        plain-name old_names plains k.desk is.name is.is.named

    -- A certificate's draft for the key is where the key has its certificate.
    own-place : (d : Draft) → Contains (all_objects n.plan_input n.keys) d → (subject : KeyRow) (held : Resources)
        → d.kind ≡ Certificate subject held → (k : KeyRow) → Contains n.keys k → id_of subject ≡ id_of k
        → d.uri ≡ (published_key n k).certificate
    own-place d c subject held is k live same =
        let at = contains-in k n.keys live in
        ap (λ (x : Draft). x.uri)
        (own-draft n trees first.made.certified old-apart first.made.next d c subject held is k at same)
        ∙ sym (homes.certificate-at n trees first.made.certified old-apart first.made.next k at)

    -- What stands at the place of a certificate in the folder of a name is one, in that folder.
    in-parents : (l : KeyRow) (parent : List ℕ) → IsName parent → (uri : List ℕ) → uri ≡ cert_uri site parent (id_of l)
        → (d : Draft) → Contains (all_objects n.plan_input n.keys) d → d.uri ≡ uri
        → (k : KeyRow) → Contains n.keys k → id_of k ≡ id_of l → uri ≡ (published_key n k).certificate
    in-parents l parent good uri at d c here k live ids =
        let of = of-keys n d c in
        by d.kind refl of.live of.placed of.subject
      where
        place : d.uri ≡ cert_uri site parent (id_of l)
        place = here ∙ at

        end : last_byte d.uri ≡ 114
        end = ap last_byte place ∙ ends.certificates site parent (id_of l)

        by-top : (subject : KeyRow) (held : Resources) → d.kind ≡ Certificate subject held → Contains n.keys d.issuer
            → Contains n.keys subject → (b : Bool) → d.uri ≡ cond b (anchor_uri site)
            (cert_uri site (name_at old_names d.issuer.desk) (id_of subject))
            → uri ≡ (published_key n k).certificate
        by-top subject held is issuer has true top =
            absurd (told.anchor site parent _ (sym top ∙ place))
        by-top subject held is issuer has false below =
            let same = told.certificates site (name_at old_names d.issuer.desk) parent (id_of subject) (id_of l)
            (name-old d.issuer issuer) good (sha1-bytes subject.key.bytes) (sha1-bytes l.key.bytes)
            (sym below ∙ place) in
            sym here ∙ own-place d c subject held is k live (same.1 ∙ sym ids)

        by : (kind : Kind) → d.kind ≡ kind → Contains n.keys d.issuer → IsPlacedAt n d kind → IsSubject n.keys kind
            → uri ≡ (published_key n k).certificate
        by (Certificate subject held) is issuer placed has =
            by-top subject held is issuer has (is_key d.issuer subject) placed
        by (Roa origin) is issuer placed has =
            absurd (ends-apart d.uri d.uri 114 97 end
            (ap last_byte placed ∙ ends.roas site (name_at old_names d.issuer.desk) origin) cert-roa refl)
        by Crl is issuer placed has =
            absurd (ends-apart d.uri d.uri 114 108 end
            (ap last_byte placed ∙ ends.crls site (name_at old_names d.issuer.desk) (id_of d.issuer)) cert-crl refl)
        by Manifest is issuer placed has =
            absurd (ends-apart d.uri d.uri 114 116 end
            (ap last_byte placed ∙ ends.manifests site (name_at old_names d.issuer.desk) (id_of d.issuer))
            cert-manifest refl)

    -- Of what stood there is the draft.
    draft-old : (uri : List ℕ) (bytes : List ℕ) → m.old uri ≡ Some bytes
        → (d : Draft) × Contains (all_objects n.plan_input n.keys) d × (d.uri ≡ uri)
    draft-old uri bytes stood =
        let any = (first.made.set.places uri).0 (ap is_some stood) in
        (any.1, (any.0, any.2, any.3), any.4)

    -- The place of its certificate, where something stood at that one.
    place-same : (k l : KeyRow) → Contains n.keys k → Contains m.keys l → IsSameKey k l
        → (l.desk ≢ 0 → (above : IssuedRow) × Contains m.plan_input.issued above
        × (above.uri ≡ (published_key m l).certificate))
        → (published_key m l).certificate ≡ (published_key n k).certificate
    place-same k l c d same home = by (l.desk == 0) refl
      where
        at : In l m.keys
        at = contains-in l m.keys d

        by : (b : Bool) → (l.desk == 0) ≡ b → (published_key m l).certificate ≡ (published_key n k).certificate
        by true e =
            let zero_desk : l.desk ≡ 0 = eqb-true l.desk 0 e in
            stays.anchors-place m tree step.made.certified apart step.made.next l at zero_desk
            ∙ sym (stays.anchors-place n trees first.made.certified old-apart first.made.next k (contains-in k n.keys c)
            (sym same.desk ∙ zero_desk))
        by false e =
            let other : l.desk ≢ 0 = λ zero_desk. true≢false (sym (eq-eqb l.desk 0 zero_desk) ∙ e) in
            let h = home other in
            let p = stays.others-place m tree step.made.certified apart step.made.next l at other in
            let standing = step.made.table.each h.0 h.1 in
            let uri : List ℕ = (published_key m l).certificate in
            let stood : m.old uri ≡ Some standing.0 = ap m.old (sym h.2) ∙ standing.1 in
            let d_old = draft-old uri standing.0 stood in
            in-parents l p.parent (subst IsName p.called (name-ok m.plan_input.basis.configs p.above p.row plain p.known)) uri p.place d_old.0 d_old.1 d_old.2 k c
            (sym (id-same k l same))

    -- So it publishes alike.
    published-same : (k l : KeyRow) → Contains n.keys k → Contains m.keys l → IsSameKey k l
        → (published_key m l).certificate ≡ (published_key n k).certificate → published_key m l ≡ published_key n k
    published-same k l c d same place =
        let of : List ℕ → List ℕ → List ℕ → List ℕ → Publishing = λ key id name certificate.
        record { key = key; id = id; name = name; certificate = certificate } in
        ap (λ (key : PublicKey). of key.bytes (sha1 key.bytes) (name_at names l.desk) (published_key m l).certificate) same.key
        ∙ (ap (λ (name : List ℕ). of k.key.bytes (id_of k) name (published_key m l).certificate) (name-same k l c same)
        ∙ ap (of k.key.bytes (id_of k) (name_at old_names k.desk)) place)

    -- ---- dates

    -- What was in date, and isn't at its end, is.
    in-date : (made life end : ℕ) → lies_in (moment_of n) made (made + life) ≡ true → end ≡ made + life
        → moment_of m < end → lies_in (moment_of m) made (made + life) ≡ true
    in-date made life end was_in is late =
        let p = and_parts (nat_le made (moment_of n)) (nat_le (moment_of n) (made + life)) was_in in
        let low = leb-true made (moment_of n) p.0 in
        let more = later in
        and_from (nat_le made (moment_of m)) (nat_le (moment_of m) (made + life))
        (le-leb made (moment_of m) (omega (arith, low, more)))
        (le-leb (moment_of m) (made + life) (omega (arith, late, is)))

    -- ---- certificates that stay

    -- What the value of a certificate has.
    record Says (value : CertValue) (issuer subject : List ℕ) (held : Option Sets) (end : ℕ) : Type 0 where
      by_issuer : value.issuer ≡ issuer
      of_subject : sha1 value.key ≡ subject
      has : value.held ≡ held
      ends_at : value.not_after ≡ end

    says-by : (b : Bool) (x y : CertValue) (issuer subject : List ℕ) (held : Option Sets) (end : ℕ)
        → (b ≡ true → Says x issuer subject held end) → Says y issuer subject held end
        → Says (cond b x y) issuer subject held end
    says-by true x y issuer subject held end one two = one refl
    says-by false x y issuer subject held end one two = two

    made-says : (made : ℕ) (issuer subject : KeyRow) (held : Resources) (serial : ℕ)
        → Says (certificate_made n made issuer subject held serial) (id_of issuer) (id_of subject)
        (Some (sets_of held)) (made + certificate_life)
    made-says made issuer subject held serial =
        says-by (is_key issuer subject)
        (values.anchor_certificate site made (published_key n issuer) held serial)
        (values.authority_certificate site made (published_key n issuer) (published_key n subject) held serial)
        (id_of issuer) (id_of subject) (Some (sets_of held)) (made + certificate_life)
        (λ same. record {
          by_issuer = refl;
          of_subject = (bytes_eq-Decides (id_of issuer) (id_of subject)).0 same;
          has = refl;
          ends_at = refl;
        })
        (record { by_issuer = refl; of_subject = refl; has = refl; ends_at = refl })

    -- The same value, of keys at the same places and of the same resources.
    value-same : (made serial : ℕ) (i j s u : KeyRow) (r held : Resources)
        → published_key m j ≡ published_key n i → id_of u ≡ id_of s
        → u.key.bytes ≡ s.key.bytes → name_at names u.desk ≡ name_at old_names s.desk
        → is_key i s ≡ is_key j u → sets_of r ≡ sets_of held
        → certificate_made n made i s r serial ≡ certificate_made m made j u held serial
    value-same made serial i j s u r held issuers ids keys named test sets =
        let all : Bool → Publishing → List ℕ → List ℕ → List ℕ → Sets → CertValue = λ b p key name id held_sets.
        cond b
        (record (values.anchor_certificate site made p held serial) { held = Some held_sets })
        (record (values.authority_certificate site made p
        (record { key = key; id = id; name = name; certificate = [] }) held serial) { held = Some held_sets }) in
        ap (λ (b : Bool). all b (published_key n i) s.key.bytes (name_at old_names s.desk) (id_of s) (sets_of r)) test
        ∙ (ap (λ (p : Publishing). all (is_key j u) p s.key.bytes (name_at old_names s.desk) (id_of s) (sets_of r)) (sym issuers)
        ∙ (ap (λ (key : List ℕ). all (is_key j u) (published_key m j) key (name_at old_names s.desk) (id_of s) (sets_of r))
        (sym keys)
        ∙ (ap (λ (name : List ℕ). all (is_key j u) (published_key m j) u.key.bytes name (id_of s) (sets_of r)) (sym named)
        ∙ (ap (λ (id : List ℕ). all (is_key j u) (published_key m j) u.key.bytes (name_at names u.desk) id (sets_of r)) (sym ids)
        ∙ ap (all (is_key j u) (published_key m j) u.key.bytes (name_at names u.desk) (id_of u)) sets))))

    -- ---- what the table tells

    record TellsCertificate (bytes : List ℕ) (row : IssuedRow) (subject : KeyRow) (held : Resources) : Type 0 where
      certificate : SignedCert
      read : certificate_in bytes ≡ Some certificate
      of_subject : sha1 certificate.cert.key ≡ id_of subject
      resources : certificate.cert.held ≡ Some (sets_of held)
      dated : IsDated certificate.cert row

    tells-certificate : (bytes : List ℕ) (row : IssuedRow) (what : What) (subject : KeyRow) (held : Resources)
        → IsTold bytes row what → Tells (Certificate subject held) what → TellsCertificate bytes row subject held
    tells-certificate bytes row (Whats.Authority key holding) subject held is says = record {
      certificate = is.certificate;
      read = is.read;
      of_subject = sym is.subject ∙ says.0;
      resources = is.resources ∙ ap (λ (r : Resources). Some (sets_of r)) says.1;
      dated = is.dated;
    }
    tells-certificate bytes row (Whats.Route origin) subject held is says = absurd says
    tells-certificate bytes row Whats.Point subject held is says = absurd says

    certificate-end : (d : Draft) (subject : KeyRow) (held : Resources) → IsPlacedAt m d (Certificate subject held)
        → last_byte d.uri ≡ 114
    certificate-end d subject held placed = by (is_key d.issuer subject) placed
      where
        by : (b : Bool) → d.uri ≡ cond b (anchor_uri site) (cert_uri site (name_at names d.issuer.desk) (id_of subject))
            → last_byte d.uri ≡ 114
        by true e = ap last_byte e ∙ ends.anchor site
        by false e = ap last_byte e ∙ ends.certificates site (name_at names d.issuer.desk) (id_of subject)

    module _ (served : IsServed n) where
      -- Where a certificate stays, one was drafted before.
      certificate-before : (d : Draft) (uri : List ℕ) → Contains (all_objects n.plan_input n.keys) d → d.uri ≡ uri
          → last_byte uri ≡ 114
          → (subject : KeyRow) × (held : Resources) × (d.kind ≡ Certificate subject held)
      certificate-before d uri c here end =
          let of = of-keys n d c in
          by d.kind refl of.placed
        where
          at : last_byte d.uri ≡ 114
          at = ap last_byte here ∙ end

          by : (kind : Kind) → d.kind ≡ kind → IsPlacedAt n d kind
              → (subject : KeyRow) × (held : Resources) × (d.kind ≡ Certificate subject held)
          by (Certificate subject held) is placed = (subject, held, is)
          by (Roa origin) is placed =
              absurd (ends-apart d.uri d.uri 114 97 at
              (ap last_byte placed ∙ ends.roas site (name_at old_names d.issuer.desk) origin) cert-roa refl)
          by Crl is placed =
              absurd (ends-apart d.uri d.uri 114 108 at
              (ap last_byte placed ∙ ends.crls site (name_at old_names d.issuer.desk) (id_of d.issuer)) cert-crl refl)
          by Manifest is placed =
              absurd (ends-apart d.uri d.uri 114 116 at
              (ap last_byte placed ∙ ends.manifests site (name_at old_names d.issuer.desk) (id_of d.issuer))
              cert-manifest refl)

      old-certificate : (d : Draft) (subject : KeyRow) (held : Resources) (bytes : List ℕ)
          → Contains (all_objects m.plan_input m.keys) d → d.kind ≡ Certificate subject held
          → IsStood m d bytes → ServesCertificate m d subject held bytes
      old-certificate d subject held bytes c is old =
          let row = old.fit.row in
          let at = step.made.table.each row old.fit.among in
          let same : at.0 ≡ bytes = same_Some at.0 bytes (sym at.1 ∙ (ap m.old old.fit.at ∙ old.stood)) in
          let says : Tells (Certificate subject held) row.what = subst (λ (k : Kind). Tells k row.what) is old.fit.says in
          let tells = tells-certificate at.0 row row.what subject held at.2.told says in
          let of = of-keys m d c in
          let placed : IsPlacedAt m d (Certificate subject held) = subst (IsPlacedAt m d) is of.placed in
          let has : Contains m.keys subject = subst (IsSubject m.keys) is of.subject in
          let o = draft-old d.uri bytes old.stood in
          let e = certificate-before o.0 d.uri o.1 o.2 (certificate-end d subject held placed) in
          let sv = served.certificates o.0 o.1 e.0 e.1 e.2 in
          let off = of-keys n o.0 o.1 in
          let had : Contains n.keys e.0 = subst (IsSubject n.keys) e.2 off.subject in
          let one_bytes : sv.0 ≡ bytes = same_Some sv.0 bytes (sym sv.1 ∙ (ap m.old o.2 ∙ old.stood)) in
          let cert : tells.certificate ≡ sv.2.certificate = same_Some tells.certificate sv.2.certificate
          (sym tells.read ∙ (ap certificate_in (same ∙ sym one_bytes) ∙ sv.2.read)) in
          let value = made-says sv.2.made o.0.issuer e.0 e.1 sv.2.serial in
          let tell : CertValue = tells.certificate.cert in
          let is_value : tell ≡ certificate_made n sv.2.made o.0.issuer e.0 e.1 sv.2.serial =
          ap (λ (x : SignedCert). x.cert) cert ∙ sv.2.says in
          let issuer_ids : id_of o.0.issuer ≡ id_of d.issuer =
          sym (ap (λ (v : CertValue). v.issuer) is_value ∙ value.by_issuer)
          ∙ (sym tells.dated.issuer ∙ old.fit.issuer) in
          let subject_ids : id_of e.0 ≡ id_of subject =
          sym (ap (λ (v : CertValue). sha1 v.key) is_value ∙ value.of_subject) ∙ tells.of_subject in
          let sets : sets_of e.1 ≡ sets_of held = same_Some (sets_of e.1) (sets_of held)
          (sym (ap (λ (v : CertValue). v.held) is_value ∙ value.has) ∙ tells.resources) in
          let issuers = same-key o.0.issuer d.issuer off.live of.live issuer_ids in
          let subjects = same-key e.0 subject had has subject_ids in
          let place = place-same o.0.issuer d.issuer off.live of.live issuers old.fit.home in
          let published = published-same o.0.issuer d.issuer off.live of.live issuers place in
          let test : is_key o.0.issuer e.0 ≡ is_key d.issuer subject =
          ap (λ (id : List ℕ). bytes_eq id (id_of e.0)) issuer_ids ∙ ap (bytes_eq (id_of d.issuer)) subject_ids in
          let end : tell.not_after ≡ sv.2.made + certificate_life =
          ap (λ (v : CertValue). v.not_after) is_value ∙ value.ends_at in
          record {
            certificate = sv.2.certificate;
            read = ap certificate_in (sym one_bytes) ∙ sv.2.read;
            made = sv.2.made;
            serial = sv.2.serial;
            time = in-date sv.2.made certificate_life tell.not_after sv.2.time end
                (late-of tell row tells.dated old.fit.late);
            says = sv.2.says ∙ value-same sv.2.made sv.2.serial o.0.issuer d.issuer e.0 subject e.1 held published
                (sym subject_ids) (ap (λ (k : PublicKey). k.bytes) subjects.key) (name-same e.0 subject had subjects) test sets;
            vouched = ap (λ (k : PublicKey). premises.vouched k.bytes sv.2.certificate.digest sv.2.certificate.signature)
                issuers.key ∙ sv.2.vouched;
          }
        where
          late-of : (v : CertValue) (row : IssuedRow) → IsDated v row → moment_of m < row.not_after → moment_of m < v.not_after
          late-of v row dated late = let e = dated.not_after in omega (arith, e, late)

      -- ---- ROAs that stay

      record TellsRoa (bytes : List ℕ) (row : IssuedRow) : Type 0 where
        roa : SignedRoa
        read : roa_in bytes ≡ Some roa
        dated : IsDated roa.certificate.cert row

      tells-roa : (bytes : List ℕ) (row : IssuedRow) (what : What) (origin : Origin)
          → IsTold bytes row what → Tells (Roa origin) what → TellsRoa bytes row
      tells-roa bytes row (Whats.Authority key holding) origin is says = absurd says
      tells-roa bytes row (Whats.Route other) origin is says =
          record { roa = is.roa; read = is.read; dated = is.dated }
      tells-roa bytes row Whats.Point origin is says = absurd says

      -- Where it stays, that of the same origin was drafted before.
      roa-before : (d : Draft) (uri : List ℕ) (l : KeyRow) (origin : Origin) → IsName (name_at names l.desk)
          → Contains (all_objects n.plan_input n.keys) d → d.uri ≡ uri
          → uri ≡ roa_uri site (name_at names l.desk) origin → d.kind ≡ Roa origin
      roa-before d uri l origin good c here place =
          let of = of-keys n d c in
          by d.kind refl of.live of.placed
        where
          end : last_byte d.uri ≡ 97
          end = ap last_byte (here ∙ place) ∙ ends.roas site (name_at names l.desk) origin

          by : (kind : Kind) → d.kind ≡ kind → Contains n.keys d.issuer → IsPlacedAt n d kind → d.kind ≡ Roa origin
          by (Certificate subject held) is live placed = by-top (is_key d.issuer subject) placed
            where
              by-top : (b : Bool) → d.uri ≡ cond b (anchor_uri site)
                  (cert_uri site (name_at old_names d.issuer.desk) (id_of subject)) → d.kind ≡ Roa origin
              by-top true e = absurd (ends-apart d.uri d.uri 114 97 (ap last_byte e ∙ ends.anchor site) end cert-roa refl)
              by-top false e = absurd (ends-apart d.uri d.uri 114 97
                  (ap last_byte e ∙ ends.certificates site (name_at old_names d.issuer.desk) (id_of subject)) end cert-roa refl)
          by (Roa other) is live placed =
              let same = told.roas site (name_at old_names d.issuer.desk) (name_at names l.desk) other origin
              (name-old d.issuer live) good (sym placed ∙ (here ∙ place)) in
              is ∙ ap (λ (o : Origin). Roa o) same.1
          by Crl is live placed = absurd (ends-apart d.uri d.uri 97 108 end
              (ap last_byte placed ∙ ends.crls site (name_at old_names d.issuer.desk) (id_of d.issuer)) roa-crl refl)
          by Manifest is live placed = absurd (ends-apart d.uri d.uri 97 116 end
              (ap last_byte placed ∙ ends.manifests site (name_at old_names d.issuer.desk) (id_of d.issuer)) roa-manifest refl)

      name-new : (l : KeyRow) → Contains m.keys l → IsName (name_at names l.desk)
      name-new l c =
          let is = in-tree m.plan_input.basis m.keys tree step.made.certified apart step.made.next l
          (contains-in l m.keys c) in
          plain-name names plain l.desk is.name is.is.named

      old-roa : (d : Draft) (origin : Origin) (bytes : List ℕ) → Contains (all_objects m.plan_input m.keys) d
          → d.kind ≡ Roa origin → IsStood m d bytes → ServesRoa m d origin bytes
      old-roa d origin bytes c is old =
          let row = old.fit.row in
          let at = step.made.table.each row old.fit.among in
          let same : at.0 ≡ bytes = same_Some at.0 bytes (sym at.1 ∙ (ap m.old old.fit.at ∙ old.stood)) in
          let says : Tells (Roa origin) row.what = subst (λ (k : Kind). Tells k row.what) is old.fit.says in
          let tells = tells-roa at.0 row row.what origin at.2.told says in
          let of = of-keys m d c in
          let placed : IsPlacedAt m d (Roa origin) = subst (IsPlacedAt m d) is of.placed in
          let o = draft-old d.uri bytes old.stood in
          let kind = roa-before o.0 d.uri d.issuer origin (name-new d.issuer of.live) o.1 o.2 placed in
          let sv = served.roas o.0 o.1 origin kind in
          let off = of-keys n o.0 o.1 in
          let one_bytes : sv.0 ≡ bytes = same_Some sv.0 bytes (sym sv.1 ∙ (ap m.old o.2 ∙ old.stood)) in
          let one : tells.roa ≡ sv.2.roa = same_Some tells.roa sv.2.roa
          (sym tells.read ∙ (ap roa_in (same ∙ sym one_bytes) ∙ sv.2.read)) in
          let value : CertValue = values.roa_certificate site sv.2.made (published_key n o.0.issuer)
          sv.2.roa.certificate.cert.key origin.prefix o.0.uri sv.2.serial in
          let tell : CertValue = tells.roa.certificate.cert in
          let is_value : tell ≡ value = ap (λ (x : SignedRoa). x.certificate.cert) one ∙ sv.2.says in
          let issuer_ids : id_of o.0.issuer ≡ id_of d.issuer =
          sym (ap (λ (v : CertValue). v.issuer) is_value) ∙ (sym tells.dated.issuer ∙ old.fit.issuer) in
          let issuers = same-key o.0.issuer d.issuer off.live of.live issuer_ids in
          let place = place-same o.0.issuer d.issuer off.live of.live issuers old.fit.home in
          let published = published-same o.0.issuer d.issuer off.live of.live issuers place in
          let of_value : Publishing → List ℕ → CertValue = λ p uri. values.roa_certificate site sv.2.made p
          sv.2.roa.certificate.cert.key origin.prefix uri sv.2.serial in
          let late_row = old.fit.late in
          let end_row = tells.dated.not_after in
          record {
            roa = sv.2.roa;
            read = ap roa_in (sym one_bytes) ∙ sv.2.read;
            body = sv.2.body;
            made = sv.2.made;
            serial = sv.2.serial;
            time = in-date sv.2.made certificate_life tell.not_after sv.2.time (ap (λ (v : CertValue). v.not_after) is_value)
                (omega (arith, late_row, end_row));
            says = sv.2.says ∙ (ap (λ (p : Publishing). of_value p o.0.uri) (sym published)
                ∙ ap (of_value (published_key m d.issuer)) o.2);
            issued = ap (λ (k : PublicKey). premises.vouched k.bytes sv.2.roa.certificate.digest sv.2.roa.certificate.signature)
                issuers.key ∙ sv.2.issued;
            signer = sv.2.signer;
            signed = sv.2.signed;
          }

      -- ---- points that stay

      abbrev old_front : List Draft
      old_front = drafts (whole n.plan_input n.keys) (wanted.there n.keys)

      abbrev now_front : List Draft
      now_front = drafts (whole m.plan_input m.keys) (wanted.there m.keys)

      old-among : (d : Draft) → Contains old_front d → Contains (all_objects n.plan_input n.keys) d
      old-among d c = Contains-append_left old_front (manifests (whole n.plan_input n.keys) (wanted.there n.keys)) d c

      now-among : (d : Draft) → Contains now_front d → Contains (all_objects m.plan_input m.keys) d
      now-among d c = Contains-append_left now_front (manifests (whole m.plan_input m.keys) (wanted.there m.keys)) d c

      any-of : (d : Draft) → Contains (all_objects n.plan_input n.keys) d
          → Any (λ x. x.uri ≡ d.uri) (all_objects n.plan_input n.keys)
      any-of d c = (c.0, d, c.1, c.2, refl)

      -- Whose an object is, by its row.
      row-issuer : (d : Draft) → Contains old_front d → (row : IssuedRow) → Contains m.plan_input.issued row → row.uri ≡ d.uri
          → row.issuer.bytes ≡ id_of d.issuer
      row-issuer d c row inside at =
          let of = of-keys n d (old-among d c) in
          by d.kind refl of.live of.placed
        where
          certificate-row : (x : SignedCert) (bytes : List ℕ) → n.new d.uri ≡ Some bytes → HasCertificate bytes x
              → x.cert.issuer ≡ id_of d.issuer → row.issuer.bytes ≡ id_of d.issuer
          certificate-row x bytes stands has issuer =
              let t = step.made.table.each row inside in
              let same : bytes ≡ t.0 = same_Some bytes t.0 (sym stands ∙ (ap n.new (sym at) ∙ t.1)) in
              (dated t.0 row row.what x t.2.told (subst (λ (b : List ℕ). HasCertificate b x) same has)).issuer ∙ issuer

          by : (kind : Kind) → d.kind ≡ kind → Contains n.keys d.issuer → IsPlacedAt n d kind → row.issuer.bytes ≡ id_of d.issuer
          by (Certificate subject held) is live placed =
              let sv = served.certificates d (old-among d c) subject held is in
              certificate-row sv.2.certificate sv.0 sv.1 (inl sv.2.read)
              (ap (λ (v : CertValue). v.issuer) sv.2.says
              ∙ (made-says sv.2.made d.issuer subject held sv.2.serial).by_issuer)
          by (Roa origin) is live placed =
              let sv = served.roas d (old-among d c) origin is in
              let read = roa-read sv.0 sv.2.roa sv.2.read in
              certificate-row sv.2.roa.certificate sv.0 sv.1 (inr (ap certificate_inside read.object ∙ read.certificate))
              (ap (λ (v : CertValue). v.issuer) sv.2.says)
          by Crl is live placed =
              let sv = served.points d.issuer live in
              let t = step.made.table.each row inside in
              let same : sv.crl_bytes ≡ t.0 =
              same_Some sv.crl_bytes t.0 (sym sv.crl_there ∙ (ap n.new (sym placed ∙ sym at) ∙ t.1)) in
              crl-row t.0 row row.what sv.crl t.2.told (subst (λ (b : List ℕ). crl_in b ≡ Some sv.crl) same sv.crl_read)
              ∙ ap (λ (v : CrlValue). v.issuer) sv.crl_says
          by Manifest is live placed =
              absurd (front-end ends n d c
              (ap last_byte placed ∙ ends.manifests site (name_at old_names d.issuer.desk) (id_of d.issuer)))

      known : AreKnown m.plan_input m.keys
      known = known-next m.plan_input m.keys step.made.next (record { tree = tree; certified = step.made.certified })
          step.made.owes apart

      -- The files of a key whose point stays are those that its manifest lists.
      module _ (k l : KeyRow) (had : Contains n.keys k) (has : Contains m.keys l) (same : IsSameKey k l)
          (keeps : keeps_point m.plan_input m.keys l ≡ true) where
        abbrev folder : List ℕ
        folder = folder_at (whole m.plan_input m.keys) l

        abbrev was_under : Draft → Bool
        was_under = is_made_under (whole n.plan_input n.keys) k

        abbrev now_under : Draft → Bool
        now_under = is_made_under (whole m.plan_input m.keys) l

        abbrev was_file : Draft → Option File
        was_file = file_of n.new (folder_at (whole n.plan_input n.keys) k)

        abbrev now_file : Draft → Option File
        now_file = file_of m.new folder

        abbrev was_files : List File
        was_files = filter_map was_file (filter was_under old_front)

        abbrev now_files : List File
        now_files = filter_map now_file (filter now_under now_front)

        folders : folder ≡ folder_at (whole n.plan_input n.keys) k
        folders = ap (folder_of site) (name-same k l had same)

        ids : id_of k ≡ id_of l
        ids = sym (id-same k l same)

        -- The same object in both.
        file-same : (d e : Draft) → d.uri ≡ e.uri → m.new d.uri ≡ n.new d.uri → now_file d ≡ was_file e
        file-same d e uris held =
            ap (option_map (λ (bytes : List ℕ). (name_in folder d.uri, sha256 bytes))) (held ∙ ap n.new uris)
            ∙ (ap (λ (f : List ℕ). option_map (λ (bytes : List ℕ). (name_in f d.uri, sha256 bytes)) (n.new e.uri)) folders
            ∙ ap (λ (u : List ℕ). option_map (λ (bytes : List ℕ). (name_in (folder_at (whole n.plan_input n.keys) k) u, sha256 bytes))
            (n.new e.uri)) uris)

        under-parts : (a b : Draft) (one other : KeyRow) → is_key a.issuer one ≡ true → id_of one ≡ id_of other
            → id_of b.issuer ≡ id_of a.issuer → is_key b.issuer other ≡ true
        under-parts a b one other is both issuers =
            (bytes_eq-Decides (id_of b.issuer) (id_of other)).1
            (issuers ∙ ((bytes_eq-Decides (id_of a.issuer) (id_of one)).0 is ∙ both))

        to-old : (f : File) → Contains now_files f → Contains was_files f
        to-old f c =
            let from = from-filter_map now_file (filter now_under now_front) f c in
            let p = from-filter now_under now_front from.0 from.1 in
            let d : Draft = from.0 in
            let u = and_parts (is_key d.issuer l) (not (bytes_eq d.uri (anchor_uri site))) p.1 in
            let issuer = (bytes_eq-Decides (id_of d.issuer) (id_of l)).0 u.0 in
            let fit = files-fit m over step.made.set step.made.table.rising l has keeps d (now-among d p.0) issuer in
            let stays : m.new d.uri ≡ n.new d.uri =
            files-stay m over step.made.set step.made.table.rising l has keeps d (now-among d p.0) issuer in
            let held = step.made.table.each fit.row fit.among in
            let o = draft-old d.uri held.0 (ap n.new (sym fit.at) ∙ held.1) in
            let e : Draft = o.0 in
            let front : Contains old_front e =
            front-from ends n e o.1 (λ end. front-end ends m d p.0 (ap last_byte (sym o.2) ∙ end)) in
            let whose : id_of e.issuer ≡ id_of d.issuer =
            sym (row-issuer e front fit.row fit.among (fit.at ∙ sym o.2)) ∙ fit.issuer in
            let passes : was_under e ≡ true =
            and_from (is_key e.issuer k) (not (bytes_eq e.uri (anchor_uri site)))
            (under-parts d e l k u.0 (sym ids) whose)
            (ap (λ (x : List ℕ). not (bytes_eq x (anchor_uri site))) o.2 ∙ u.1) in
            into-filter_map was_file (filter was_under old_front) e f
            (into-filter was_under old_front e passes front) (sym (file-same d e (sym o.2) stays) ∙ from.2)

        to-now : (f : File) → Contains was_files f → Contains now_files f
        to-now f c =
            let from = from-filter_map was_file (filter was_under old_front) f c in
            let p = from-filter was_under old_front from.0 from.1 in
            let e : Draft = from.0 in
            let u = and_parts (is_key e.issuer k) (not (bytes_eq e.uri (anchor_uri site))) p.1 in
            let row = step.made.table.all e.uri ((served.places e.uri).1 (any-of e (old-among e p.0))) in
            let whose : row.0.issuer.bytes ≡ id_of l =
            row-issuer e p.0 row.0 row.1 row.2 ∙ ((bytes_eq-Decides (id_of e.issuer) (id_of k)).0 u.0 ∙ ids) in
            let s = (keeps-files m.plan_input m.keys over step.made.table.rising l has keeps).stood row.0 row.1 whose in
            let d : Draft = s.0 in
            let uris : d.uri ≡ e.uri = s.2 ∙ row.2 in
            let front : Contains now_front d =
            front-from ends m d s.1 (λ end. front-end ends n e p.0 (ap last_byte (sym uris) ∙ end)) in
            let stays : m.new d.uri ≡ n.new d.uri =
            files-stay m over step.made.set step.made.table.rising l has keeps d s.1 s.3 in
            let passes : now_under d ≡ true =
            and_from (is_key d.issuer l) (not (bytes_eq d.uri (anchor_uri site)))
            ((bytes_eq-Decides (id_of d.issuer) (id_of l)).1 s.3)
            (ap (λ (x : List ℕ). not (bytes_eq x (anchor_uri site))) uris ∙ u.1) in
            into-filter_map now_file (filter now_under now_front) d f
            (into-filter now_under now_front d passes front) (file-same d e uris stays ∙ from.2)

        now-named : AllPairs (λ a b. a ≢ b) (map name_of now_files)
        now-named =
            let all : pairs.Twos (λ (a b : Draft). a.uri ≢ b.uri) (all_objects m.plan_input m.keys) =
            pairs.twos-from (λ (a b : Draft). a.uri ≢ b.uri) (all_objects m.plan_input m.keys) step.made.set.apart in
            pairs.twos-pairs (λ a b. a ≢ b) (map name_of now_files)
            (pairs.twos-map name_of (λ a b. a ≢ b) now_files
            (files-apart m.plan_input m.keys known m.new l (contains-in l m.keys has) now_front
            (λ d at. in-front d now_front (manifests (whole m.plan_input m.keys) (wanted.there m.keys)) at)
            (twos-parted (λ (a b : Draft). a.uri ≢ b.uri) now_front
            (manifests (whole m.plan_input m.keys) (wanted.there m.keys)) all).first))

        files-same : (files : List File) → AreFiles n k files → AreFiles m l files
        files-same files listed =
            let was_named : AllPairs (λ a b. a ≢ b) (map name_of was_files) =
            apart-permuted name_of files was_files (IsPermutation-sym was_files files listed.all)
            (rising-apart (map name_of files) listed.rising) in
            record {
              all = IsPermutation-trans now_files was_files files
                  (same-members name_of now_files was_files
                  (twos-from (λ a b. a ≢ b) (map name_of now_files) now-named)
                  (twos-from (λ a b. a ≢ b) (map name_of was_files) was_named) to-old to-now)
                  listed.all;
              rising = listed.rising;
            }

      -- Where its CRL stays, the key was live before.
      record WasLive (l : KeyRow) : Type 0 where
        one : KeyRow
        live : Contains n.keys one
        named : id_of one ≡ id_of l

      was-live : (l : KeyRow) → Contains m.keys l → (d : Draft) → Contains (all_objects n.plan_input n.keys) d
          → d.uri ≡ (crl_for m l).uri → WasLive l
      was-live l c d among here =
          let of = of-keys n d among in
          by d.kind of.live of.placed
        where
          end : last_byte d.uri ≡ 108
          end = ap last_byte here ∙ ends.crls site (name_at names l.desk) (id_of l)

          by : (kind : Kind) → Contains n.keys d.issuer → IsPlacedAt n d kind → WasLive l
          by (Certificate subject held) live placed = by-top (is_key d.issuer subject) placed
            where
              by-top : (b : Bool) → d.uri ≡ cond b (anchor_uri site)
                  (cert_uri site (name_at old_names d.issuer.desk) (id_of subject)) → WasLive l
              by-top true e = absurd (ends-apart d.uri d.uri 114 108 (ap last_byte e ∙ ends.anchor site) end cert-crl refl)
              by-top false e = absurd (ends-apart d.uri d.uri 114 108
                  (ap last_byte e ∙ ends.certificates site (name_at old_names d.issuer.desk) (id_of subject)) end cert-crl refl)
          by (Roa other) live placed = absurd (ends-apart d.uri d.uri 97 108
              (ap last_byte placed ∙ ends.roas site (name_at old_names d.issuer.desk) other) end roa-crl refl)
          by Crl live placed = record {
            one = d.issuer;
            live = live;
            named = (told.crls site (name_at old_names d.issuer.desk) (name_at names l.desk) (id_of d.issuer) (id_of l)
                (name-old d.issuer live) (name-new l c) (sha1-bytes d.issuer.key.bytes) (sha1-bytes l.key.bytes)
                (sym placed ∙ here)).1;
          }
          by Manifest live placed = absurd (ends-apart d.uri d.uri 108 116 end
              (ap last_byte placed ∙ ends.manifests site (name_at old_names d.issuer.desk) (id_of d.issuer)) crl-manifest refl)

      -- The end of a CRL, as the table tells it.
      crl-end : (bytes : List ℕ) (row : IssuedRow) (what : What) (l : SignedCrl) → IsTold bytes row what
          → Tells Crl what → crl_in bytes ≡ Some l → row.not_after ≡ l.crl.next_update
      crl-end bytes row (Whats.Authority key held) l is says read = absurd cc
      crl-end bytes row (Whats.Route origin) l is says read = absurd cc
      crl-end bytes row Whats.Point l (inl is) says read =
          is.not_after ∙ ap (λ (x : SignedCrl). x.crl.next_update) (same_Some is.crl l (sym is.read ∙ read))
      crl-end bytes row Whats.Point l (inr is) says read =
          absurd (crl-no-object bytes l is.manifest.object read (manifest-read bytes is.manifest is.read).object)

      old-point : (l : KeyRow) (crl_bytes bytes : List ℕ) → Contains m.keys l
          → m.new (crl_for m l).uri ≡ Some crl_bytes → m.new (manifest_for m l).uri ≡ Some bytes
          → IsStood m (crl_for m l) crl_bytes → IsStood m (manifest_for m l) bytes → ServesPoint m l
      old-point l crl_bytes bytes c stands there old also =
          let o = draft-old (crl_for m l).uri crl_bytes old.stood in
          let w = was-live l c o.0 o.1 o.2 in
          let k : KeyRow = w.one in
          let same = same-key k l w.live c w.named in
          let place = place-same k l w.live c same old.fit.home in
          let published = published-same k l w.live c same place in
          let named = name-same k l w.live same in
          let sv = served.points k w.live in
          let crl_uris : (crl_for m l).uri ≡ (crl_for n k).uri =
          ap (λ (name : List ℕ). crl_uri site name (id_of l)) named
          ∙ ap (crl_uri site (name_at old_names k.desk)) (sym w.named) in
          let manifest_uris : (manifest_for m l).uri ≡ (manifest_for n k).uri =
          ap (λ (name : List ℕ). manifest_uri site name (id_of l)) named
          ∙ ap (manifest_uri site (name_at old_names k.desk)) (sym w.named) in
          let crl_same : sv.crl_bytes ≡ crl_bytes = same_Some sv.crl_bytes crl_bytes
          (sym sv.crl_there ∙ (ap m.old (sym crl_uris) ∙ old.stood)) in
          let same_bytes : sv.bytes ≡ bytes = same_Some sv.bytes bytes
          (sym sv.there ∙ (ap m.old (sym manifest_uris) ∙ also.stood)) in
          let row = old.fit.row in
          let at = step.made.table.each row old.fit.among in
          let row_bytes : at.0 ≡ crl_bytes = same_Some at.0 crl_bytes (sym at.1 ∙ (ap m.old old.fit.at ∙ old.stood)) in
          let read : crl_in at.0 ≡ Some sv.crl = ap crl_in (row_bytes ∙ sym crl_same) ∙ sv.crl_read in
          let end : row.not_after ≡ sv.made + point_life =
          crl-end at.0 row row.what sv.crl at.2.told old.fit.says read
          ∙ ap (λ (v : CrlValue). v.next_update) sv.crl_says in
          let key : PublicKey → List ℕ → List ℕ → Bool = λ p digest signature. premises.vouched p.bytes digest signature in
          record {
            made = sv.made;
            number = sv.number;
            time = in-date sv.made point_life row.not_after sv.time end old.fit.late;
            revoked = sv.revoked;
            crl_bytes = crl_bytes;
            crl_there = stands;
            crl = sv.crl;
            crl_read = ap crl_in (sym crl_same) ∙ sv.crl_read;
            crl_says = sv.crl_says ∙ ap (λ (id : List ℕ). crl_value_of sv.made id sv.number sv.revoked) w.named;
            crl_vouched = ap (λ (p : PublicKey). key p sv.crl.digest sv.crl.signature) same.key ∙ sv.crl_vouched;
            bytes = bytes;
            there = there;
            manifest = sv.manifest;
            read = ap manifest_in (sym same_bytes) ∙ sv.read;
            files = sv.files;
            listed = files-same k l w.live c same (old.point refl) sv.files sv.listed;
            body = sv.body;
            serial = sv.serial;
            says = sv.says ∙ ap (λ (p : Publishing). values.manifest_certificate site sv.made p
                sv.manifest.certificate.cert.key sv.serial) (sym published);
            issued = ap (λ (p : PublicKey). key p sv.manifest.certificate.digest sv.manifest.certificate.signature) same.key
                ∙ sv.issued;
            signer = sv.signer;
            signed = sv.signed;
          }

      pub serves-on : IsServed m
      serves-on = served-by m over step.made.set old-certificate old-roa old-point

-- ---- the names of editions before

cut-grows : (premises : Premises) (before : List Edition) (was edition : Edition) (clock : ℕ)
    → IsStep premises clock (before ++ was ∷ []) edition → cut_at was.cut 0 ≤ cut_at edition.cut 0
cut-grows premises before was edition clock step =
    let is : cut_at (state_after (before ++ was ∷ [])).cut 0 ≡ cut_at was.cut 0 =
    ap (λ (s : State). cut_at s.cut 0) (after-last before was) in
    let more = step.cut.grown 0 in
    omega (arith, is, more)

begin : (lists : List (List Command)) (cut : List ℕ) → (lists ≡ [] → ⊥)
    → stays.IsGrown first_names (names_of (configs_at lists cut))
begin [] cut some = absurd (some refl)
begin (list ∷ lists) [] some = ([], refl)
begin (list ∷ lists) (k ∷ cut) some = stays.names-after (empty_settings 0) (take k list)

-- They are those of a tree too, as long as the lists go on.
pub trees-before : (lists : List (List Command)) (cut more : List ℕ) → cut_at cut 0 ≤ cut_at more 0
    → AreTree (names_of (configs_at lists more)) → AreTree (names_of (configs_at lists cut))
trees-before lists cut more le tree =
    let grown = stays.names-grow lists cut more le in
    let first = begin lists cut (no-lists lists tree) in
    record {
      anchor = ap (λ (l : List NameRow). slice_get l 0) first.1;
      apart = pairs-front (λ (a b : NameRow). a.name ≢ b.name) (names_of (configs_at lists cut)) grown.0
          (subst (AllPairs (λ (a b : NameRow). a.name ≢ b.name)) grown.1 tree.apart);
    }
  where
    no-lists : (lists : List (List Command)) → AreTree (names_of (configs_at lists more)) → lists ≡ [] → ⊥
    no-lists [] tree e = absurd (none-some _ tree.anchor)
    no-lists (list ∷ lists) tree e = absurd cc

plain-before : (lists : List (List Command)) (cut more : List ℕ) → cut_at cut 0 ≤ cut_at more 0
    → All (λ row. IsName row.name) (names_of (configs_at lists more))
    → All (λ row. IsName row.name) (names_of (configs_at lists cut))
plain-before lists cut more le plain =
    let grown = stays.names-grow lists cut more le in
    all-front (λ (row : NameRow). IsName row.name) (names_of (configs_at lists cut)) grown.0
    (subst (All (λ (row : NameRow). IsName row.name)) grown.1 plain)

-- ---- each edition

abbrev pub AreAllServed : Premises → List Edition → Type 0
AreAllServed premises editions = (clock : ℕ) (edition : Edition) (step : IsStep premises clock editions edition)
    → AreSteps premises (editions ++ edition ∷ [])
    → AreTree (names_of (configs_at premises.lists edition.cut))
    → All (λ row. IsName row.name) (names_of (configs_at premises.lists edition.cut))
    → IsServed (issuance_of premises clock editions edition step)

others-steps : (premises : Premises) (editions : List Edition) (edition : Edition)
    → AreSteps premises (editions ++ edition ∷ []) → AreSteps premises editions
others-steps premises editions edition steps =
    subst (AreSteps premises) (take_at editions (edition ∷ []) (length editions) refl)
    (front-steps premises (editions ++ edition ∷ []) (length editions) steps)

served-on : (told : AreTold) (ends : HaveEnds) (premises : Premises) (count : ℕ) (editions : List Edition)
    → length editions ≡ count → AreAllServed premises editions
served-on told ends premises zero [] long = λ clock edition step steps tree plain.
    first-served (issuance_of premises clock [] edition step)
    (record { next = step.made.next; apart = rows-apart premises [] edition steps }) step.made.set (λ uri. refl)
served-on told ends premises zero (x ∷ xs) long = absurd (omega (arith, long))
served-on told ends premises (suc count) editions long = elim (last-of editions) [
  | inl none ↦ absurd (empty none)
  | inr last ↦
      let before : List Edition = take last.position editions in
      let whole : before ++ last.edition ∷ [] ≡ editions =
      sym (take-next editions last.position last.edition last.there) ∙ last.whole in
      let next = last.next in
      let shorter : length before ≡ count =
      length-take-le last.position editions (omega (arith, next)) ∙ position-is last.position next in
      subst (AreAllServed premises) whole (λ clock edition step steps tree plain.
      let until = others-steps premises (before ++ last.edition ∷ []) edition steps in
      let first = last-step premises before last.edition until in
      let le = cut-grows premises before last.edition edition clock step in
      let trees = trees-before premises.lists last.edition.cut edition.cut le tree in
      let plains = plain-before premises.lists last.edition.cut edition.cut le plain in
      serves-on told ends premises before last.edition edition first.0 clock first.1 step until steps tree plain trees
      plains (served-on told ends premises count before shorter first.0 last.edition first.1 until trees plains))
]
  where
    empty : editions ≡ [] → ⊥
    empty none =
        let short = ap (λ (l : List Edition). length l) none in
        absurd (omega (arith, short, long))

    position-is : (n : ℕ) → length editions ≡ n + 1 → n ≡ count
    position-is n next = omega (arith, next, long)

-- What stands after editions that each follow those before them serves for what the last one wants.
pub all-served : (told : AreTold) (ends : HaveEnds) (premises : Premises) (editions : List Edition)
    → AreAllServed premises editions
all-served told ends premises editions = served-on told ends premises (length editions) editions refl
