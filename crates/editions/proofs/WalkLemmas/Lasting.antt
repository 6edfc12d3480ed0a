-- What an edition makes keeps the rules that last, at any later look.
use Rattle.std.proofs.Common.{◌≡◌, ◌≢◌, ℕ, ◌+◌, ◌&&◌, Bool, true, false, not, cond, Option, Some, None, List, [], take, All, AllPairs, Contains, refl, sym, ap, subst, ◌∙◌, append_assoc}
use Rattle.std.specs.Prelude.{codes, is_some, is_none}
use Rattle.std.specs.Str.{bytes_eq}
use Rattle.std.proofs.lemmas.Bool.{and_from}
use Rattle.std.proofs.lemmas.Slice.Eq.{bytes_eq-Decides}
use Rattle.hex.specs.Hex.{encode_lower}
use Rattle.sha1.specs.Sha1.{sha1}
use Rattle.names.specs.Name.{IsName}
use Rattle.origins.specs.declared.Origin.{Origin}
use Rattle.res_sets.specs.declared.holdings.Resources.{Resources}
use Rattle.key_ids.specs.Uris.{Bases, anchor_uri, folder_of, notify_uri, cert_uri, crl_uri, manifest_uri}
use Rattle.entitle.specs.Certified.{names_of}
use Rattle.key_roll.specs.declared.rows.KeyRow.{KeyRow}
use Rattle.key_roll.specs.declared.rows.RevokedRow.{RevokedRow}
use Rattle.cert_obj.specs.declared.values.CertKind.TheVariants.{Anchor}
use Rattle.cert_obj.specs.Values.{Sets, CertValue, SignedCert, is_issued, is_authority}
use Rattle.crl_obj.specs.Values.{CrlValue, SignedCrl}
use Rattle.payloads.specs.ManifestFormats.{Manifest as Listing, this_update_of, next_update_of}
use Rattle.payloads.specs.RoaFormats.{Entry}
use Rattle.rp_rules.specs.Objects.{Signed, SignedManifest, SignedRoa, such, certificate_in, crl_in, manifest_in, roa_in, is_anchors, is_authoritys}
use Rattle.rp_rules.specs.Holdings.{no_sets, held_under, have_prefixes}
use Rattle.rp_rules.specs.Authorities.{Authority, key_id, crl_uri_of, certificate_uri_of, manifest_in_folder, is_folder}
use Rattle.rp_rules.specs.Certificates.{WalkContext, lies_in, is_valid_at, is_signed_under, names_issuer, has_issuer_uris, has_anchor_uris, has_authority_uris}
use Rattle.rp_rules.specs.Points.{is_signed, is_identified, is_list}
use Rattle.rp_rules.specs.Lasting.{IsSameIssuer, LooksAgain, IsLastingAnchor, IsLastingCertificate, IsLastingCrl, IsLastingManifest, IsLastingRoa}
use Rattle.issue_values.specs.Publishers.{Publishing}
use Rattle.issue_values.specs.Certificates as values
use Rattle.issue_values.specs.Certificates.{point_life, prefix_sets}
use Rattle.issue_values.specs.Bodies.{roa_of, crl_value_of, manifest_value_of}
use Rattle.issue_keys.specs.Keys.{id_of}
use Rattle.issue_drafts.specs.Drafts.{Draft, Kind, serial_at, serial_behind}
use Rattle.issue_drafts.specs.Drafts.Kind.{Certificate, Roa, Crl, Manifest}
use Rattle.issue_sign.specs.Objects.{number_of}
use Rattle.editions.specs.Edition.{Edition}
use Rattle.editions.specs.Names.{AreTree}
use Rattle.editions.specs.Wanted.{new_objects}
use Rattle.editions.specs.Objects.{Issuance, IsSigned, IsObject}
use Rattle.editions.specs.Step.{Premises, AreSteps, configs_at}
use Rattle.editions.specs.MadeIn.{issuance_of, IsMadeIn, LooksAt, IsAuthorityOf, published_key, LastsAs, LastsAsAnchor, LastsAsCertificate, LastsAsRoa, LastsAsCrl, LastsAsManifest}
use Rattle.items.specs.laws.AmongLaws.{contains-in}
use Rattle.editions.proofs.ObjectLemmas.Standing.{IsPlacedAt}
use Rattle.editions.proofs.ObjectLemmas.History.{take-next}
use Rattle.editions.proofs.ObjectLemmas.Left.{IsSubject, of-keys, front-steps}
use Rattle.editions.proofs.WalkLemmas.Inside.{has-prefix}
use Rattle.editions.proofs.WalkLemmas.Folders.{plain-folder, plain-name}
use Rattle.editions.proofs.WalkLemmas.KeyTree.{in-tree}
use Rattle.editions.proofs.WalkLemmas.Rows.{rows-apart}

same : (bytes : List ℕ) → bytes_eq bytes bytes ≡ true
same bytes = (bytes_eq-Decides bytes bytes).1 refl

both-same : (b : Bool) → (b && b) ≡ b
both-same true = refl
both-same false = refl

-- What rp_rules says of the rules that last.
pub record Last : Type 0 where
  pub anchors : (s other : WalkContext) (bytes : List ℕ) (c : SignedCert) → LooksAgain s other
      → IsLastingAnchor s bytes c → IsLastingAnchor other bytes c
  pub certificates : (s other : WalkContext) (one two : Authority) (uri bytes : List ℕ) (c : SignedCert)
      → LooksAgain s other → IsSameIssuer one two
      → IsLastingCertificate s one uri bytes c → IsLastingCertificate other two uri bytes c
  pub manifests : (s other : WalkContext) (one two : Authority) (bytes : List ℕ) (m : SignedManifest)
      → LooksAgain s other → IsSameIssuer one two
      → IsLastingManifest s one bytes m → IsLastingManifest other two bytes m
  pub crls : (s other : WalkContext) (one two : Authority) (uri bytes : List ℕ) (c : SignedCrl)
      → LooksAgain s other → IsSameIssuer one two
      → IsLastingCrl s one uri bytes c → IsLastingCrl other two uri bytes c
  pub roas : (s other : WalkContext) (one two : Authority) (uri bytes : List ℕ) (r : SignedRoa)
      → LooksAgain s other → IsSameIssuer one two
      → IsLastingRoa s one uri bytes r → IsLastingRoa other two uri bytes r

-- An authority of the key at its places, of which nothing else is said.
abbrev bare : Bases → Publishing → Authority
bare site p = record {
  uri = p.certificate;
  cert = record {
    serial = 0;
    issuer = [];
    not_before = 0;
    not_after = 0;
    key = p.key;
    kind = Anchor;
    held = None;
    uris = record {
      crl = [];
      issuer = [];
      folder = folder_of site p.name;
      manifest = manifest_uri site p.name (sha1 p.key);
      notify = [];
      object = [];
    };
  };
  held = no_sets;
}

module _ (m : Issuance) (s : WalkContext) (looks : LooksAt m s) (issuer : KeyRow) (a : Authority)
    (of : IsAuthorityOf m issuer a) where
  abbrev site : Bases
  site = m.plan_input.site

  abbrev made : ℕ
  made = m.plan_input.basis.moment

  abbrev p : Publishing
  p = published_key m issuer

  abbrev here : Authority
  here = bare site p

  -- The edition's own look.
  abbrev own : WalkContext
  own = record { vouched = m.vouched; anchor = s.anchor; bases = site; moment = s.moment }

  again : LooksAgain own s
  again = record { anchor = refl; bases = looks.bases; vouched = looks.vouched }

  one-issuer : IsSameIssuer here a
  one-issuer = record { key = of.key; uri = of.uri; folder = of.folder; manifest = of.manifest }

  -- ---- certificates

  module _ (bytes : List ℕ) (c : SignedCert) (read : certificate_in bytes ≡ Some c)
      (issued : m.vouched issuer.key.bytes c.digest c.signature ≡ true) (held : Resources) (serial : ℕ) where
    -- The trust anchor's.
    anchor-lasts : Last → c.cert ≡ values.anchor_certificate site made p held serial → a.cert.key ≡ s.anchor
        → a.cert.uris.folder ≡ folder_of s.bases (codes "ta") → LastsAsAnchor s held made bytes
    anchor-lasts last says key folder =
        let value : CertValue = values.anchor_certificate site made p held serial in
        let own-key : issuer.key.bytes ≡ s.anchor = sym of.key ∙ key in
        let top : folder_of site p.name ≡ folder_of site (codes "ta") =
        sym of.folder ∙ (folder ∙ ap (λ (b : Bases). folder_of b (codes "ta")) looks.bases) in
        let lasting : IsLastingAnchor own bytes c = record {
          shape = ap (such is_anchors) read ∙ ap (λ (v : CertValue). cond (not (is_issued v.kind)) (Some c) None) says;
          signature = ap (λ (k : List ℕ). m.vouched k c.digest c.signature) (sym own-key) ∙ issued;
          issuer = ap (λ (v : CertValue). bytes_eq v.issuer (key_id v)) says ∙ same (sha1 issuer.key.bytes);
          key = ap (λ (v : CertValue). bytes_eq v.key s.anchor) says
              ∙ (bytes_eq-Decides issuer.key.bytes s.anchor).1 own-key;
          resources = ap (λ (v : CertValue). is_some v.held) says;
          place =
              ap (has_anchor_uris site) says
              ∙ and_from (bytes_eq value.uris.folder (folder_of site (codes "ta"))
              && bytes_eq value.uris.manifest (manifest_in_folder (folder_of site (codes "ta")) value))
              (bytes_eq (notify_uri site) (notify_uri site))
              (and_from (bytes_eq value.uris.folder (folder_of site (codes "ta")))
              (bytes_eq value.uris.manifest (manifest_in_folder (folder_of site (codes "ta")) value))
              ((bytes_eq-Decides value.uris.folder (folder_of site (codes "ta"))).1 top)
              ((bytes_eq-Decides value.uris.manifest (manifest_in_folder (folder_of site (codes "ta")) value)).1
              (sym (append_assoc (folder_of site p.name) (encode_lower (sha1 issuer.key.bytes)) (codes ".mft"))
              ∙ ap (λ (f : List ℕ). manifest_in_folder f value) top)))
              (same (notify_uri site));
        } in
        record {
          certificate = c;
          lasting = last.anchors own s bytes c again lasting;
          resources = ap (λ (v : CertValue). v.held) says;
          time = λ moment. ap (is_valid_at moment) says;
        }

    -- Another key's.
    certificate-lasts : Last → (subject : KeyRow) (uri : List ℕ)
        → c.cert ≡ values.authority_certificate site made p (published_key m subject) held serial
        → uri ≡ cert_uri site p.name (id_of subject)
        → is_folder site (folder_of site (published_key m subject).name) ≡ true
        → LastsAsCertificate s a uri held made bytes
    certificate-lasts last subject uri says placed is-folder =
        let q : Publishing = published_key m subject in
        let value : CertValue = values.authority_certificate site made p q held serial in
        let f : List ℕ = folder_of site q.name in
        let place : List ℕ = cert_uri site p.name (id_of subject) in
        let manifest : bytes_eq value.uris.manifest (manifest_in_folder f value) ≡ true =
        ap (λ (u : List ℕ). bytes_eq value.uris.manifest u)
        (append_assoc f (encode_lower (id_of subject)) (codes ".mft"))
        ∙ same value.uris.manifest in
        let places : has_authority_uris site here place value ≡ true =
        and_from (has_issuer_uris here value && bytes_eq place (certificate_uri_of here value)
        && is_folder site f && bytes_eq value.uris.manifest (manifest_in_folder f value))
        (bytes_eq (notify_uri site) (notify_uri site))
        (and_from (has_issuer_uris here value && bytes_eq place (certificate_uri_of here value)
        && is_folder site f) (bytes_eq value.uris.manifest (manifest_in_folder f value))
        (and_from (has_issuer_uris here value && bytes_eq place (certificate_uri_of here value)) (is_folder site f)
        (and_from (has_issuer_uris here value) (bytes_eq place (certificate_uri_of here value))
        (and_from (bytes_eq value.uris.crl (crl_uri_of here)) (bytes_eq value.uris.issuer here.uri)
        (same value.uris.crl) (same value.uris.issuer)) (same place))
        is-folder) manifest) (same (notify_uri site)) in
        let lasting : IsLastingCertificate own here uri bytes c = record {
          shape = ap (such is_authoritys) read
              ∙ ap (λ (v : CertValue). cond (is_issued v.kind && is_authority v.kind) (Some c) None) says;
          signature = issued;
          identity = ap (names_issuer here) says ∙ same (sha1 issuer.key.bytes);
          place = ap (has_authority_uris site here uri) says
              ∙ (ap (λ (u : List ℕ). has_authority_uris site here u value) placed ∙ places);
        } in
        record {
          certificate = c;
          lasting = last.certificates own s here a uri bytes c again one-issuer lasting;
          resources = ap (λ (v : CertValue). v.held) says;
          time = λ moment. ap (is_valid_at moment) says;
        }

  -- ---- signed objects

  module _ {Body : Type 0} (x : Signed Body) (value : CertValue)
      (content : Body) (signed : IsSigned m issuer value content x) where
    signature-lasts : is_signed own here x ≡ true
    signature-lasts =
        and_from (is_signed_under own here x.certificate)
        (m.vouched x.certificate.cert.key x.object.digest x.object.signature)
        signed.certificate.vouched signed.vouched

    identity-lasts : value.issuer ≡ id_of issuer → is_identified here x ≡ true
    identity-lasts named =
        and_from (names_issuer here x.certificate.cert)
        (bytes_eq x.object.signer (key_id x.certificate.cert))
        (ap (names_issuer here) signed.certificate.says
        ∙ (ap (λ (id : List ℕ). bytes_eq id (key_id here.cert)) named ∙ same (sha1 issuer.key.bytes)))
        (ap (λ (b : List ℕ). bytes_eq b (key_id x.certificate.cert)) signed.signer
        ∙ same (key_id x.certificate.cert))

  -- ---- ROAs

  roa-lasts : Last → (uri bytes : List ℕ) (origin : Origin) (r : SignedRoa) → roa_in bytes ≡ Some r → (serial : ℕ)
      → IsSigned m issuer (values.roa_certificate site made p r.certificate.cert.key origin.prefix uri serial)
      (roa_of origin) r
      → LastsAsRoa s a uri origin made bytes
  roa-lasts last uri bytes origin r read serial signed =
      let value : CertValue = values.roa_certificate site made p r.certificate.cert.key origin.prefix uri serial in
      let have : Option Sets → List Entry → Bool = λ h entries. have_prefixes (held_under no_sets h) entries in
      let lasting : IsLastingRoa own here uri bytes r = record {
        shape = read;
        signature = signature-lasts r value (roa_of origin) signed;
        identity = identity-lasts r value (roa_of origin) signed refl;
        own = ap (λ (v : CertValue). is_some v.held) signed.certificate.says;
        prefixes =
            ap (λ (v : CertValue). have v.held r.body.1) signed.certificate.says
            ∙ (ap (λ (b : ℕ × List Entry). have (Some (prefix_sets origin.prefix)) b.1) signed.body
            ∙ has-prefix origin);
        place =
            ap (λ (v : CertValue). has_issuer_uris here v && bytes_eq v.uris.object uri) signed.certificate.says
            ∙ and_from (has_issuer_uris here value) (bytes_eq uri uri)
            (and_from (bytes_eq value.uris.crl (crl_uri_of here)) (bytes_eq value.uris.issuer here.uri)
            (same value.uris.crl) (same value.uris.issuer)) (same uri);
      } in
      record {
        roa = r;
        lasting = last.roas own s here a uri bytes r again one-issuer lasting;
        body = signed.body;
        resources = ap (λ (v : CertValue). v.held) signed.certificate.says;
        time = λ moment. ap (is_valid_at moment) signed.certificate.says;
      }

  -- ---- CRLs

  crl-lasts : Last → (uri bytes : List ℕ) (c : SignedCrl) → crl_in bytes ≡ Some c → (number : ℕ) (revoked : List RevokedRow)
      → c.crl ≡ crl_value_of made (id_of issuer) number revoked
      → m.vouched issuer.key.bytes c.digest c.signature ≡ true
      → uri ≡ crl_uri site p.name (id_of issuer) → LastsAsCrl s a uri made bytes
  crl-lasts last uri bytes c read number revoked says issued placed =
      let lasting : IsLastingCrl own here uri bytes c = record {
        shape = read;
        signature = issued;
        identity = ap (λ (v : CrlValue). bytes_eq v.issuer (key_id here.cert)) says ∙ same (sha1 issuer.key.bytes);
        place = ap (λ (u : List ℕ). bytes_eq u (crl_uri_of here)) placed ∙ same (crl_uri_of here);
      } in
      record {
        crl = c;
        lasting = last.crls own s here a uri bytes c again one-issuer lasting;
        time = λ moment. ap (λ (v : CrlValue). lies_in moment v.this_update v.next_update) says;
      }

  -- ---- manifests

  -- An authority in that folder, with that manifest.
  abbrev moved : List ℕ → List ℕ → Authority
  moved folder manifest = record {
    uri = here.uri;
    cert = record here.cert { uris = record here.cert.uris { folder = folder; manifest = manifest } };
    held = no_sets;
  }

  one-list : (body : Listing) → is_list here body ≡ is_list a body
  one-list body =
      ap (λ (f : List ℕ). is_list (moved f here.cert.uris.manifest) body) (sym of.folder)
      ∙ ap (λ (u : List ℕ). is_list (moved a.cert.uris.folder u) body) (sym of.manifest)

  manifest-lasts : Last → (bytes : List ℕ) (x : SignedManifest) → manifest_in bytes ≡ Some x → (number serial : ℕ)
      (files : List (List ℕ × List ℕ))
      → IsSigned m issuer (values.manifest_certificate site made p x.certificate.cert.key serial)
      (manifest_value_of made number files) x
      → LastsAsManifest s a made bytes
  manifest-lasts last bytes x read number serial files signed =
      let value : CertValue = values.manifest_certificate site made p x.certificate.cert.key serial in
      let body : Listing = manifest_value_of made number files in
      let place : List ℕ = here.cert.uris.manifest in
      let lasting : is_list a x.body ≡ true → IsLastingManifest own here bytes x = λ list. record {
        shape = read;
        signature = signature-lasts x value body signed;
        identity = identity-lasts x value body signed refl;
        resources = ap (λ (v : CertValue). is_none v.held) signed.certificate.says;
        place =
            ap (λ (v : CertValue). has_issuer_uris here v && bytes_eq v.uris.object place) signed.certificate.says
            ∙ and_from (has_issuer_uris here value) (bytes_eq place place)
            (and_from (bytes_eq value.uris.crl (crl_uri_of here)) (bytes_eq value.uris.issuer here.uri)
            (same value.uris.crl) (same value.uris.issuer)) (same place);
        list = one-list x.body ∙ list;
      } in
      record {
        manifest = x;
        lasting = λ list. last.manifests own s here a bytes x again one-issuer (lasting list);
        time = λ moment.
            let inside : Bool = lies_in moment made (made + point_life) in
            ap (λ (v : CertValue). is_valid_at moment v && lies_in moment (this_update_of x.body) (next_update_of x.body))
            signed.certificate.says
            ∙ (ap (λ (b : Listing). inside && lies_in moment (this_update_of b) (next_update_of b)) signed.body
            ∙ both-same inside);
      }

-- ---- an edition's object

module _ (premises : Premises) (editions : List Edition) (steps : AreSteps premises editions) (last : Last)
    (uri bytes : List ℕ) (position : ℕ) (made_in : IsMadeIn premises editions uri bytes position)
    (tree : AreTree (names_of (configs_at premises.lists made_in.edition.cut)))
    (plain : All (λ row. IsName row.name) (names_of (configs_at premises.lists made_in.edition.cut))) where
  abbrev mm : Issuance
  mm = issuance_of premises made_in.clock (take position editions) made_in.edition made_in.step

  abbrev d : Draft
  d = made_in.draft

  before : AllPairs (λ a b. id_of a ≢ id_of b) mm.plan_input.basis.rows
  before = rows-apart premises (take position editions) made_in.edition
      (subst (AreSteps premises) (take-next editions position made_in.edition made_in.there)
      (front-steps premises editions (position + 1) steps))

  -- The folder of a key's authority.
  folder-of : (k : KeyRow) → Contains mm.keys k
      → is_folder mm.plan_input.site (folder_of mm.plan_input.site (published_key mm k).name) ≡ true
  folder-of k c =
      let is = in-tree mm.plan_input.basis mm.keys tree made_in.step.made.certified before made_in.step.made.next k
      (contains-in k mm.keys c) in
      plain-folder mm.plan_input.site (published_key mm k).name
      (plain-name (names_of mm.plan_input.basis.configs) plain k.desk is.name is.is.named)

  module _ (s : WalkContext) (looks : LooksAt mm s) (a : Authority) (of : IsAuthorityOf mm d.issuer a) where
    lasts-by : (kind : Kind) → IsObject mm d kind bytes → IsPlacedAt mm d kind → IsSubject mm.keys kind
        → LastsAs s a made_in.edition.moment d kind bytes
    lasts-by (Certificate subject held) object placed live =
        let serial : ℕ = serial_at (new_objects mm.plan_input mm.keys) d.issuer d.uri in
        let p : Publishing = published_key mm d.issuer in
        let one : CertValue =
        values.anchor_certificate mm.plan_input.site mm.plan_input.basis.moment p held serial in
        let two : CertValue = values.authority_certificate mm.plan_input.site mm.plan_input.basis.moment p
        (published_key mm subject) held serial in (
          λ own key folder. anchor-lasts mm s looks d.issuer a of bytes object.certificate object.read
              object.issued.vouched held serial last
              (object.issued.says ∙ ap (λ (b : Bool). cond b one two) own) key folder,
          λ other. certificate-lasts mm s looks d.issuer a of bytes object.certificate object.read
              object.issued.vouched held serial last subject d.uri
              (object.issued.says ∙ ap (λ (b : Bool). cond b one two) other)
              (placed ∙ ap (λ (b : Bool). cond b (anchor_uri mm.plan_input.site)
              (cert_uri mm.plan_input.site p.name (id_of subject))) other)
              (folder-of subject live),
        )
    lasts-by (Roa origin) object placed live =
        roa-lasts mm s looks d.issuer a of last d.uri bytes origin object.roa object.read
        (serial_at (new_objects mm.plan_input mm.keys) d.issuer d.uri) object.signed
    lasts-by Crl object placed live =
        crl-lasts mm s looks d.issuer a of last d.uri bytes object.crl object.read
        (number_of d.issuer) (mm.entries d.issuer) object.says object.vouched placed
    lasts-by Manifest object placed live =
        manifest-lasts mm s looks d.issuer a of last bytes object.manifest object.read (number_of d.issuer)
        (serial_behind (new_objects mm.plan_input mm.keys) d.issuer) object.files object.signed

    pub object-lasts : LastsAs s a made_in.edition.moment d d.kind bytes
    object-lasts =
        let of_keys = of-keys mm d made_in.wanted in
        lasts-by d.kind made_in.object of_keys.placed of_keys.subject
