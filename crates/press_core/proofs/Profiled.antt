-- Each object that steps leave is one that a press makes.
use Rattle.std.proofs.Common.{◌≡◌, ℕ, Bool, true, false, cond, List, [], ◌∷◌, ◌++◌, map, Option, None, Some, refl, sym, ap, subst, ◌∙◌, ◌⊎◌, inl, inr}
use Rattle.std.specs.Prelude.{IsSome}
use Rattle.std.specs.List.{filter_map}
use Rattle.items.specs.laws.AmongLaws.{In, in-all, in-parts, filter-map-in, map-in, contains-in}
use Rattle.sha2.specs.Sha256.{sha256}
use Rattle.res_sets.specs.declared.holdings.Resources.{Resources}
use Rattle.key_roll.specs.declared.rows.KeyRow.{KeyRow}
use Rattle.key_roll.specs.declared.issued.IssuedRow.{IssuedRow}
use Rattle.key_roll.specs.declared.issued.What.{What}
use Rattle.key_roll.specs.declared.issued.What.TheVariants.{Authority, Route, Point}
use Rattle.key_roll.specs.declared.work.CertWork.{CertWork}
use Rattle.key_roll.specs.declared.work.RoaWork.{RoaWork}
use Rattle.pub_set.specs.declared.objects.Object.{Object}
use Rattle.pub_set.specs.Objects.{content_at, IsAscending}
use Rattle.payloads.specs.ManifestFormats as manifests
use Rattle.cert_obj.specs.Values.{CertValue, SignedCert, sets_of, is_entity}
use Rattle.rp_rules.specs.Objects.{certificate_in}
use Rattle.rp_rules.specs.Authorities.{key_id}
use Rattle.key_ids.specs.Uris.{Bases}
use Rattle.issue_values.specs.Publishers.{Publishing}
use Rattle.issue_values.specs.Certificates.{anchor_certificate, authority_certificate}
use Rattle.issue_plan.specs.Keys.{kept}
use Rattle.issue_plan.specs.Wanted.{point_of}
use Rattle.issue_drafts.specs.WorkKeys.{Keys}
use Rattle.issue_drafts.specs.IssueInput.{IssueInput}
use Rattle.issue_drafts.specs.Publishers.{is_key, publishing_of}
use Rattle.issue_drafts.specs.Drafts.{Draft, Kind, certificate_draft, roa_draft, crl_draft, manifest_draft, drafts, manifests, serial_at}
use Rattle.issue_drafts.specs.Drafts.Kind.{Certificate, Roa, Crl, Manifest}
use Rattle.editions.specs.Edition.{Edition, state_after, set_after}
use Rattle.editions.specs.Table.{IsTable, IsRowOf}
use Rattle.editions.specs.Wanted.{there, whole, all_certificates, all_roas, all_objects, new_objects, keeps_certificate, keeps_roa, keeps_point}
use Rattle.editions.specs.Objects.{Issuance, IsCertificate, IsObject, IsLeft, IsDone, IsNewSet}
use Rattle.editions.specs.Step.{Premises, IsStep, AreSteps, plan_input_at}
use Rattle.press_core.specs.Tables.{Home, is_at_home, IsAtHome, AreOfProfile}
use Rattle.press_core.proofs.Tabled.{stands-there}

-- The bytes have a row.
abbrev HasRow : List ℕ → Type 0
HasRow bytes = (row : IssuedRow) × IsRowOf bytes row

-- ---- what is made

either-one : (P : CertValue → Type 0) (b : Bool) (x y : CertValue) → P x → P y → P (cond b x y)
either-one P true x y one other = one
either-one P false x y one other = other

-- A certificate that an edition makes: the anchor's, or another authority's.
made-certificate : (m : Issuance) (d : Draft) (subject : KeyRow) (held : Resources) (P : CertValue → Type 0) → ((site : Bases) (moment : ℕ) (p : Publishing) (serial : ℕ) → P (anchor_certificate site moment p held serial))
    → ((site : Bases) (moment : ℕ) (p q : Publishing) (serial : ℕ) → P (authority_certificate site moment p q held serial)) → (bytes : List ℕ) → (is : IsCertificate m d subject held bytes) → P is.certificate.cert
made-certificate m d subject held P anchor authority bytes is =
    let s = whole m.plan_input m.keys in
    let ks = there m.keys in
    let serial = serial_at (new_objects m.plan_input m.keys) d.issuer d.uri in
    subst P (sym is.issued.says) (either-one P (is_key d.issuer subject)
    (anchor_certificate s.site s.work.moment (publishing_of s ks d.issuer) held serial)
    (authority_certificate s.site s.work.moment (publishing_of s ks d.issuer) (publishing_of s ks subject) held serial)
    (anchor s.site s.work.moment (publishing_of s ks d.issuer) serial)
    (authority s.site s.work.moment (publishing_of s ks d.issuer) (publishing_of s ks subject) serial))

made-row : (m : Issuance) (d : Draft) (kind : Kind) (bytes : List ℕ) → IsObject m d kind bytes → HasRow bytes
made-row m d (Certificate subject held) bytes is =
    let c = is.certificate in
    let row : IssuedRow = record {
      uri = [];
      issuer = record { bytes = c.cert.issuer };
      serial = c.cert.serial;
      not_after = c.cert.not_after;
      hash = sha256 bytes;
      what = Authority (record { bytes = key_id c.cert }) held;
    } in (
      row,
      record {
        hash = refl;
        told = record {
          certificate = c;
          read = is.read;
          kind = made-certificate m d subject held (λ (v : CertValue). is_entity v.kind ≡ false) (λ site moment p serial. refl) (λ site moment p q serial. refl) bytes is;
          subject = refl;
          resources = made-certificate m d subject held (λ (v : CertValue). v.held ≡ Some (sets_of held)) (λ site moment p serial. refl) (λ site moment p q serial. refl) bytes is;
          dated = record { issuer = refl; serial = refl; not_after = refl };
        };
      },
    )
made-row m d (Roa origin) bytes is =
    let c = is.roa.certificate.cert in
    let row : IssuedRow = record {
      uri = [];
      issuer = record { bytes = c.issuer };
      serial = c.serial;
      not_after = c.not_after;
      hash = sha256 bytes;
      what = Route origin;
    } in (
      row,
      record {
        hash = refl;
        told = record { roa = is.roa; read = is.read; body = is.signed.body; holds = ap (λ (v : CertValue). v.held) is.signed.certificate.says; dated = record { issuer = refl; serial = refl; not_after = refl } };
      },
    )
made-row m d Crl bytes is =
    let row : IssuedRow = record {
      uri = [];
      issuer = record { bytes = is.crl.crl.issuer };
      serial = 0;
      not_after = is.crl.crl.next_update;
      hash = sha256 bytes;
      what = Point;
    } in
    (row, record { hash = refl; told = inl (record { crl = is.crl; read = is.read; issuer = refl; serial = refl; not_after = refl }) })
made-row m d Manifest bytes is =
    let c = is.manifest.certificate.cert in
    let row : IssuedRow = record {
      uri = [];
      issuer = record { bytes = c.issuer };
      serial = c.serial;
      not_after = c.not_after;
      hash = sha256 bytes;
      what = Point;
    } in (
      row,
      record {
        hash = refl;
        told = inr (record {
          manifest = is.manifest;
          read = is.read;
          ends = ap (λ (v : manifests.Manifest). manifests.next_update_of v) is.signed.body ∙ sym (ap (λ (v : CertValue). v.not_after) is.signed.certificate.says);
          dated = record { issuer = refl; serial = refl; not_after = refl };
        });
      },
    )

-- ---- what stands

same-some : (a b : List ℕ) (o : Option (List ℕ)) → o ≡ Some a → o ≡ Some b → a ≡ b
same-some a b o one other = cc

is-there : (o : Option (List ℕ)) (bytes : List ℕ) → o ≡ Some bytes → IsSome o
is-there None bytes e = absurd cc
is-there (Some b) bytes e = refl

-- Of what stood before there is a row.
old-row : (held : List ℕ → Option (List ℕ)) (issued : List IssuedRow) → IsTable held issued → (uri bytes : List ℕ) → held uri ≡ Some bytes → HasRow bytes
old-row held issued table uri bytes e =
    let r = table.all uri (is-there (held uri) bytes e) in
    let w = table.each r.0 r.1 in
    let same : w.0 ≡ bytes = same-some w.0 bytes (held uri) (ap held (sym r.2) ∙ w.1) e in
    (r.0, subst (λ (b : List ℕ). IsRowOf b r.0) same w.2)

module _ (m : Issuance) (is : IsNewSet m) (table : IsTable m.old m.plan_input.issued) where
  left-row : (d : Draft) (kept : Bool) → IsLeft m d kept → (uri bytes : List ℕ) → d.uri ≡ uri → m.new uri ≡ Some bytes → HasRow bytes
  left-row d true left uri bytes at e = old-row m.old m.plan_input.issued table d.uri bytes (sym left ∙ (ap m.new at ∙ e))
  left-row d false left uri bytes at e =
      let same : left.0 ≡ bytes = same-some left.0 bytes (m.new d.uri) left.1 (ap m.new at ∙ e) in
      made-row m d d.kind bytes (subst (λ (b : List ℕ). IsObject m d d.kind b) same left.2)

  done-row : (d : Draft) (kept : Bool) (o : Option Draft) → o ≡ Some d → IsDone m kept o → (uri bytes : List ℕ) → d.uri ≡ uri → m.new uri ≡ Some bytes → HasRow bytes
  done-row d kept o gives done = left-row d kept (subst (IsDone m kept) gives done)

  abbrev s : IssueInput
  s = whole m.plan_input m.keys

  abbrev ks : Keys
  ks = there m.keys

  each-row : (d : Draft) → In d (all_objects m.plan_input m.keys) → (uri bytes : List ℕ) → d.uri ≡ uri → m.new uri ≡ Some bytes → HasRow bytes
  each-row d at uri bytes place e = by (in-parts d (drafts s ks) (manifests s ks) at)
    where
      certificate : In d (filter_map (certificate_draft s ks) (all_certificates m.plan_input m.keys)) → HasRow bytes
      certificate here =
          let w = filter-map-in (certificate_draft s ks) d (all_certificates m.plan_input m.keys) here in
          done-row d (keeps_certificate m.plan_input m.keys w.0) (certificate_draft s ks w.0) w.2
          (in-all (λ (cert : CertWork). IsDone m (keeps_certificate m.plan_input m.keys cert) (certificate_draft s ks cert)) w.0 (all_certificates m.plan_input m.keys) is.certificates w.1)
          uri bytes place e

      roa : In d (filter_map (roa_draft s ks) (all_roas m.plan_input m.keys)) → HasRow bytes
      roa here =
          let w = filter-map-in (roa_draft s ks) d (all_roas m.plan_input m.keys) here in
          done-row d (keeps_roa m.plan_input m.keys w.0) (roa_draft s ks w.0) w.2
          (in-all (λ (r : RoaWork). IsDone m (keeps_roa m.plan_input m.keys r) (roa_draft s ks r)) w.0 (all_roas m.plan_input m.keys) is.roas w.1)
          uri bytes place e

      crl : In d (filter_map (crl_draft s ks) s.work.points) → HasRow bytes
      crl here =
          let w = filter-map-in (crl_draft s ks) d s.work.points here in
          let p = map-in point_of w.0 (map kept m.keys) w.1 in
          let k = map-in kept p.0 m.keys p.1 in
          done-row d (keeps_point m.plan_input m.keys k.0) (crl_draft s ks (point_of (kept k.0))) (ap (λ n. crl_draft s ks (point_of n)) k.2 ∙ (ap (crl_draft s ks) p.2 ∙ w.2))
          (in-all (λ (key : KeyRow). IsDone m (keeps_point m.plan_input m.keys key) (crl_draft s ks (point_of (kept key)))) k.0 m.keys is.crls k.1)
          uri bytes place e

      manifest : In d (manifests s ks) → HasRow bytes
      manifest here =
          let w = filter-map-in (manifest_draft s ks) d s.work.points here in
          let p = map-in point_of w.0 (map kept m.keys) w.1 in
          let k = map-in kept p.0 m.keys p.1 in
          done-row d (keeps_point m.plan_input m.keys k.0) (manifest_draft s ks (point_of (kept k.0))) (ap (λ n. manifest_draft s ks (point_of n)) k.2 ∙ (ap (manifest_draft s ks) p.2 ∙ w.2))
          (in-all (λ (key : KeyRow). IsDone m (keeps_point m.plan_input m.keys key) (manifest_draft s ks (point_of (kept key)))) k.0 m.keys is.manifests k.1)
          uri bytes place e

      by-drafts : In d (filter_map (certificate_draft s ks) s.work.certs ++ filter_map (roa_draft s ks) s.work.roas) ⊎ In d (filter_map (crl_draft s ks) s.work.points) → HasRow bytes
      by-drafts (inr here) = crl here
      by-drafts (inl both) = elim (in-parts d (filter_map (certificate_draft s ks) s.work.certs) (filter_map (roa_draft s ks) s.work.roas) both) [
        | inl here ↦ certificate here
        | inr here ↦ roa here
      ]

      by : In d (drafts s ks) ⊎ In d (manifests s ks) → HasRow bytes
      by (inl here) = by-drafts (in-parts d (filter_map (certificate_draft s ks) s.work.certs ++ filter_map (roa_draft s ks) s.work.roas) (filter_map (crl_draft s ks) s.work.points) here)
      by (inr here) = manifest here

  pub new-row : (uri bytes : List ℕ) → m.new uri ≡ Some bytes → HasRow bytes
  new-row uri bytes e =
      let any = (is.places uri).0 (is-there (m.new uri) bytes e) in
      each-row any.1 (contains-in any.1 (all_objects m.plan_input m.keys) (any.0, any.2, any.3)) uri bytes any.4 e

-- ---- what steps leave

abbrev pub IsLastLaw : Type 0
IsLastLaw = (premises : Premises) (editions : List Edition) (edition : Edition) → AreSteps premises (editions ++ edition ∷ [])
    → (clock : ℕ) × IsStep premises clock editions edition

pub record Ends {X : Type 0} (xs : List X) : Type 0 where
  pub front : List X
  pub last : X
  pub whole : xs ≡ front ++ last ∷ []

pub ends : {X : Type 0} (xs : List X) → (xs ≡ []) ⊎ Ends xs
ends [] = inl refl
ends {X} (x ∷ xs) = inr (by (ends xs))
  where
    by : (xs ≡ []) ⊎ Ends xs → Ends (x ∷ xs)
    by (inl none) = record { front = []; last = x; whole = ap (λ (l : List X). x ∷ l) none }
    by (inr e) = record { front = x ∷ e.front; last = e.last; whole = ap (λ (l : List X). x ∷ l) e.whole }

pub steps-row : IsLastLaw → (premises : Premises) (editions : List Edition) → AreSteps premises editions → (uri bytes : List ℕ) → set_after editions uri ≡ Some bytes → HasRow bytes
steps-row law premises editions steps uri bytes e = elim (ends editions) [
  | inl none ↦ absurd (let no : set_after [] uri ≡ Some bytes = ap (λ (es : List Edition). set_after es uri) (sym none) ∙ e in cc)
  | inr w ↦
      let last = law premises w.front w.last (subst (AreSteps premises) w.whole steps) in
      let made = last.1.made in
      new-row (record {
        vouched = premises.vouched;
        plan_input = plan_input_at premises (state_after w.front) w.last last.1.sets last.1.owed last.1.issued;
        keys = made.keys;
        entries = made.entries;
        old = set_after w.front;
        new = set_after (w.front ++ w.last ∷ []);
      }) made.set made.table uri bytes (ap (λ (es : List Edition). set_after es uri) (sym w.whole) ∙ e)
]

-- Each certificate that stands names the folder of its key's authority.
abbrev pub AreHome : List Home → List Edition → Type 0
AreHome homes editions = (uri bytes : List ℕ) (c : SignedCert) → set_after editions uri ≡ Some bytes → certificate_in bytes ≡ Some c → is_at_home homes c.cert ≡ true

pub steps-profile : IsLastLaw → (homes : List Home) (premises : Premises) (editions : List Edition) (objects : List Object) → AreHome homes editions → AreSteps premises editions → IsAscending objects
    → ((uri : List ℕ) → content_at objects uri ≡ set_after editions uri) → AreOfProfile homes objects
steps-profile law homes premises editions objects home steps up same object at =
    let there : set_after editions object.uri ≡ Some object.bytes = sym (same object.uri) ∙ stands-there objects object up (contains-in object objects at) in
    let w = steps-row law premises editions steps object.uri object.bytes there in
    record { row = w.0; is = w.1; home = by w.0.what (λ c read. home object.uri object.bytes c there read) }
  where
    by : (what : What) → ((c : SignedCert) → certificate_in object.bytes ≡ Some c → is_at_home homes c.cert ≡ true) → IsAtHome homes object.bytes what
    by (Authority key held) is = is
    by (Route origin) is = tt
    by Point is = tt
