-- In the set of an edition each certificate names the folder of its key's authority.
use Rattle.std.proofs.Common.{◌≡◌, ◌≢◌, ℕ, ◌+◌, Bool, true, false, cond, Some, List, [], ◌∷◌, ◌++◌, All, Contains, IsSome, refl, sym, ap, subst, ◌∙◌}
use Rattle.std.specs.Prelude.{Option, None}
use Rattle.std.proofs.lemmas.Option.{same_Some}
use Rattle.names.specs.Name.{IsName}
use Rattle.key_ids.specs.Uris.{Bases, folder_of}
use Rattle.authority_book.specs.declared.rows.NameRow.{NameRow}
use Rattle.entitle.specs.Certified.{names_of}
use Rattle.res_sets.specs.declared.holdings.Resources.{Resources}
use Rattle.key_roll.specs.declared.rows.KeyRow.{KeyRow}
use Rattle.cert_obj.specs.Values.{CertValue, SignedCert}
use Rattle.rp_rules.specs.Objects.{certificate_in, crl_in, object_in}
use Rattle.issue_values.specs.Certificates as values
use Rattle.issue_drafts.specs.Publishers.{is_key, name_at}
use Rattle.issue_drafts.specs.Drafts.{Draft, Kind, serial_behind}
use Rattle.issue_drafts.specs.Drafts.Kind.{Certificate, Roa, Crl, Manifest}
use Rattle.issue_keys.specs.Keys.{id_of}
use Rattle.issue_sign.specs.Objects.{number_of}
use Rattle.items.specs.laws.ElementLaws.{into-map}
use Rattle.editions.specs.Edition.{Edition, set_after}
use Rattle.editions.specs.Names.{AreTree}
use Rattle.editions.specs.Objects.{Issuance}
use Rattle.editions.specs.Wanted.{all_objects, new_objects, keeps_point}
use Rattle.editions.specs.Step.{Premises, IsStep, AreSteps, configs_at, counted}
use Rattle.editions.specs.MadeIn.{issuance_of, published_key, AreAtHome}
use Rattle.editions.proofs.ObjectLemmas.OneKind.{certificate-no-crl, certificate-no-object}
use Rattle.editions.proofs.ObjectLemmas.Given.{roa-read, manifest-read}
use Rattle.editions.proofs.ObjectLemmas.Standing.{IsPlacedAt}
use Rattle.editions.proofs.ObjectLemmas.Left.{IsSubject, of-keys}
use Rattle.editions.proofs.PlanLemmas.Told.{AreTold, HaveEnds}
use Rattle.editions.proofs.WalkLemmas.Rows.{last-step}
use Rattle.editions.proofs.WalkLemmas.Serves.{all-served}
use Rattle.editions.proofs.WalkLemmas.Serving.{IsServed, certificate_made}

is-there : (o : Option (List ℕ)) (bytes : List ℕ) → o ≡ Some bytes → IsSome o
is-there None bytes e = absurd cc
is-there (Some b) bytes e = refl

either-row : {A : Type 0} (f : KeyRow → A) (b : Bool) (one two : KeyRow) (value : A) → f one ≡ value → f two ≡ value
    → f (cond b one two) ≡ value
either-row f true one two value first second = first
either-row f false one two value first second = second

-- What a certificate of an edition says of its subject.
record IsOf (site : Bases) (name subject : List ℕ) (value : CertValue) : Type 0 where
  key : value.key ≡ subject
  folder : value.uris.folder ≡ folder_of site name

module _ (told : AreTold) (ends : HaveEnds) (premises : Premises) (editions : List Edition) (edition : Edition)
    (steps : AreSteps premises (editions ++ edition ∷ []))
    (tree : AreTree (names_of (configs_at premises.lists edition.cut)))
    (plain : All (λ row. IsName row.name) (names_of (configs_at premises.lists edition.cut))) where
  last : (clock : ℕ) × IsStep premises clock editions edition
  last = last-step premises editions edition steps

  abbrev step : IsStep premises last.0 editions edition
  step = last.1

  abbrev m : Issuance
  m = issuance_of premises last.0 editions edition step

  abbrev site : Bases
  site = m.plan_input.site

  abbrev names : List NameRow
  names = names_of m.plan_input.basis.configs

  served : IsServed m
  served = all-served told ends premises editions last.0 edition step steps tree plain

  -- A key of the edition has a row in it, of the same key and desk.
  abbrev row_for : KeyRow → KeyRow
  row_for = counted m.plan_input m.keys m.entries

  abbrev HasHome : CertValue → Type 0
  HasHome value = (key : KeyRow) × Contains edition.rows key × (key.key.bytes ≡ value.key)
      × (value.uris.folder ≡ folder_of site (name_at names key.desk))

  abbrev kept_row : KeyRow → KeyRow
  kept_row k = record k { next_serial = serial_behind (new_objects m.plan_input m.keys) k }

  abbrev pointed_row : KeyRow → KeyRow
  pointed_row k = record k {
    next_serial = serial_behind (new_objects m.plan_input m.keys) k + 1;
    number = number_of k;
    this_update = m.plan_input.basis.moment;
    revoked = m.entries k;
  }

  key-of : (k : KeyRow) → (row_for k).key.bytes ≡ k.key.bytes
  key-of k = either-row (λ (r : KeyRow). r.key.bytes) (keeps_point m.plan_input m.keys k) (kept_row k) (pointed_row k)
      k.key.bytes refl refl

  desk-of : (k : KeyRow) → (row_for k).desk ≡ k.desk
  desk-of k = either-row (λ (r : KeyRow). r.desk) (keeps_point m.plan_input m.keys k) (kept_row k) (pointed_row k)
      k.desk refl refl

  by-row : (k : KeyRow) → Contains m.keys k → (value : CertValue)
      → IsOf site (name_at names k.desk) k.key.bytes value → HasHome value
  by-row k live value is = (
    row_for k,
    subst (λ (rows : List KeyRow). Contains rows (row_for k)) (sym step.made.rows)
        (into-map row_for m.keys k live),
    key-of k ∙ sym is.key,
    is.folder ∙ ap (λ (desk : ℕ). folder_of site (name_at names desk)) (sym (desk-of k)),
  )

  -- The trust anchor's certificate is of its issuer, whose key is the subject's.
  made-is : (issuer subject : KeyRow) (held : Resources) (made serial : ℕ) → is_key issuer subject ≡ false
      → IsOf site (name_at names subject.desk) subject.key.bytes (certificate_made m made issuer subject held serial)
  made-is issuer subject held made serial apart =
      subst (IsOf site (name_at names subject.desk) subject.key.bytes)
      (sym (ap (λ (b : Bool). cond b (values.anchor_certificate site made (published_key m issuer) held serial)
      (values.authority_certificate site made (published_key m issuer) (published_key m subject) held serial)) apart))
      (record { key = refl; folder = refl })

  made-top : (issuer subject : KeyRow) (held : Resources) (made serial : ℕ) → is_key issuer subject ≡ true
      → IsOf site (name_at names issuer.desk) issuer.key.bytes (certificate_made m made issuer subject held serial)
  made-top issuer subject held made serial same =
      subst (IsOf site (name_at names issuer.desk) issuer.key.bytes)
      (sym (ap (λ (b : Bool). cond b (values.anchor_certificate site made (published_key m issuer) held serial)
      (values.authority_certificate site made (published_key m issuer) (published_key m subject) held serial)) same))
      (record { key = refl; folder = refl })

  module _ (uri bytes : List ℕ) (c : SignedCert) (stands : m.new uri ≡ Some bytes)
      (read : certificate_in bytes ≡ Some c) where
    -- The bytes at the place of what is wanted are these.
    same-bytes : (other : List ℕ) → m.new uri ≡ Some other → other ≡ bytes
    same-bytes other e = same_Some other bytes (sym e ∙ stands)

    by-kind : (d : Draft) → Contains (all_objects m.plan_input m.keys) d → d.uri ≡ uri → (kind : Kind)
        → d.kind ≡ kind → Contains m.keys d.issuer → IsPlacedAt m d kind → IsSubject m.keys kind → HasHome c.cert
    by-kind d among is (Certificate subject held) kind live placed has =
        let sv = served.certificates d among subject held kind in
        let at : sv.0 ≡ bytes = same-bytes sv.0 (ap m.new (sym is) ∙ sv.1) in
        let same : sv.2.certificate ≡ c =
        same_Some sv.2.certificate c (sym sv.2.read ∙ (ap certificate_in at ∙ read)) in
        let value : certificate_made m sv.2.made d.issuer subject held sv.2.serial ≡ c.cert =
        sym sv.2.says ∙ ap (λ (x : SignedCert). x.cert) same in
        subst HasHome value (whose (is_key d.issuer subject) refl sv.2.made sv.2.serial)
      where
        whose : (b : Bool) → is_key d.issuer subject ≡ b → (made serial : ℕ)
            → HasHome (certificate_made m made d.issuer subject held serial)
        whose true e made serial =
            by-row d.issuer live (certificate_made m made d.issuer subject held serial)
            (made-top d.issuer subject held made serial e)
        whose false e made serial =
            by-row subject has (certificate_made m made d.issuer subject held serial)
            (made-is d.issuer subject held made serial e)
    by-kind d among is (Roa origin) kind live placed has =
        let sv = served.roas d among origin kind in
        let at : sv.0 ≡ bytes = same-bytes sv.0 (ap m.new (sym is) ∙ sv.1) in
        let object = (roa-read sv.0 sv.2.roa sv.2.read).object in
        absurd (certificate-no-object bytes c sv.2.roa.object read (ap object_in (sym at) ∙ object))
    by-kind d among is Crl kind live placed has =
        let sv = served.points d.issuer live in
        let at : sv.crl_bytes ≡ bytes = same-bytes sv.crl_bytes (ap m.new (sym is ∙ placed) ∙ sv.crl_there) in
        absurd (certificate-no-crl bytes c sv.crl read (ap crl_in (sym at) ∙ sv.crl_read))
    by-kind d among is Manifest kind live placed has =
        let sv = served.points d.issuer live in
        let at : sv.bytes ≡ bytes = same-bytes sv.bytes (ap m.new (sym is ∙ placed) ∙ sv.there) in
        let object = (manifest-read sv.bytes sv.manifest sv.read).object in
        absurd (certificate-no-object bytes c sv.manifest.object read (ap object_in (sym at) ∙ object))

    at-home-here : HasHome c.cert
    at-home-here =
        let any = (served.places uri).0 (is-there (m.new uri) bytes stands) in
        let d : Draft = any.1 in
        let among : Contains (all_objects m.plan_input m.keys) d = (any.0, any.2, any.3) in
        let of = of-keys m d among in
        by-kind d among any.4 d.kind refl of.live of.placed of.subject

  pub at-home : AreAtHome premises.site (names_of (configs_at premises.lists edition.cut)) edition.rows
      (set_after (editions ++ edition ∷ []))
  at-home uri bytes c stands read = at-home-here uri bytes c stands read
