-- What is told of an object by its bytes.
use Rattle.std.proofs.Common.{◌≡◌, ℕ, Bool, true, false, cond, List, [], Option, None, Some, refl, sym, ap, ap₂, subst, ◌∙◌, ◌⊎◌, inl, inr}
use Rattle.std.proofs.lemmas.Bool.{false≢true}
use Rattle.std.proofs.lemmas.Option.{same_Some}
use Rattle.sha2.specs.Sha256.{sha256}
use Rattle.der.specs.Grammar.{AreBytes}
use Rattle.pub_set.specs.declared.objects.Object.{Object}
use Rattle.key_ids.specs.declared.identifier.KeyId.{KeyId}
use Rattle.key_roll.specs.declared.issued.IssuedRow.{IssuedRow}
use Rattle.key_roll.specs.declared.issued.What.{What}
use Rattle.key_roll.specs.declared.issued.What.TheVariants.{Authority, Route, Point}
use Rattle.std.specs.Option.{option_map}
use Rattle.cert_obj.specs.declared.values.ReadCert.{ReadCert}
use Rattle.cert_obj.specs.Values.{CertValue, SignedCert, read_value, sets_of, is_entity}
use Rattle.crl_obj.specs.Values.{SignedCrl}
use Rattle.cms_obj.specs.declared.values.ObjectKind.{ObjectKind}
use Rattle.cms_obj.specs.declared.values.ObjectKind.TheVariants as kind
use Rattle.cms_obj.specs.Values.{ObjectValue}
use Rattle.payloads.specs.ManifestFormats.{Manifest}
use Rattle.payloads.specs.ManifestReading.{manifest_read}
use Rattle.payloads.specs.RoaFormats.{Entry}
use Rattle.payloads.specs.RoaReading.{roa_read}
use Rattle.rp_rules.specs.Objects.{Signed, SignedManifest, SignedRoa, value_in, signed_with, signed_of, certificate_in, entity_in, crl_in, object_in, is_manifest, is_roa}
use Rattle.rp_rules.specs.Authorities.{key_id}
use Rattle.issue_values.specs.Bodies.{roa_of}
use Rattle.editions.specs.Held.{certificate_inside}
use Rattle.editions.specs.Table.{IsDated, IsTold, IsRowOf}
use Rattle.press_core.specs.declared.tables.Told.{Told}
use Rattle.press_core.specs.Tables.{Home, is_at_home, IsAtHome, IsOfProfile, IsOfNothing, IsOther}
use Rattle.press_core.specs.inner.Rows.{row_with, SaysSo, IsNoCertificate, Tells, IsSomeCrl, IsSomeSigned, TellsAuthority, TellsCertificate, TellsKind, TellsWhat, IsMade, TellsMade, MayHave, IsToldOf, IsRowFor}

no-value : {X : Type 0} (x : X) → None ≡ Some x → ⊥
no-value x e = cc

-- ---- signed objects

-- What is read of a kind has a certificate and a content inside.
record HasInside {Body : Type 0} (is_kind : ObjectKind → Bool) (body : List ℕ → Option Body) (o : Option ObjectValue) (x : Signed Body) : Type 0 where
  object : ObjectValue
  there : o ≡ Some object
  of_kind : is_kind object.kind ≡ true
  inside : entity_in object.certificate ≡ Some x.certificate
  content : body object.content ≡ Some x.body

has-inside : {Body : Type 0} (is_kind : ObjectKind → Bool) (body : List ℕ → Option Body) (o : Option ObjectValue) (x : Signed Body) → signed_of is_kind body o ≡ Some x → HasInside is_kind body o x
has-inside is_kind body None x e = absurd cc
has-inside {Body} is_kind body (Some object) x e = by (is_kind object.kind) (entity_in object.certificate) (body object.content) refl refl refl e
  where
    by : (k : Bool) (c : Option SignedCert) (b : Option Body) → is_kind object.kind ≡ k → entity_in object.certificate ≡ c → body object.content ≡ b
        → cond k (signed_with object c b) None ≡ Some x → HasInside is_kind body (Some object) x
    by false c b k-is c-is b-is h = absurd cc
    by true None b k-is c-is b-is h = absurd cc
    by true (Some c) None k-is c-is b-is h = absurd cc
    by true (Some c) (Some b) k-is c-is b-is h =
        let made : Signed Body = record { object = object; certificate = c; body = b } in
        let same : made ≡ x = same_Some made x h in
        record {
          object = object;
          there = refl;
          of_kind = k-is;
          inside = c-is ∙ ap (λ (s : Signed Body). Some s.certificate) same;
          content = b-is ∙ ap (λ (s : Signed Body). Some s.body) same;
        }

abbrev manifest_body : List ℕ → Option Manifest
manifest_body content = value_in (manifest_read content)

abbrev roa_body : List ℕ → Option (ℕ × List Entry)
roa_body content = value_in (roa_read content)

-- Of one object there is one value.
same-object : {o : Option ObjectValue} (a b : ObjectValue) → o ≡ Some a → o ≡ Some b → a ≡ b
same-object a b one other = same_Some a b (sym one ∙ other)

not-both : (object : ObjectValue) → is_manifest object.kind ≡ true → object.kind ≡ kind.Roa → ⊥
not-both object manifest roa = false≢true (sym (ap is_manifest roa) ∙ manifest)

not-either : (object : ObjectValue) → is_roa object.kind ≡ true → object.kind ≡ kind.Manifest → ⊥
not-either object roa manifest = false≢true (sym (ap is_roa manifest) ∙ roa)

-- What has such an inside is read of a kind.
made-inside : {Body : Type 0} (is_kind : ObjectKind → Bool) (body : List ℕ → Option Body) (object : ObjectValue) (c : SignedCert) (b : Body) → is_kind object.kind ≡ true
    → entity_in object.certificate ≡ Some c → body object.content ≡ Some b → signed_of is_kind body (Some object) ≡ Some (record { object = object; certificate = c; body = b })
made-inside {Body} is_kind body object c b kind inside content =
    ap (λ (k : Bool). cond k (signed_with object (entity_in object.certificate) (body object.content)) None) kind
    ∙ ap₂ (λ (x : Option SignedCert) (y : Option Body). signed_with object x y) inside content

module _ (bytes : List ℕ) where
  -- ---- CRLs

  pub no-crl : crl_in bytes ≡ None → Tells IsSomeCrl bytes None
  no-crl none some = no-value some.0 (sym none ∙ some.1)

  pub crl-tells : (crl : SignedCrl) (told : Told) → crl_in bytes ≡ Some crl → told.what ≡ Point → told.issuer.bytes ≡ crl.crl.issuer → told.serial ≡ 0 → told.not_after ≡ crl.crl.next_update
      → Tells IsSomeCrl bytes (Some told)
  crl-tells crl told e what issuer serial after = (
    subst (λ (w : What). IsTold bytes (row_with told) w) (sym what) (inl (record { crl = crl; read = e; issuer = issuer; serial = serial; not_after = after })),
    subst (λ (w : What). IsNoCertificate w) (sym what) tt,
  )

  -- ---- manifests and ROAs

  pub no-object : object_in bytes ≡ None → Tells IsSomeSigned bytes None
  no-object none (inl m) = let w = has-inside is_manifest manifest_body (object_in bytes) m.0 m.1 in no-value w.object (sym none ∙ w.there)
  no-object none (inr r) = let w = has-inside is_roa roa_body (object_in bytes) r.1 r.2 in no-value w.object (sym none ∙ w.there)

  module _ (object : ObjectValue) (e : object_in bytes ≡ Some object) where
    pub no-entity : entity_in object.certificate ≡ None → Tells IsSomeSigned bytes None
    no-entity none (inl m) =
        let w = has-inside is_manifest manifest_body (object_in bytes) m.0 m.1 in
        let same = same-object w.object object w.there e in
        no-value m.0.certificate (sym none ∙ subst (λ (o : ObjectValue). entity_in o.certificate ≡ Some m.0.certificate) same w.inside)
    no-entity none (inr r) =
        let w = has-inside is_roa roa_body (object_in bytes) r.1 r.2 in
        let same = same-object w.object object w.there e in
        no-value r.1.certificate (sym none ∙ subst (λ (o : ObjectValue). entity_in o.certificate ≡ Some r.1.certificate) same w.inside)

    module _ (c : SignedCert) (inside : entity_in object.certificate ≡ Some c) where
      pub no-what : TellsWhat object c.cert None → Tells IsSomeSigned bytes None
      no-what none some = by object.kind refl none some
        where
          by : (k : ObjectKind) → object.kind ≡ k → TellsKind k object.content c.cert None → IsSomeSigned bytes → ⊥
          by kind.Manifest is none (inl m) =
              let w = has-inside is_manifest manifest_body (object_in bytes) m.0 m.1 in
              let same = same-object w.object object w.there e in
              let certificate : m.0.certificate ≡ c =
              same_Some m.0.certificate c (sym (subst (λ (o : ObjectValue). entity_in o.certificate ≡ Some m.0.certificate) same w.inside) ∙ inside) in
              none (m.0.body, subst (λ (o : ObjectValue). manifest_body o.content ≡ Some m.0.body) same w.content, m.2 ∙ ap (λ (x : SignedCert). x.cert.not_after) certificate)
          by kind.Manifest is none (inr r) =
              let w = has-inside is_roa roa_body (object_in bytes) r.1 r.2 in
              let same = same-object w.object object w.there e in
              not-either object (subst (λ (o : ObjectValue). is_roa o.kind ≡ true) same w.of_kind) is
          by kind.Roa is none (inl m) =
              let w = has-inside is_manifest manifest_body (object_in bytes) m.0 m.1 in
              let same = same-object w.object object w.there e in
              not-both object (subst (λ (o : ObjectValue). is_manifest o.kind ≡ true) same w.of_kind) is
          by kind.Roa is none (inr r) =
              let w = has-inside is_roa roa_body (object_in bytes) r.1 r.2 in
              let same = same-object w.object object w.there e in
              let certificate : r.1.certificate ≡ c =
              same_Some r.1.certificate c (sym (subst (λ (o : ObjectValue). entity_in o.certificate ≡ Some r.1.certificate) same w.inside) ∙ inside) in
              none r.0 (
                subst (λ (o : ObjectValue). roa_body o.content ≡ Some r.1.body) same w.content ∙ ap (λ (b : ℕ × List Entry). Some b) r.3,
                sym (ap (λ (x : SignedCert). x.cert.held) certificate) ∙ r.4,
              )

      pub signed-tells : (told : Told) → TellsWhat object c.cert (Some told.what) → IsDated c.cert (row_with told) → Tells IsSomeSigned bytes (Some told)
      signed-tells told tells dated = by object.kind told.what refl tells
        where
          by : (k : ObjectKind) (what : What) → object.kind ≡ k → TellsKind k object.content c.cert (Some what) → IsTold bytes (row_with told) what × IsNoCertificate what
          by kind.Manifest (Authority key held) is never = absurd never
          by kind.Manifest (Route origin) is never = absurd never
          by kind.Manifest Point is one =
              let made : SignedManifest = record { object = object; certificate = c; body = one.0 } in (
                inr (record {
                  manifest = made;
                  read = ap (λ (o : Option ObjectValue). signed_of is_manifest manifest_body o) e ∙ made-inside is_manifest manifest_body object c one.0 (ap is_manifest is) inside one.1;
                  ends = one.2;
                  dated = dated;
                }),
                tt,
              )
          by kind.Roa (Authority key held) is never = absurd never
          by kind.Roa Point is never = absurd never
          by kind.Roa (Route origin) is one =
              let made : SignedRoa = record { object = object; certificate = c; body = roa_of origin } in (
                record {
                  roa = made;
                  read = ap (λ (o : Option ObjectValue). signed_of is_roa roa_body o) e ∙ made-inside is_roa roa_body object c (roa_of origin) (ap is_roa is) inside one.0;
                  body = refl;
                  holds = one.1;
                  dated = dated;
                },
                tt,
              )

  -- ---- rows

  -- The row says what is told.
  row-told : (told : Told) (row : IssuedRow) → row.issuer ≡ told.issuer → row.serial ≡ told.serial → row.not_after ≡ told.not_after → row.what ≡ told.what → SaysSo bytes told
      → IsTold bytes row row.what
  row-told told row issuer serial after what says = subst (λ (w : What). IsTold bytes row w) (sym what) (by told.what says)
    where
      dated : {certificate : CertValue} → IsDated certificate (row_with told) → IsDated certificate row
      dated is = record {
        issuer = ap (λ (k : KeyId). k.bytes) issuer ∙ is.issuer;
        serial = serial ∙ is.serial;
        not_after = after ∙ is.not_after;
      }

      by : (w : What) → IsTold bytes (row_with told) w → IsTold bytes row w
      by (Authority key held) is = record {
        certificate = is.certificate;
        read = is.read;
        kind = is.kind;
        subject = is.subject;
        resources = is.resources;
        dated = dated is.dated;
      }
      by (Route origin) is = record { roa = is.roa; read = is.read; body = is.body; holds = is.holds; dated = dated is.dated }
      by Point (inl c) = inl (record {
        crl = c.crl;
        read = c.read;
        issuer = ap (λ (k : KeyId). k.bytes) issuer ∙ c.issuer;
        serial = serial ∙ c.serial;
        not_after = after ∙ c.not_after;
      })
      by Point (inr m) = inr (record { manifest = m.manifest; read = m.read; ends = m.ends; dated = dated m.dated })

  -- ---- others

  -- What is told by the certificate that the bytes are or have.
  pub other-by : (told : Told) (found : ReadCert) → MayHave bytes (Some found) → IsOfNothing told.what → told.issuer ≡ found.cert.issuer → told.serial ≡ found.cert.serial
      → told.not_after ≡ found.cert.not_after → IsOther bytes (row_with told)
  other-by told found has nothing issuer serial after = record {
    what = nothing;
    dated = λ c is. subst (λ (x : SignedCert). IsDated x.cert (row_with told)) (sym (has c is))
        (record { issuer = ap (λ (k : KeyId). k.bytes) issuer; serial = serial; not_after = after });
  }

  pub other-none : (told : Told) → MayHave bytes None → IsOfNothing told.what → IsOther bytes (row_with told)
  other-none told none nothing = record { what = nothing; dated = λ c is. absurd (none c is) }

  pub has-own : (found : ReadCert) → certificate_in bytes ≡ Some (read_value found) → object_in bytes ≡ None → MayHave bytes (Some found)
  has-own found read none c (inl e) = same_Some c (read_value found) (sym e ∙ read)
  has-own found read none c (inr e) = absurd (no-value c (ap certificate_inside (sym none) ∙ e))

  pub has-inside-it : (object : ObjectValue) (o : Option ReadCert) → certificate_in bytes ≡ None → object_in bytes ≡ Some object → option_map read_value o ≡ certificate_in object.certificate
      → MayHave bytes o
  has-inside-it object None none is read = λ c has. elim has [
    | inl e ↦ absurd (no-value c (sym none ∙ e))
    | inr e ↦ absurd (no-value c (read ∙ (ap certificate_inside (sym is) ∙ e)))
  ]
  has-inside-it object (Some found) none is read = λ c has. elim has [
    | inl e ↦ absurd (no-value c (sym none ∙ e))
    | inr e ↦ same_Some c (read_value found) (sym (ap certificate_inside (sym is) ∙ e) ∙ sym read)
  ]

  pub has-none : certificate_in bytes ≡ None → object_in bytes ≡ None → MayHave bytes None
  has-none none other c (inl e) = no-value c (sym none ∙ e)
  has-none none other c (inr e) = no-value c (ap certificate_inside (sym other) ∙ e)

  other-row : (told : Told) (row : IssuedRow) → row.issuer ≡ told.issuer → row.serial ≡ told.serial → row.not_after ≡ told.not_after → row.what ≡ told.what → IsOther bytes (row_with told)
      → IsOther bytes row
  other-row told row issuer serial after what is = record {
    what = subst (λ (w : What). IsOfNothing w) (sym what) is.what;
    dated = λ c has.
        let d = is.dated c has in
        record { issuer = ap (λ (k : KeyId). k.bytes) issuer ∙ d.issuer; serial = serial ∙ d.serial; not_after = after ∙ d.not_after };
  }

module _ (homes : List Home) (bytes : List ℕ) where
  -- ---- certificates

  pub no-authority : certificate_in bytes ≡ None → TellsCertificate homes bytes None
  no-authority none some = no-value some.is.certificate (sym none ∙ some.is.read)

  pub authority-tells : (read : SignedCert) (o : Option Told) → certificate_in bytes ≡ Some read → TellsAuthority homes read.cert o → TellsCertificate homes bytes o
  authority-tells read None e none = λ some.
      let is = some.is in
      let same : is.certificate ≡ read = same_Some is.certificate read (sym is.read ∙ e) in
      none some.key some.held (record {
        home = subst (λ (c : SignedCert). is_at_home homes c.cert ≡ true) same some.home;
        kind = subst (λ (c : SignedCert). is_entity c.cert.kind ≡ false) same is.kind;
        subject = subst (λ (c : SignedCert). some.key.bytes ≡ key_id c.cert) same is.subject;
        resources = subst (λ (c : SignedCert). c.cert.held ≡ Some (sets_of some.held)) same is.resources;
      })
  authority-tells read (Some told) e tells = (
    subst (λ (what : What). IsTold bytes (row_with told) what) (sym tells.2)
        (record { certificate = read; read = e; kind = tells.3.kind; subject = tells.3.subject; resources = tells.3.resources; dated = tells.4 }),
    subst (λ (what : What). IsAtHome homes bytes what) (sym tells.2)
        (λ (c : SignedCert) (is : certificate_in bytes ≡ Some c). subst (λ (x : SignedCert). is_at_home homes x.cert ≡ true) (same_Some read c (sym e ∙ is)) tells.3.home),
  )

  -- ---- what a press makes

  pub made-by : (told : Told) → SaysSo bytes told → IsAtHome homes bytes told.what → IsMade homes bytes told
  made-by told says home =
      let row : IssuedRow = record {
        uri = [];
        issuer = told.issuer;
        serial = told.serial;
        not_after = told.not_after;
        hash = sha256 bytes;
        what = told.what;
      } in
      record { profile = record { row = row; is = record { hash = refl; told = row-told bytes told row refl refl refl refl says }; home = home }; says = says }

  plain-home : (what : What) → IsNoCertificate what → IsAtHome homes bytes what
  plain-home (Authority key held) never = absurd never
  plain-home (Route origin) plain = tt
  plain-home Point plain = tt

  pub plain-made : (told : Told) → SaysSo bytes told × IsNoCertificate told.what → IsMade homes bytes told
  plain-made told tells = made-by told tells.0 (plain-home told.what tells.1)

  -- Where neither a certificate nor a CRL is told, what is told of a signed object.
  pub signed-made : TellsCertificate homes bytes None → Tells IsSomeCrl bytes None → (o : Option Told) → Tells IsSomeSigned bytes o → TellsMade homes bytes o
  signed-made certificate crl (Some told) tells = plain-made told tells
  signed-made certificate crl None none = λ profile. by profile.row profile.row.what profile.is.told profile.home
    where
      by : (row : IssuedRow) (what : What) → IsTold bytes row what → IsAtHome homes bytes what → ⊥
      by row (Authority key held) is home = certificate (record { key = key; held = held; row = row; is = is; home = home is.certificate is.read })
      by row (Route origin) is home = none (inr (origin, is.roa, is.read, is.body, is.holds))
      by row Point (inl c) home = crl (c.crl, c.read)
      by row Point (inr m) home = none (inl (m.manifest, m.read, m.ends))

  -- ---- the row

  row-by : (told : Told) (row : IssuedRow) → row.hash ≡ sha256 bytes → row.issuer ≡ told.issuer → row.serial ≡ told.serial → row.not_after ≡ told.not_after → row.what ≡ told.what
      → IsToldOf homes bytes told → (IsOfProfile homes bytes × IsRowOf bytes row) ⊎ ((¬ IsOfProfile homes bytes) × IsOther bytes row)
  row-by told row hash issuer serial after what (inl made) = inl (made.profile, record { hash = hash; told = row-told bytes told row issuer serial after what made.says })
  row-by told row hash issuer serial after what (inr strange) = inr (strange.other, other-row bytes told row issuer serial after what strange.says)

-- The row of an object, by what is told of its bytes.
pub row-for : (homes : List Home) (object : Object) (bytes : List ℕ) (told : Told) (row : IssuedRow) → bytes ≡ object.bytes → AreBytes bytes → row.uri ≡ object.uri → row.hash ≡ sha256 bytes
    → row.issuer ≡ told.issuer → row.serial ≡ told.serial → row.not_after ≡ told.not_after → row.what ≡ told.what → IsToldOf homes bytes told → IsRowFor homes object row
row-for homes object bytes told row same fits uri hash issuer serial after what is = record {
  bytes = subst AreBytes same fits;
  uri = uri;
  hash = hash ∙ ap sha256 same;
  told = subst (λ (b : List ℕ). (IsOfProfile homes b × IsRowOf b row) ⊎ ((¬ IsOfProfile homes b) × IsOther b row)) same
      (row-by homes bytes told row hash issuer serial after what is);
}
