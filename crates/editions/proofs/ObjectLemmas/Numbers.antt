-- The CRLs and the manifests in the set of an edition: of which key, with which number and moment.
use Rattle.std.proofs.Common.{◌≡◌, ℕ, zero, suc, ◌+◌, ◌≤◌, Bool, true, false, Option, Some, None, List, ◌++◌, length, map, take, drop, refl, sym, ap, subst, ◌∙◌, arith, ◌⊎◌, inl, inr, append_assoc, length-append}
use Rattle.std.specs.Prelude.{Contains, codes, option_map, Ok, Result, is_some}
use Rattle.std.specs.List.{slice_get, filter_map}
use Rattle.std.proofs.lemmas.Option.{same_Some, none-some, slice_get_within}
use Rattle.std.proofs.lemmas.Bool.{false≢true, true≢false}
use Rattle.std.proofs.lemmas.List.{drop_at, append_cancel_right}
use Rattle.std.proofs.lemmas.List.Elements.{Contains-append_left, Contains-append_right}
use Rattle.std.proofs.lemmas.Slice.Eq.{bytes_eq-Decides}
use Rattle.hex.specs.Hex.{encode_lower, decode_of}
use Rattle.hex.specs.declared.error.FromHexError.{FromHexError}
use Rattle.hex.proofs.HexLemmas.{length-encode_with, decode_of-encode_lower}
use Rattle.cert_obj.specs.laws.IdentifierLaws.{sha1-length, sha1-bytes}
use Rattle.key_roll.specs.declared.rows.KeyRow.{KeyRow}
use Rattle.key_roll.specs.declared.rows.RevokedRow.{RevokedRow}
use Rattle.key_roll.specs.declared.issued.IssuedRow.{IssuedRow}
use Rattle.key_roll.specs.declared.issued.What.{What}
use Rattle.key_roll.specs.declared.issued.What.TheVariants as Whats
use Rattle.key_ids.specs.Uris.{Bases, folder_of, manifest_uri, crl_uri}
use Rattle.cms_obj.specs.declared.values.ObjectKind.{ObjectKind}
use Rattle.cms_obj.specs.declared.values.ObjectKind.TheVariants as kinds
use Rattle.cms_obj.specs.Values.{ObjectValue}
use Rattle.cert_obj.specs.Values.{CertValue}
use Rattle.crl_obj.specs.Values.{CrlValue, SignedCrl}
use Rattle.payloads.specs.ManifestFormats.{Manifest as Listed}
use Rattle.pub_set.specs.Changes.{Contents}
use Rattle.rp_rules.specs.Objects.{SignedManifest, is_manifest, is_roa, crl_in, manifest_in}
use Rattle.entitle.specs.Certified.{names_of}
use Rattle.issue_values.specs.Bodies.{crl_value_of, manifest_value_of}
use Rattle.issue_values.specs.Certificates.{point_life}
use Rattle.issue_plan.specs.Keys.{kept}
use Rattle.issue_plan.specs.Wanted.{point_of}
use Rattle.issue_keys.specs.Keys.{id_of}
use Rattle.issue_drafts.specs.Publishers.{name_at}
use Rattle.issue_drafts.specs.Drafts.{Draft, Kind, has_serial, certificate_draft, roa_draft, crl_draft, manifest_draft, drafts, manifests}
use Rattle.issue_drafts.specs.Drafts.Kind.{Certificate, Roa, Crl, Manifest}
use Rattle.issue_make.specs.Trace.{Says}
use Rattle.issue_sign.specs.Objects.{number_of}
use Rattle.issue_drafts.specs.WorkKeys.{key_named}
use Rattle.authority_book.specs.declared.rows.NameRow.{NameRow}
use Rattle.editions.specs.Edition.{Edition, state_after, set_after}
use Rattle.editions.specs.Superseded.{IsCrlOf}
use Rattle.editions.specs.Table.{IsTold}
use Rattle.editions.specs.Wanted as wanted
use Rattle.editions.specs.Wanted.{whole, all_certificates, all_roas, all_points, all_objects, keeps_point}
use Rattle.editions.specs.Objects.{Issuance, moment_of, IsObject}
use Rattle.editions.specs.Step.{Premises, AreSteps, counted}
use Rattle.items.specs.laws.ElementLaws.{none, into-map, into-filter_map}
use Rattle.editions.proofs.ObjectLemmas.OneKind.{certificate-no-crl, certificate-no-object, crl-no-object}
use Rattle.editions.proofs.ObjectLemmas.Named.{self-named}
use Rattle.editions.proofs.ObjectLemmas.Standing.{IsPlacedAt, IsPut, IsStood, left-at, left-draft}
use Rattle.editions.proofs.ObjectLemmas.Given.{roa-read, manifest-read, kept_on, pointed_anew, counted-kept, counted-anew}
use Rattle.editions.proofs.ObjectLemmas.Views.{came, on-row, row-key, key-row, id-counted, id-next, same-key}
use Rattle.editions.proofs.ObjectLemmas.History.{there-is, set-before, rows-before, moment-before, rises, seen, Stands, now}

-- ---- places tell keys, and what stands there

same-list : (xs ys : List ℕ) → ◌≡◌ {A = Result (List ℕ) FromHexError} (Ok xs) (Ok ys) → xs ≡ ys
same-list xs ys e = cc

same-ends : (a b x y : List ℕ) → a ++ x ≡ b ++ y → length x ≡ length y → x ≡ y
same-ends a b x y e same =
    let whole : length a + length x ≡ length b + length y =
    sym (length-append a x) ∙ (ap length e ∙ length-append b y) in
    sym (drop_at a x (length a) refl)
    ∙ (ap (drop (length a)) e ∙ drop_at b y (length a) (omega (arith, whole, same)))

-- The key of a file is told by its name.
id-by-name : (site : Bases) (one other : List ℕ) (a b : KeyRow) (ending : List ℕ)
    → folder_of site one ++ (encode_lower (id_of a) ++ ending)
    ≡ folder_of site other ++ (encode_lower (id_of b) ++ ending)
    → id_of a ≡ id_of b
id-by-name site one other a b ending e =
    let left : List ℕ = encode_lower (id_of a) in
    let right : List ℕ = encode_lower (id_of b) in
    let first : length left ≡ 40 = simp (length-encode_with, sha1-length) refl in
    let second : length right ≡ 40 = simp (length-encode_with, sha1-length) refl in
    let long : length (left ++ ending) ≡ length (right ++ ending) =
    length-append left ending
    ∙ (ap (λ (n : ℕ). n + length ending) (first ∙ sym second)
    ∙ sym (length-append right ending)) in
    let ends : left ++ ending ≡ right ++ ending =
    same-ends (folder_of site one) (folder_of site other) (left ++ ending) (right ++ ending) e long in
    let names : left ≡ right = append_cancel_right left right ending ends in
    same-list (id_of a) (id_of b)
    (sym (decode_of-encode_lower (id_of a) (sha1-bytes a.key.bytes))
    ∙ (ap decode_of names ∙ decode_of-encode_lower (id_of b) (sha1-bytes b.key.bytes)))

-- The key of a manifest is told by where it stands.
pub same-id : (site : Bases) (one other : List ℕ) (a b : KeyRow)
    → manifest_uri site one (id_of a) ≡ manifest_uri site other (id_of b) → id_of a ≡ id_of b
same-id site one other a b e = id-by-name site one other a b (codes ".mft") e

pub same-crl-id : (site : Bases) (one other : List ℕ) (a b : KeyRow)
    → crl_uri site one (id_of a) ≡ crl_uri site other (id_of b) → id_of a ≡ id_of b
same-crl-id site one other a b e = id-by-name site one other a b (codes ".crl") e

-- No CRL's place is a manifest's.
pub crl-no-manifest : (site other : Bases) (a b x y : List ℕ) → crl_uri site a x ≡ manifest_uri other b y → ⊥
crl-no-manifest site other a b x y e =
    let left : List ℕ = folder_of site a ++ encode_lower x in
    let right : List ℕ = folder_of other b ++ encode_lower y in
    let ends : left ++ codes ".crl" ≡ right ++ codes ".mft" =
    append_assoc (folder_of site a) (encode_lower x) (codes ".crl")
    ∙ (e ∙ sym (append_assoc (folder_of other b) (encode_lower y) (codes ".mft"))) in
    true≢false (sym ((bytes_eq-Decides (codes ".crl") (codes ".mft")).1
    (same-ends left right (codes ".crl") (codes ".mft") ends refl)))

-- ---- kinds

two-kinds : (kind : ObjectKind) → is_roa kind ≡ true → is_manifest kind ≡ true → ⊥
two-kinds kinds.Manifest one two = false≢true one
two-kinds kinds.Roa one two = false≢true two

-- Of a point there are a CRL and a manifest.
point-kind : (kind : Kind) (what : What) → Says kind what → what ≡ Whats.Point → (kind ≡ Crl) ⊎ (kind ≡ Manifest)
point-kind (Certificate subject held) (Whats.Authority key holding) says e = absurd cc
point-kind (Certificate subject held) (Whats.Route origin) says e = absurd says
point-kind (Certificate subject held) Whats.Point says e = absurd says
point-kind (Roa origin) (Whats.Authority key holding) says e = absurd says
point-kind (Roa origin) (Whats.Route other) says e = absurd cc
point-kind (Roa origin) Whats.Point says e = absurd says
point-kind Crl what says e = inl refl
point-kind Manifest what says e = inr refl

told-crl : (bytes : List ℕ) (row : IssuedRow) (what : What) (l : SignedCrl) → IsTold bytes row what
    → crl_in bytes ≡ Some l → what ≡ Whats.Point
told-crl bytes row (Whats.Authority key held) l is read = absurd (certificate-no-crl bytes is.certificate l is.read read)
told-crl bytes row (Whats.Route origin) l is read =
    absurd (crl-no-object bytes l is.roa.object read (roa-read bytes is.roa is.read).object)
told-crl bytes row Whats.Point l is read = refl

told-manifest : (bytes : List ℕ) (row : IssuedRow) (what : What) (x : SignedManifest) → IsTold bytes row what
    → manifest_in bytes ≡ Some x → what ≡ Whats.Point
told-manifest bytes row (Whats.Authority key held) x is read =
    absurd (certificate-no-object bytes is.certificate x.object is.read (manifest-read bytes x read).object)
told-manifest bytes row (Whats.Route origin) x is read =
    let roa = roa-read bytes is.roa is.read in
    let manifest = manifest-read bytes x read in
    let same : x.object ≡ is.roa.object = same_Some x.object is.roa.object (sym manifest.object ∙ roa.object) in
    absurd (two-kinds is.roa.object.kind roa.kind
    (subst (λ (o : ObjectValue). is_manifest o.kind ≡ true) same manifest.kind))
told-manifest bytes row Whats.Point x is read = refl

told-point : (bytes : List ℕ) (row : IssuedRow) (what : What) → what ≡ Whats.Point → IsTold bytes row what
    → ((l : SignedCrl) × (crl_in bytes ≡ Some l)) ⊎ ((x : SignedManifest) × (manifest_in bytes ≡ Some x))
told-point bytes row (Whats.Authority key held) e is = absurd cc
told-point bytes row (Whats.Route origin) e is = absurd cc
told-point bytes row Whats.Point e (inl is) = inl (is.crl, is.read)
told-point bytes row Whats.Point e (inr is) = inr (is.manifest, is.read)

-- ---- CRLs

-- The CRL of a key with that row.
abbrev pub crl_of : KeyRow → CrlValue
crl_of row = crl_value_of row.this_update (id_of row) row.number row.revoked

-- That of a key of the edition, as its row behind the edition tells it.
pub record IsListing (m : Issuance) (uri : List ℕ) (l : SignedCrl) : Type 0 where
  pub issuer : KeyRow
  pub live : Contains m.keys issuer
  pub at : uri ≡ crl_uri m.plan_input.site
      (name_at (names_of m.plan_input.basis.configs) issuer.desk) (id_of issuer)
  pub says : l.crl ≡ crl_of (counted m.plan_input m.keys m.entries issuer)

-- One that the edition made.
pub record IsNewListing (m : Issuance) (uri : List ℕ) (l : SignedCrl) : Type 0 where
  pub issuer : KeyRow
  pub live : Contains m.keys issuer
  pub at : uri ≡ crl_uri m.plan_input.site
      (name_at (names_of m.plan_input.basis.configs) issuer.desk) (id_of issuer)
  pub says : l.crl
      ≡ crl_value_of (moment_of m) (id_of issuer) (number_of issuer) (m.entries issuer)
  pub fresh : keeps_point m.plan_input m.keys issuer ≡ false

new-listing-by : (m : Issuance) (d : Draft) (kind : Kind) (bytes : List ℕ) (l : SignedCrl)
    → Contains m.keys d.issuer → IsPlacedAt m d kind → IsObject m d kind bytes
    → (has_serial kind ≡ false → keeps_point m.plan_input m.keys d.issuer ≡ false)
    → crl_in bytes ≡ Some l → IsNewListing m d.uri l
new-listing-by m d (Certificate subject held) bytes l live placed object point read =
    absurd (certificate-no-crl bytes object.certificate l object.read read)
new-listing-by m d (Roa origin) bytes l live placed object point read =
    absurd (crl-no-object bytes l object.roa.object read (roa-read bytes object.roa object.read).object)
new-listing-by m d Crl bytes l live placed object point read = record {
  issuer = d.issuer;
  live = live;
  at = placed;
  says = ap (λ (x : SignedCrl). x.crl) (same_Some l object.crl (sym read ∙ object.read))
      ∙ object.says;
  fresh = point refl;
}
new-listing-by m d Manifest bytes l live placed object point read =
    absurd (crl-no-object bytes l object.manifest.object read
    (manifest-read bytes object.manifest object.read).object)

pub new-listing : (m : Issuance) (d : Draft) (bytes : List ℕ) (l : SignedCrl) → IsPut m d bytes
    → crl_in bytes ≡ Some l → IsNewListing m d.uri l
new-listing m d bytes l put read =
    new-listing-by m d d.kind bytes l put.live put.placed put.object put.point read

listing-of : (m : Issuance) (uri : List ℕ) (l : SignedCrl) → IsNewListing m uri l → IsListing m uri l
listing-of m uri l is = record {
  issuer = is.issuer;
  live = is.live;
  at = is.at;
  says = is.says ∙ ap crl_of (sym (counted-anew m is.issuer is.fresh));
}

-- ---- manifests

-- A manifest of a key of the edition, as its row behind the edition tells it.
pub record IsNumbering (m : Issuance) (uri : List ℕ) (x : SignedManifest) : Type 0 where
  pub issuer : KeyRow
  pub live : Contains m.keys issuer
  pub at : uri ≡ manifest_uri m.plan_input.site
      (name_at (names_of m.plan_input.basis.configs) issuer.desk) (id_of issuer)
  pub number : x.body.0 ≡ (counted m.plan_input m.keys m.entries issuer).number
  pub moment : x.body.1.0 ≡ (counted m.plan_input m.keys m.entries issuer).this_update
  pub next : x.body.1.1.0 ≡ (counted m.plan_input m.keys m.entries issuer).this_update + point_life
  pub issued : x.certificate.cert.issuer ≡ id_of issuer

-- One that the edition made.
pub record IsNewNumbering (m : Issuance) (uri : List ℕ) (x : SignedManifest) : Type 0 where
  pub issuer : KeyRow
  pub live : Contains m.keys issuer
  pub at : uri ≡ manifest_uri m.plan_input.site
      (name_at (names_of m.plan_input.basis.configs) issuer.desk) (id_of issuer)
  pub number : x.body.0 ≡ number_of issuer
  pub moment : x.body.1.0 ≡ moment_of m
  pub next : x.body.1.1.0 ≡ moment_of m + point_life
  pub issued : x.certificate.cert.issuer ≡ id_of issuer
  pub fresh : keeps_point m.plan_input m.keys issuer ≡ false

new-numbering-by : (m : Issuance) (d : Draft) (kind : Kind) (bytes : List ℕ) (x : SignedManifest)
    → Contains m.keys d.issuer → IsPlacedAt m d kind → IsObject m d kind bytes
    → (has_serial kind ≡ false → keeps_point m.plan_input m.keys d.issuer ≡ false)
    → manifest_in bytes ≡ Some x → IsNewNumbering m d.uri x
new-numbering-by m d (Certificate subject held) bytes x live placed object point read =
    absurd (certificate-no-object bytes object.certificate x.object object.read
    (manifest-read bytes x read).object)
new-numbering-by m d (Roa origin) bytes x live placed object point read =
    let roa = roa-read bytes object.roa object.read in
    let manifest = manifest-read bytes x read in
    let same : x.object ≡ object.roa.object =
    same_Some x.object object.roa.object (sym manifest.object ∙ roa.object) in
    absurd (two-kinds object.roa.object.kind roa.kind
    (subst (λ (o : ObjectValue). is_manifest o.kind ≡ true) same manifest.kind))
new-numbering-by m d Crl bytes x live placed object point read =
    absurd (crl-no-object bytes object.crl x.object object.read (manifest-read bytes x read).object)
new-numbering-by m d Manifest bytes x live placed object point read =
    let same : x ≡ object.manifest = same_Some x object.manifest (sym read ∙ object.read) in
    let body : x.body ≡ manifest_value_of (moment_of m) (number_of d.issuer) object.files =
    ap (λ (y : SignedManifest). y.body) same ∙ object.signed.body in
    record {
      issuer = d.issuer;
      live = live;
      at = placed;
      number = ap (λ (v : Listed). v.0) body;
      moment = ap (λ (v : Listed). v.1.0) body;
      next = ap (λ (v : Listed). v.1.1.0) body;
      issued = ap (λ (y : SignedManifest). y.certificate.cert.issuer) same
          ∙ ap (λ (v : CertValue). v.issuer) object.signed.certificate.says;
      fresh = point refl;
    }

pub new-numbering : (m : Issuance) (d : Draft) (bytes : List ℕ) (x : SignedManifest) → IsPut m d bytes
    → manifest_in bytes ≡ Some x → IsNewNumbering m d.uri x
new-numbering m d bytes x put read =
    new-numbering-by m d d.kind bytes x put.live put.placed put.object put.point read

numbering-of : (m : Issuance) (uri : List ℕ) (x : SignedManifest) → IsNewNumbering m uri x → IsNumbering m uri x
numbering-of m uri x is =
    let row : counted m.plan_input m.keys m.entries is.issuer ≡ pointed_anew m is.issuer =
    counted-anew m is.issuer is.fresh in
    record {
      issuer = is.issuer;
      live = is.live;
      at = is.at;
      number = is.number ∙ ap (λ (r : KeyRow). r.number) (sym row);
      moment = is.moment ∙ ap (λ (r : KeyRow). r.this_update) (sym row);
      next = is.next ∙ ap (λ (r : KeyRow). r.this_update + point_life) (sym row);
      issued = is.issued;
    }

-- ---- one edition behind another

module _ (premises : Premises) (editions : List Edition) (steps : AreSteps premises editions) where
  -- A key with its point kept is as its row before.
  pub record IsAsBefore (key row : KeyRow) : Type 0 where
    pub named : id_of row ≡ id_of key
    pub number : key.number ≡ row.number
    pub this_update : key.this_update ≡ row.this_update
    pub revoked : key.revoked ≡ row.revoked

  pub as-before : (j : ℕ) (before edition : Edition) (first : slice_get editions j ≡ Some before)
      (there : slice_get editions (suc j) ≡ Some edition) (one key : KeyRow)
      → Contains (seen premises editions steps j before first).m.keys one
      → Contains (seen premises editions steps (suc j) edition there).m.keys key → id_of one ≡ id_of key
      → IsAsBefore key (counted (seen premises editions steps j before first).m.plan_input
      (seen premises editions steps j before first).m.keys
      (seen premises editions steps j before first).m.entries one)
  as-before j before edition first there one key was is same =
      let v = seen premises editions steps j before first in
      let w = seen premises editions steps (suc j) edition there in
      let rows : (state_after (take (suc j) editions)).rows ≡ before.rows = rows-before editions j before first in
      let row : KeyRow = counted v.m.plan_input v.m.keys v.m.entries one in
      let named : id_of row ≡ id_of one = id-counted premises (take j editions) before v.m v.view one in
      let inside : Contains (state_after (take (suc j) editions)).rows row =
      subst (λ (l : List KeyRow). Contains l row) (sym rows)
      (key-row premises (take j editions) before v.m v.view one was) in
      let come = on-row premises (take (suc j) editions) edition w.m w.view key is row inside (named ∙ same) in
      let k = row-key premises (take j editions) before v.m v.view come.row
      (subst (λ (l : List KeyRow). Contains l come.row) rows come.live) in
      let keys : k.0 ≡ one = same-key premises (take j editions) before v.m v.view k.0 one k.1 was
      (id-next premises (take j editions) before v.m v.view k.0 come.row k.2 ∙ (come.named ∙ sym same)) in
      let rows_same : come.row ≡ row =
      sym k.2 ∙ ap (counted v.m.plan_input v.m.keys v.m.entries) keys in
      record {
        named = named ∙ same;
        number = come.number ∙ ap (λ (r : KeyRow). r.number) rows_same;
        this_update = come.this_update ∙ ap (λ (r : KeyRow). r.this_update) rows_same;
        revoked = come.revoked ∙ ap (λ (r : KeyRow). r.revoked) rows_same;
      }

  crl-as-before : (m : Issuance) (key row : KeyRow) → IsAsBefore key row
      → keeps_point m.plan_input m.keys key ≡ true
      → crl_of row ≡ crl_of (counted m.plan_input m.keys m.entries key)
  crl-as-before m key row like keeps =
      let of : ℕ → List ℕ → ℕ → List RevokedRow → CrlValue = λ u i n r. crl_value_of u i n r in
      ap (λ (u : ℕ). of u (id_of row) row.number row.revoked) (sym like.this_update)
      ∙ (ap (λ (i : List ℕ). of key.this_update i row.number row.revoked) like.named
      ∙ (ap (λ (n : ℕ). of key.this_update (id_of key) n row.revoked) (sym like.number)
      ∙ (ap (of key.this_update (id_of key) key.number) (sym like.revoked)
      ∙ ap crl_of (sym (counted-kept m key keeps)))))

  -- ---- CRLs that stay

  listing-stays : (j : ℕ) (before edition : Edition) (first : slice_get editions j ≡ Some before)
      (there : slice_get editions (suc j) ≡ Some edition) (d : Draft) (bytes : List ℕ) (l : SignedCrl)
      → IsStood (seen premises editions steps (suc j) edition there).m d bytes → crl_in bytes ≡ Some l
      → IsListing (seen premises editions steps j before first).m d.uri l
      → IsListing (seen premises editions steps (suc j) edition there).m d.uri l
  listing-stays j before edition first there d bytes l old read was =
      let v = seen premises editions steps j before first in
      let w = seen premises editions steps (suc j) edition there in
      let row = old.fit.row in
      let at = w.view.table.each row old.fit.among in
      let same : at.0 ≡ bytes = same_Some at.0 bytes
      (sym at.1 ∙ (ap w.m.old old.fit.at ∙ old.stood)) in
      let what : row.what ≡ Whats.Point = told-crl at.0 row row.what l at.2.told (ap crl_in same ∙ read) in
      elim (point-kind d.kind row.what old.fit.says what) [
        | inr manifest ↦
            let placed : IsPlacedAt w.m d Manifest = subst (IsPlacedAt w.m d) manifest old.placed in
            absurd (crl-no-manifest v.m.plan_input.site w.m.plan_input.site
            (name_at (names_of v.m.plan_input.basis.configs) was.issuer.desk)
            (name_at (names_of w.m.plan_input.basis.configs) d.issuer.desk)
            (id_of was.issuer) (id_of d.issuer) (sym was.at ∙ placed))
        | inl crl ↦
            let placed : IsPlacedAt w.m d Crl = subst (IsPlacedAt w.m d) crl old.placed in
            let name : List ℕ = name_at (names_of v.m.plan_input.basis.configs) was.issuer.desk in
            let other : List ℕ = name_at (names_of w.m.plan_input.basis.configs) d.issuer.desk in
            let sites : v.m.plan_input.site ≡ w.m.plan_input.site = v.view.site ∙ sym w.view.site in
            let ids : id_of was.issuer ≡ id_of d.issuer =
            same-crl-id w.m.plan_input.site name other was.issuer d.issuer
            (ap (λ (b : Bases). crl_uri b name (id_of was.issuer)) (sym sites) ∙ (sym was.at ∙ placed)) in
            let keeps : keeps_point w.m.plan_input w.m.keys d.issuer ≡ true = old.point (ap has_serial crl) in
            record {
              issuer = d.issuer;
              live = old.live;
              at = placed;
              says = was.says ∙ crl-as-before w.m d.issuer _
                  (as-before j before edition first there was.issuer d.issuer was.live old.live ids) keeps;
            }
      ]

  -- Each CRL that stands is one of the edition's keys.
  pub listing : (k : ℕ) (edition : Edition) (there : slice_get editions k ≡ Some edition) (uri bytes : List ℕ)
      (l : SignedCrl) → Stands premises editions steps k uri bytes → crl_in bytes ≡ Some l
      → IsListing (seen premises editions steps k edition there).m uri l
  listing zero edition there uri bytes l stands read =
      let w = seen premises editions steps zero edition there in
      let left = left-at w.m w.view.over w.view.set uri bytes
      (ap (λ (s : Contents). s uri) w.view.new ∙ now premises editions steps zero edition there uri bytes stands) in
      elim (left.3) [
        | inl put ↦ subst (λ (u : List ℕ). IsListing w.m u l) left.2
            (listing-of w.m left.0.uri l (new-listing w.m left.0 bytes l put read))
        | inr old ↦ absurd (none-some bytes (ap (λ (s : Contents). s left.0.uri) (sym w.view.old) ∙ old.stood))
      ]
  listing (suc j) edition there uri bytes l stands read =
      let w = seen premises editions steps (suc j) edition there in
      let left = left-at w.m w.view.over w.view.set uri bytes
      (ap (λ (s : Contents). s uri) w.view.new
      ∙ now premises editions steps (suc j) edition there uri bytes stands) in
      elim (left.3) [
        | inl put ↦ subst (λ (u : List ℕ). IsListing w.m u l) left.2
            (listing-of w.m left.0.uri l (new-listing w.m left.0 bytes l put read))
        | inr old ↦
            let within = slice_get_within editions (suc j) edition there in
            let before = there-is editions j (omega (arith, within)) in
            let stood : Stands premises editions steps j left.0.uri bytes =
            ap (λ (s : Contents). s left.0.uri) (sym w.view.old) ∙ old.stood in
            subst (λ (u : List ℕ). IsListing w.m u l) left.2
            (listing-stays j before.0 edition before.1 there left.0 bytes l old read
            (listing j before.0 before.1 left.0.uri bytes l stood read))
      ]

  -- ---- manifests that stay

  numbering-stays : (j : ℕ) (before edition : Edition) (first : slice_get editions j ≡ Some before)
      (there : slice_get editions (suc j) ≡ Some edition) (d : Draft) (bytes : List ℕ) (x : SignedManifest)
      → IsStood (seen premises editions steps (suc j) edition there).m d bytes → manifest_in bytes ≡ Some x
      → IsNumbering (seen premises editions steps j before first).m d.uri x
      → IsNumbering (seen premises editions steps (suc j) edition there).m d.uri x
  numbering-stays j before edition first there d bytes x old read was =
      let v = seen premises editions steps j before first in
      let w = seen premises editions steps (suc j) edition there in
      let row = old.fit.row in
      let at = w.view.table.each row old.fit.among in
      let same : at.0 ≡ bytes = same_Some at.0 bytes
      (sym at.1 ∙ (ap w.m.old old.fit.at ∙ old.stood)) in
      let what : row.what ≡ Whats.Point = told-manifest at.0 row row.what x at.2.told (ap manifest_in same ∙ read) in
      elim (point-kind d.kind row.what old.fit.says what) [
        | inl crl ↦
            let placed : IsPlacedAt w.m d Crl = subst (IsPlacedAt w.m d) crl old.placed in
            absurd (crl-no-manifest w.m.plan_input.site v.m.plan_input.site
            (name_at (names_of w.m.plan_input.basis.configs) d.issuer.desk)
            (name_at (names_of v.m.plan_input.basis.configs) was.issuer.desk)
            (id_of d.issuer) (id_of was.issuer) (sym placed ∙ was.at))
        | inr manifest ↦
            let placed : IsPlacedAt w.m d Manifest = subst (IsPlacedAt w.m d) manifest old.placed in
            let name : List ℕ = name_at (names_of v.m.plan_input.basis.configs) was.issuer.desk in
            let other : List ℕ = name_at (names_of w.m.plan_input.basis.configs) d.issuer.desk in
            let sites : v.m.plan_input.site ≡ w.m.plan_input.site = v.view.site ∙ sym w.view.site in
            let ids : id_of was.issuer ≡ id_of d.issuer =
            same-id w.m.plan_input.site name other was.issuer d.issuer
            (ap (λ (b : Bases). manifest_uri b name (id_of was.issuer)) (sym sites) ∙ (sym was.at ∙ placed)) in
            let keeps : keeps_point w.m.plan_input w.m.keys d.issuer ≡ true = old.point (ap has_serial manifest) in
            let like = as-before j before edition first there was.issuer d.issuer was.live old.live ids in
            let on : counted w.m.plan_input w.m.keys w.m.entries d.issuer ≡ kept_on w.m d.issuer =
            counted-kept w.m d.issuer keeps in
            record {
              issuer = d.issuer;
              live = old.live;
              at = placed;
              number = was.number ∙ (sym like.number ∙ ap (λ (r : KeyRow). r.number) (sym on));
              moment = was.moment ∙ (sym like.this_update ∙ ap (λ (r : KeyRow). r.this_update) (sym on));
              next = was.next ∙ ap (λ (n : ℕ). n + point_life)
                  (sym like.this_update ∙ ap (λ (r : KeyRow). r.this_update) (sym on));
              issued = was.issued ∙ ids;
            }
      ]

  -- Each manifest that stands is one of the edition's keys.
  pub numbering : (k : ℕ) (edition : Edition) (there : slice_get editions k ≡ Some edition) (uri bytes : List ℕ)
      (x : SignedManifest) → Stands premises editions steps k uri bytes → manifest_in bytes ≡ Some x
      → IsNumbering (seen premises editions steps k edition there).m uri x
  numbering zero edition there uri bytes x stands read =
      let w = seen premises editions steps zero edition there in
      let left = left-at w.m w.view.over w.view.set uri bytes
      (ap (λ (s : Contents). s uri) w.view.new ∙ now premises editions steps zero edition there uri bytes stands) in
      elim (left.3) [
        | inl put ↦ subst (λ (u : List ℕ). IsNumbering w.m u x) left.2
            (numbering-of w.m left.0.uri x (new-numbering w.m left.0 bytes x put read))
        | inr old ↦ absurd (none-some bytes (ap (λ (s : Contents). s left.0.uri) (sym w.view.old) ∙ old.stood))
      ]
  numbering (suc j) edition there uri bytes x stands read =
      let w = seen premises editions steps (suc j) edition there in
      let left = left-at w.m w.view.over w.view.set uri bytes
      (ap (λ (s : Contents). s uri) w.view.new
      ∙ now premises editions steps (suc j) edition there uri bytes stands) in
      elim (left.3) [
        | inl put ↦ subst (λ (u : List ℕ). IsNumbering w.m u x) left.2
            (numbering-of w.m left.0.uri x (new-numbering w.m left.0 bytes x put read))
        | inr old ↦
            let within = slice_get_within editions (suc j) edition there in
            let before = there-is editions j (omega (arith, within)) in
            let stood : Stands premises editions steps j left.0.uri bytes =
            ap (λ (s : Contents). s left.0.uri) (sym w.view.old) ∙ old.stood in
            subst (λ (u : List ℕ). IsNumbering w.m u x) left.2
            (numbering-stays j before.0 edition before.1 there left.0 bytes x old read
            (numbering j before.0 before.1 left.0.uri bytes x stood read))
      ]

  -- ---- each key has a CRL

  pub record HasListing (k : ℕ) (m : Issuance) (key : KeyRow) : Type 0 where
    pub crl : SignedCrl
    pub stands : IsCrlOf (set_after (take (suc k) editions)) (id_of key) crl
    pub says : crl.crl ≡ crl_of (counted m.plan_input m.keys m.entries key)

  -- What stands at the place of a key's CRL is one.
  pub reads-crl : (k : ℕ) (edition : Edition) (there : slice_get editions k ≡ Some edition) (d : Draft) (bytes : List ℕ)
      → d.kind ≡ Crl → IsPut (seen premises editions steps k edition there).m d bytes
      ⊎ IsStood (seen premises editions steps k edition there).m d bytes
      → (l : SignedCrl) × (crl_in bytes ≡ Some l)
  reads-crl k edition there d bytes is (inl put) =
      let w = seen premises editions steps k edition there in
      let object : IsObject w.m d Crl bytes = subst (λ (kind : Kind). IsObject w.m d kind bytes) is put.object in
      (object.crl, object.read)
  reads-crl zero edition there d bytes is (inr old) =
      let w = seen premises editions steps zero edition there in
      absurd (none-some bytes (ap (λ (s : Contents). s d.uri) (sym w.view.old) ∙ old.stood))
  reads-crl (suc j) edition there d bytes is (inr old) =
      let w = seen premises editions steps (suc j) edition there in
      let row = old.fit.row in
      let at = w.view.table.each row old.fit.among in
      let same : at.0 ≡ bytes = same_Some at.0 bytes
      (sym at.1 ∙ (ap w.m.old old.fit.at ∙ old.stood)) in
      let says : Says Crl row.what = subst (λ (kind : Kind). Says kind row.what) is old.fit.says in
      let placed : IsPlacedAt w.m d Crl = subst (IsPlacedAt w.m d) is old.placed in
      elim (told-point at.0 row row.what says at.2.told) [
        | inl crl ↦ (crl.0, ap crl_in (sym same) ∙ crl.1)
        | inr manifest ↦
            let within = slice_get_within editions (suc j) edition there in
            let before = there-is editions j (omega (arith, within)) in
            let stood : Stands premises editions steps j d.uri bytes =
            ap (λ (s : Contents). s d.uri) (sym w.view.old) ∙ old.stood in
            let was = numbering j before.0 before.1 d.uri bytes manifest.0 stood
            (ap manifest_in (sym same) ∙ manifest.1) in
            let v = seen premises editions steps j before.0 before.1 in
            absurd (crl-no-manifest w.m.plan_input.site v.m.plan_input.site
            (name_at (names_of w.m.plan_input.basis.configs) d.issuer.desk)
            (name_at (names_of v.m.plan_input.basis.configs) was.issuer.desk)
            (id_of d.issuer) (id_of was.issuer) (sym placed ∙ was.at))
      ]

  -- What stood at the place of a key's manifest, and stays, is one.
  pub reads-manifest : (j : ℕ) (edition : Edition) (there : slice_get editions (suc j) ≡ Some edition) (d : Draft)
      (bytes : List ℕ) → d.kind ≡ Manifest
      → IsStood (seen premises editions steps (suc j) edition there).m d bytes
      → (x : SignedManifest) × (manifest_in bytes ≡ Some x)
  reads-manifest j edition there d bytes is old =
      let w = seen premises editions steps (suc j) edition there in
      let row = old.fit.row in
      let at = w.view.table.each row old.fit.among in
      let same : at.0 ≡ bytes = same_Some at.0 bytes
      (sym at.1 ∙ (ap w.m.old old.fit.at ∙ old.stood)) in
      let says : Says Manifest row.what = subst (λ (kind : Kind). Says kind row.what) is old.fit.says in
      let placed : IsPlacedAt w.m d Manifest = subst (IsPlacedAt w.m d) is old.placed in
      elim (told-point at.0 row row.what says at.2.told) [
        | inr manifest ↦ (manifest.0, ap manifest_in (sym same) ∙ manifest.1)
        | inl crl ↦
            let within = slice_get_within editions (suc j) edition there in
            let before = there-is editions j (omega (arith, within)) in
            let stood : Stands premises editions steps j d.uri bytes =
            ap (λ (s : Contents). s d.uri) (sym w.view.old) ∙ old.stood in
            let was = listing j before.0 before.1 d.uri bytes crl.0 stood (ap crl_in (sym same) ∙ crl.1) in
            let v = seen premises editions steps j before.0 before.1 in
            absurd (crl-no-manifest v.m.plan_input.site w.m.plan_input.site
            (name_at (names_of v.m.plan_input.basis.configs) was.issuer.desk)
            (name_at (names_of w.m.plan_input.basis.configs) d.issuer.desk)
            (id_of was.issuer) (id_of d.issuer) (sym was.at ∙ placed))
      ]

  bytes-of : (o : Option (List ℕ)) → is_some o ≡ true → (bytes : List ℕ) × (o ≡ Some bytes)
  bytes-of None e = absurd cc
  bytes-of (Some bytes) e = (bytes, refl)

  abbrev seen_m : (k : ℕ) (edition : Edition) → slice_get editions k ≡ Some edition → Issuance
  seen_m k edition there = (seen premises editions steps k edition there).m

  -- The drafts of a key's CRL and manifest, and what stands there.
  abbrev pub crl_for : Issuance → KeyRow → Draft
  crl_for m key = record {
    uri = crl_uri m.plan_input.site (name_at (names_of m.plan_input.basis.configs) key.desk) (id_of key);
    issuer = key;
    kind = Crl;
  }

  abbrev pub manifest_for : Issuance → KeyRow → Draft
  manifest_for m key = record {
    uri = manifest_uri m.plan_input.site (name_at (names_of m.plan_input.basis.configs) key.desk) (id_of key);
    issuer = key;
    kind = Manifest;
  }

  pub record HasDraft (m : Issuance) (d : Draft) : Type 0 where
    pub among : Contains (all_objects m.plan_input m.keys) d
    pub bytes : List ℕ
    pub there : m.new d.uri ≡ Some bytes
    pub leaves : IsPut m d bytes ⊎ IsStood m d bytes

  with-bytes : (k : ℕ) (edition : Edition) (there : slice_get editions k ≡ Some edition) (d : Draft)
      → Contains (all_objects (seen_m k edition there).plan_input (seen_m k edition there).keys) d
      → HasDraft (seen_m k edition there) d
  with-bytes k edition there d among =
      let w = seen premises editions steps k edition there in
      let some : is_some (w.m.new d.uri) ≡ true =
      (w.view.set.places d.uri).1 (among.0, d, among.1, among.2, refl) in
      let bytes = bytes-of (w.m.new d.uri) some in
      record {
        among = among;
        bytes = bytes.0;
        there = bytes.1;
        leaves = left-draft w.m w.view.over w.view.set d among bytes.0 bytes.1;
      }

  own-name : (k : ℕ) (edition : Edition) (there : slice_get editions k ≡ Some edition) (key : KeyRow)
      → Contains (seen_m k edition there).keys key
      → key_named (wanted.there (seen_m k edition there).keys) (kept key).name ≡ Some key
  own-name k edition there key c =
      let w = seen premises editions steps k edition there in
      let named = self-named w.m.keys key c in
      named.1 ∙ ap (λ (r : KeyRow). Some r)
      (same-key premises (take k editions) edition w.m w.view named.0 key named.2 c named.3)

  own-point : (k : ℕ) (edition : Edition) (there : slice_get editions k ≡ Some edition) (key : KeyRow)
      → Contains (seen_m k edition there).keys key
      → Contains (all_points (seen_m k edition there).keys) (point_of (kept key))
  own-point k edition there key c =
      let keys : List KeyRow = (seen_m k edition there).keys in
      into-map point_of (map kept keys) (kept key) (into-map kept keys key c)

  pub crl-drafted : (k : ℕ) (edition : Edition) (there : slice_get editions k ≡ Some edition) (key : KeyRow)
      → Contains (seen_m k edition there).keys key
      → HasDraft (seen_m k edition there) (crl_for (seen_m k edition there) key)
  crl-drafted k edition there key c =
      let m : Issuance = seen_m k edition there in
      let s = whole m.plan_input m.keys in
      let make : KeyRow → Draft = λ issuer. crl_for m issuer in
      let d : Draft = crl_for m key in
      let is : crl_draft s (wanted.there m.keys) (point_of (kept key)) ≡ Some d =
      ap (option_map make) (own-name k edition there key c) in
      let crls : List Draft = filter_map (crl_draft s (wanted.there m.keys)) (all_points m.keys) in
      let certs : List Draft = filter_map (certificate_draft s (wanted.there m.keys)) (all_certificates m.plan_input m.keys) in
      let roas : List Draft = filter_map (roa_draft s (wanted.there m.keys)) (all_roas m.plan_input m.keys) in
      let here : Contains crls d =
      into-filter_map (crl_draft s (wanted.there m.keys)) (all_points m.keys) (point_of (kept key)) d
      (own-point k edition there key c) is in
      with-bytes k edition there d
      (Contains-append_left (drafts s (wanted.there m.keys)) (manifests s (wanted.there m.keys)) d
      (Contains-append_right (certs ++ roas) crls d here))

  pub manifest-drafted : (k : ℕ) (edition : Edition) (there : slice_get editions k ≡ Some edition) (key : KeyRow)
      → Contains (seen_m k edition there).keys key
      → HasDraft (seen_m k edition there) (manifest_for (seen_m k edition there) key)
  manifest-drafted k edition there key c =
      let m : Issuance = seen_m k edition there in
      let s = whole m.plan_input m.keys in
      let make : KeyRow → Draft = λ issuer. manifest_for m issuer in
      let d : Draft = manifest_for m key in
      let is : manifest_draft s (wanted.there m.keys) (point_of (kept key)) ≡ Some d =
      ap (option_map make) (own-name k edition there key c) in
      let here : Contains (manifests s (wanted.there m.keys)) d =
      into-filter_map (manifest_draft s (wanted.there m.keys)) (all_points m.keys) (point_of (kept key)) d
      (own-point k edition there key c) is in
      with-bytes k edition there d
      (Contains-append_right (drafts s (wanted.there m.keys)) (manifests s (wanted.there m.keys)) d here)

  pub has-listing : (k : ℕ) (edition : Edition) (there : slice_get editions k ≡ Some edition) (key : KeyRow)
      → Contains (seen_m k edition there).keys key → HasListing k (seen_m k edition there) key
  has-listing k edition there key c =
      let w = seen premises editions steps k edition there in
      let m : Issuance = w.m in
      let d : Draft = crl_for m key in
      let has = crl-drafted k edition there key c in
      let read = reads-crl k edition there d has.bytes refl has.leaves in
      let stands : Stands premises editions steps k d.uri has.bytes =
      ap (λ (set : Contents). set d.uri) (sym (set-before editions k edition there))
      ∙ (ap (λ (set : Contents). set d.uri) (sym w.view.new) ∙ has.there) in
      let l = listing k edition there d.uri has.bytes read.0 stands read.1 in
      let names : List NameRow = names_of m.plan_input.basis.configs in
      let ids : id_of l.issuer ≡ id_of key =
      same-crl-id m.plan_input.site (name_at names l.issuer.desk) (name_at names key.desk) l.issuer key (sym l.at) in
      let keys : l.issuer ≡ key = same-key premises (take k editions) edition m w.view l.issuer key l.live c ids in
      let says : read.0.crl ≡ crl_of (counted m.plan_input m.keys m.entries key) =
      l.says ∙ ap (λ (r : KeyRow). crl_of (counted m.plan_input m.keys m.entries r)) keys in
      record {
        crl = read.0;
        stands = record {
          uri = d.uri;
          bytes = has.bytes;
          there = stands;
          read = read.1;
          issuer = ap (λ (v : CrlValue). v.issuer) says ∙ id-counted premises (take k editions) edition m w.view key;
        };
        says = says;
      }

  -- ---- the moment of a key's point

  abbrev at_seen : (k : ℕ) (edition : Edition) → slice_get editions k ≡ Some edition → Issuance
  at_seen k edition there = (seen premises editions steps k edition there).m

  updated-by : (k : ℕ) (edition : Edition) (there : slice_get editions k ≡ Some edition) (row key : KeyRow)
      → Contains (at_seen k edition there).keys key
      → counted (at_seen k edition there).plan_input (at_seen k edition there).keys
      (at_seen k edition there).entries key ≡ row
      → (b : Bool) → keeps_point (at_seen k edition there).plan_input (at_seen k edition there).keys key ≡ b
      → row.this_update ≤ edition.moment
  updated-by k edition there row key among is false isnt =
      let w = seen premises editions steps k edition there in
      let e = ap (λ (r : KeyRow). r.this_update) (sym is ∙ counted-anew w.m key isnt) in
      let moment = w.view.moment in
      omega (arith, e, moment)
  updated-by zero edition there row key among is true keeps =
      let w = seen premises editions steps zero edition there in
      let e = ap (λ (r : KeyRow). r.this_update) (sym is ∙ counted-kept w.m key keeps) in
      elim (came premises (take zero editions) edition w.m w.view key among) [
        | inl come ↦ absurd (none come.row come.live)
        | inr new ↦ let start = new.this_update in omega (arith, e, start)
      ]
  updated-by (suc j) edition there row key among is true keeps =
      let w = seen premises editions steps (suc j) edition there in
      let e = ap (λ (r : KeyRow). r.this_update) (sym is ∙ counted-kept w.m key keeps) in
      elim (came premises (take (suc j) editions) edition w.m w.view key among) [
        | inl come ↦
            let within = slice_get_within editions (suc j) edition there in
            let before = there-is editions j (omega (arith, within)) in
            let rows : (state_after (take (suc j) editions)).rows ≡ before.0.rows =
            rows-before editions j before.0 before.1 in
            let v = seen premises editions steps j before.0 before.1 in
            let was = row-key premises (take j editions) before.0 v.m v.view come.row
            (subst (λ (l : List KeyRow). Contains l come.row) rows come.live) in
            let least = updated-by j before.0 before.1 come.row was.0 was.1 was.2
            (keeps_point v.m.plan_input v.m.keys was.0) refl in
            let later = rises premises editions steps (suc j) edition there in
            let moment = moment-before editions j before.0 before.1 in
            let same = come.this_update in
            omega (arith, e, same, least, later, moment)
        | inr new ↦ let start = new.this_update in omega (arith, e, start)
      ]

  -- It isn't later than the edition.
  pub updated : (k : ℕ) (edition : Edition) (there : slice_get editions k ≡ Some edition) (row : KeyRow)
      → Contains edition.rows row → row.this_update ≤ edition.moment
  updated k edition there row c =
      let w = seen premises editions steps k edition there in
      let key = row-key premises (take k editions) edition w.m w.view row c in
      updated-by k edition there row key.0 key.1 key.2 (keeps_point w.m.plan_input w.m.keys key.0) refl
