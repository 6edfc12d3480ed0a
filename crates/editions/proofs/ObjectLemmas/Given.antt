-- The certificates and the CRLs in the set of an edition: who issued them, with which serials.
use Rattle.std.proofs.Common.{◌≡◌, ◌≢◌, ℕ, ◌+◌, ◌<◌, ◌≤◌, Bool, true, false, cond, not, ◌&&◌, ◌==◌, Option, Some, None, List, [], ◌∷◌, ◌++◌, refl, sym, ap, subst, ◌∙◌, arith, ◌⊎◌, inl, inr, append_assoc}
use Rattle.std.specs.Prelude.{Contains, codes, count_by}
use Rattle.std.specs.List.{list_all}
use Rattle.std.specs.Ordering.{is_lt, is_eq, ordering_reverse}
use Rattle.std.specs.declared.cmp.Ordering.{Ordering}
use Rattle.std.specs.declared.cmp.Ordering.TheVariants.{Less, Equal, Greater}
use Rattle.std.proofs.lemmas.Bool.{and_parts, and_from, and_right, not-true, eq-eqb, true≢false}
use Rattle.std.proofs.lemmas.Cmp.{tied_itself}
use Rattle.std.proofs.lemmas.Option.{same_Some, none-some}
use Rattle.std.proofs.lemmas.List.{append_cancel_left}
use Rattle.std.proofs.lemmas.Slice.Eq.{bytes_eq-Decides}
use Rattle.key_roll.specs.declared.rows.KeyRow.{KeyRow}
use Rattle.key_ids.specs.Uris.{Bases, anchor_uri, file_uri, manifest_uri, cert_uri}
use Rattle.cert_obj.specs.Values.{CertValue, SignedCert, is_issued}
use Rattle.cms_obj.specs.declared.values.ObjectKind.{ObjectKind}
use Rattle.cms_obj.specs.Values.{ObjectValue}
use Rattle.pub_set.specs.Objects.{uri_cmp}
use Rattle.rp_rules.specs.Objects.{Signed, such, signed_with, signed_of, certificate_in, object_in, is_anchors, is_entitys, is_manifest, is_roa, manifest_in, roa_in, value_in, SignedManifest, SignedRoa}
use Rattle.payloads.specs.ManifestReading.{manifest_read}
use Rattle.payloads.specs.RoaReading.{roa_read}
use Rattle.issue_values.specs.Certificates as values
use Rattle.entitle.specs.Certified.{names_of}
use Rattle.issue_keys.specs.Keys.{id_of}
use Rattle.issue_drafts.specs.WorkKeys.{Keys}
use Rattle.issue_drafts.specs.IssueInput.{IssueInput}
use Rattle.issue_drafts.specs.Publishers.{is_key, name_at, publishing_of}
use Rattle.issue_drafts.specs.Drafts.{Draft, Kind, has_serial, is_numbered, serial_at, serial_behind}
use Rattle.issue_drafts.specs.Drafts.Kind.{Certificate, Roa, Crl, Manifest}
use Rattle.pub_set.specs.laws.UriLaws.{same_is as same-is, uri_total}
use Rattle.issue_sign.specs.Objects.{certificate_with, number_of}
use Rattle.editions.specs.Held.{HasCertificate, certificate_inside}
use Rattle.editions.specs.Wanted.{there, whole, new_objects, keeps_point}
use Rattle.editions.specs.Objects.{Issuance, IsObject}
use Rattle.editions.specs.Step.{counted}
use Rattle.editions.proofs.ObjectLemmas.OneKind.{with-certificate, with-crl, certificate-no-crl, certificate-no-object}
use Rattle.items.specs.laws.ElementLaws.{count-less}
use Rattle.editions.proofs.ObjectLemmas.Standing.{IsPlacedAt, IsPut}

-- ---- no file of a folder stands at the trust anchor's place

has-slash : (text name rest : List ℕ) → name ++ (47 ∷ rest) ≡ text
    → list_all (λ b. not (b == 47)) text ≡ true → ⊥
has-slash [] [] rest e all = absurd cc
has-slash [] (a ∷ name) rest e all = absurd cc
has-slash (t ∷ text) [] rest e all =
    let first : 47 ≡ t = cc in
    let other = and_parts (not (t == 47)) (list_all (λ b. not (b == 47)) text) all in
    true≢false (sym (eq-eqb t 47 (sym first)) ∙ not-true (t == 47) other.0)
has-slash (t ∷ text) (a ∷ name) rest e all =
    let tails : name ++ (47 ∷ rest) ≡ text = cc in
    has-slash text name rest tails
    (and_parts (not (t == 47)) (list_all (λ b. not (b == 47)) text) all).1

pub file-no-anchor : (site : Bases) (name file : List ℕ)
    → file_uri site name file ≢ anchor_uri site
file-no-anchor site name file = λ e.
    let whole : site.rsync ++ (name ++ (codes "/0/" ++ file)) ≡ site.rsync ++ codes "ta.cer" =
    sym (append_assoc site.rsync name (codes "/0/" ++ file))
    ∙ (sym (append_assoc (site.rsync ++ name) (codes "/0/") file) ∙ e) in
    has-slash (codes "ta.cer") name (48 ∷ 47 ∷ file)
    (append_cancel_left site.rsync (name ++ (codes "/0/" ++ file)) (codes "ta.cer") whole) refl

-- ---- the certificate that bytes have

pub own-certificate : (bytes : List ℕ) (x c : SignedCert) → certificate_in bytes ≡ Some x
    → HasCertificate bytes c → x ≡ c
own-certificate bytes x c is (inl e) = same_Some x c (sym is ∙ e)
own-certificate bytes x c is (inr e) =
    absurd (none-some c (sym (ap certificate_inside (with-certificate bytes x is).1) ∙ e))

pub inside-certificate : (bytes : List ℕ) (o : ObjectValue) (x c : SignedCert)
    → object_in bytes ≡ Some o → certificate_in o.certificate ≡ Some x
    → HasCertificate bytes c → x ≡ c
inside-certificate bytes o x c object is (inl e) =
    absurd (certificate-no-object bytes c o e object)
inside-certificate bytes o x c object is (inr e) =
    same_Some x c (sym is ∙ (sym (ap certificate_inside object) ∙ e))

-- A signed object that is read: what it is, and its certificate.
pub record IsRead {Body : Type 0} (is_kind : ObjectKind → Bool) (o : Option ObjectValue)
    (x : Signed Body) : Type 0 where
  pub object : o ≡ Some x.object
  pub kind : is_kind x.object.kind ≡ true
  pub certificate : certificate_in x.object.certificate ≡ Some x.certificate

pub is-read : {Body : Type 0} (is_kind : ObjectKind → Bool) (body : List ℕ → Option Body)
    (o : Option ObjectValue) (x : Signed Body) → signed_of is_kind body o ≡ Some x
    → IsRead is_kind o x
is-read is_kind body None x e = absurd cc
is-read {Body} is_kind body (Some object) x e = by (is_kind object.kind) refl e
  where
    passed : (t : Bool) (c : SignedCert) (b : Option Body)
        → is_kind object.kind ≡ true → certificate_in object.certificate ≡ Some c
        → signed_with object (cond t (Some c) None) b ≡ Some x
        → IsRead is_kind (Some object) x
    passed false c b kind is e = absurd cc
    passed true c None kind is e = absurd cc
    passed true c (Some b) kind is e =
        let made : Signed Body = record { object = object; certificate = c; body = b } in
        subst (IsRead is_kind (Some object)) (same_Some made x e)
        (record { object = refl; kind = kind; certificate = is })

    with : (oc : Option SignedCert) (b : Option Body)
        → is_kind object.kind ≡ true → certificate_in object.certificate ≡ oc
        → signed_with object (such is_entitys oc) b ≡ Some x
        → IsRead is_kind (Some object) x
    with None b kind is e = absurd cc
    with (Some c) b kind is e = passed (is_entitys c) c b kind is e

    by : (t : Bool) → is_kind object.kind ≡ t
        → cond t (signed_with object (such is_entitys (certificate_in object.certificate))
        (body object.content)) None ≡ Some x
        → IsRead is_kind (Some object) x
    by false kind e = absurd cc
    by true kind e = with (certificate_in object.certificate) (body object.content) kind refl e

pub roa-read : (bytes : List ℕ) (x : SignedRoa) → roa_in bytes ≡ Some x
    → IsRead is_roa (object_in bytes) x
roa-read bytes x e = is-read is_roa (λ content. value_in (roa_read content)) (object_in bytes) x e

pub manifest-read : (bytes : List ℕ) (x : SignedManifest) → manifest_in bytes ≡ Some x
    → IsRead is_manifest (object_in bytes) x
manifest-read bytes x e =
    is-read is_manifest (λ content. value_in (manifest_read content)) (object_in bytes) x e

-- ---- serials

pub record IsNumberedAt (m : Issuance) (uri : List ℕ) (issuer : KeyRow) (n : ℕ) : Type 0 where
  pub draft : Draft
  pub among : Contains (new_objects m.plan_input m.keys) draft
  pub at : draft.uri ≡ uri
  pub numbered : is_numbered issuer draft ≡ true
  pub serial : n ≡ serial_at (new_objects m.plan_input m.keys) issuer uri

pub record IsBehindAt (m : Issuance) (uri : List ℕ) (issuer : KeyRow) (n : ℕ) : Type 0 where
  pub at : uri ≡ manifest_uri m.plan_input.site
      (name_at (names_of m.plan_input.basis.configs) issuer.desk) (id_of issuer)
  pub serial : n ≡ serial_behind (new_objects m.plan_input m.keys) issuer
  pub fresh : keeps_point m.plan_input m.keys issuer ≡ false

-- A certificate that the key issued in the edition.
pub record IsGiven (m : Issuance) (uri : List ℕ) (c : SignedCert) : Type 0 where
  pub issuer : KeyRow
  pub live : Contains m.keys issuer
  pub named : c.cert.issuer ≡ id_of issuer
  pub serial : IsNumberedAt m uri issuer c.cert.serial ⊎ IsBehindAt m uri issuer c.cert.serial
  pub anchor : uri ≡ anchor_uri m.plan_input.site → is_anchors c ≡ true
  pub other : uri ≢ anchor_uri m.plan_input.site → is_anchors c ≡ false

anchor-by : (b : Bool) (x y : CertValue) (uri a o : List ℕ) → uri ≡ cond b a o → o ≢ a
    → not (is_issued x.kind) ≡ true → not (is_issued y.kind) ≡ false
    → (uri ≡ a → not (is_issued (cond b x y).kind) ≡ true)
    × (uri ≢ a → not (is_issued (cond b x y).kind) ≡ false)
anchor-by true x y uri a o at apart first second = (λ is. first, λ no. absurd (no at))
anchor-by false x y uri a o at apart first second =
    (λ is. absurd (apart (sym at ∙ is)), λ no. second)

fields-by : (b : Bool) (x y : CertValue) (n : ℕ) (id : List ℕ) → x.serial ≡ n → y.serial ≡ n
    → x.issuer ≡ id → y.issuer ≡ id
    → ((cond b x y).serial ≡ n) × ((cond b x y).issuer ≡ id)
fields-by true x y n id one two three four = (one, three)
fields-by false x y n id one two three four = (two, four)

own-key : (key : KeyRow) → is_key key key ≡ true
own-key key = (bytes_eq-Decides (id_of key) (id_of key)).1 refl

-- The certificate of an entity, of which the value is known.
entity-given : (m : Issuance) (d : Draft) (c : SignedCert) (value : CertValue)
    → Contains m.keys d.issuer → c.cert ≡ value → value.issuer ≡ id_of d.issuer
    → is_issued value.kind ≡ true
    → IsNumberedAt m d.uri d.issuer value.serial ⊎ IsBehindAt m d.uri d.issuer value.serial
    → d.uri ≢ anchor_uri m.plan_input.site → IsGiven m d.uri c
entity-given m d c value live says issuer kind serial apart = record {
  issuer = d.issuer;
  live = live;
  named = ap (λ (v : CertValue). v.issuer) says ∙ issuer;
  serial = subst (λ (v : CertValue). IsNumberedAt m d.uri d.issuer v.serial
      ⊎ IsBehindAt m d.uri d.issuer v.serial) (sym says) serial;
  anchor = λ is. absurd (apart is);
  other = λ no. ap (λ (v : CertValue). not (is_issued v.kind)) says ∙ ap not kind;
}

given-by : (m : Issuance) (d : Draft) (kind : Kind) (bytes : List ℕ) (c : SignedCert)
    → d.kind ≡ kind → Contains m.keys d.issuer → IsPlacedAt m d kind → IsObject m d kind bytes
    → (has_serial kind ≡ true → Contains (new_objects m.plan_input m.keys) d)
    → (has_serial kind ≡ false → keeps_point m.plan_input m.keys d.issuer ≡ false)
    → HasCertificate bytes c → IsGiven m d.uri c
given-by m d (Certificate subject held) bytes c is live placed object among point has =
    let s : IssueInput = whole m.plan_input m.keys in
    let keys : Keys = there m.keys in
    let n : ℕ = serial_at (new_objects m.plan_input m.keys) d.issuer d.uri in
    let one : CertValue = values.anchor_certificate s.site s.work.moment
    (publishing_of s keys d.issuer) held n in
    let two : CertValue = values.authority_certificate s.site s.work.moment
    (publishing_of s keys d.issuer) (publishing_of s keys subject) held n in
    let same = own-certificate bytes object.certificate c object.read has in
    let says : c.cert ≡ certificate_with s keys d.issuer subject held n =
    ap (λ (x : SignedCert). x.cert) (sym same) ∙ object.issued.says in
    let fields = fields-by (is_key d.issuer subject) one two n (id_of d.issuer) refl refl refl refl in
    let anchors = anchor-by (is_key d.issuer subject) one two d.uri (anchor_uri s.site)
    (cert_uri s.site (name_at s.names d.issuer.desk) (id_of subject)) placed
    (file-no-anchor s.site (name_at s.names d.issuer.desk) _) refl refl in
    record {
      issuer = d.issuer;
      live = live;
      named = ap (λ (v : CertValue). v.issuer) says ∙ fields.1;
      serial = inl (record {
        draft = d;
        among = among refl;
        at = refl;
        numbered = and_from (is_key d.issuer d.issuer) (has_serial d.kind) (own-key d.issuer)
            (ap has_serial is);
        serial = ap (λ (v : CertValue). v.serial) says ∙ fields.0;
      });
      anchor = λ at. ap (λ (v : CertValue). not (is_issued v.kind)) says ∙ anchors.0 at;
      other = λ no. ap (λ (v : CertValue). not (is_issued v.kind)) says ∙ anchors.1 no;
    }
given-by m d (Roa origin) bytes c is live placed object among point has =
    let s : IssueInput = whole m.plan_input m.keys in
    let read = roa-read bytes object.roa object.read in
    let same = inside-certificate bytes object.roa.object object.roa.certificate c read.object
    read.certificate has in
    let value : CertValue = values.roa_certificate s.site s.work.moment
    (publishing_of s (there m.keys) d.issuer) object.roa.certificate.cert.key origin.prefix d.uri
    (serial_at (new_objects m.plan_input m.keys) d.issuer d.uri) in
    let says : c.cert ≡ value =
    ap (λ (x : SignedCert). x.cert) (sym same) ∙ object.signed.certificate.says in
    entity-given m d c value live says refl refl
    (inl (record {
      draft = d;
      among = among refl;
      at = refl;
      numbered = and_from (is_key d.issuer d.issuer) (has_serial d.kind) (own-key d.issuer)
          (ap has_serial is);
      serial = refl;
    }))
    (λ at. file-no-anchor s.site (name_at s.names d.issuer.desk) _ (sym placed ∙ at))
given-by m d Crl bytes c is live placed object among point (inl e) =
    absurd (certificate-no-crl bytes c object.crl e object.read)
given-by m d Crl bytes c is live placed object among point (inr e) =
    absurd (none-some c (sym (ap certificate_inside (with-crl bytes object.crl object.read).1) ∙ e))
given-by m d Manifest bytes c is live placed object among point has =
    let s : IssueInput = whole m.plan_input m.keys in
    let read = manifest-read bytes object.manifest object.read in
    let same = inside-certificate bytes object.manifest.object object.manifest.certificate c
    read.object read.certificate has in
    let value : CertValue = values.manifest_certificate s.site s.work.moment
    (publishing_of s (there m.keys) d.issuer) object.manifest.certificate.cert.key
    (serial_behind (new_objects m.plan_input m.keys) d.issuer) in
    let says : c.cert ≡ value =
    ap (λ (x : SignedCert). x.cert) (sym same) ∙ object.signed.certificate.says in
    entity-given m d c value live says refl refl
    (inr (record { at = placed; serial = refl; fresh = point refl }))
    (λ at. file-no-anchor s.site (name_at s.names d.issuer.desk) _ (sym placed ∙ at))

-- What the edition made.
pub given : (m : Issuance) (d : Draft) (bytes : List ℕ) (c : SignedCert) → IsPut m d bytes
    → HasCertificate bytes c → IsGiven m d.uri c
given m d bytes c put has =
    given-by m d d.kind bytes c refl put.live put.placed put.object put.among put.point has

-- It's the draft's issuer.
given-issuer : (m : Issuance) (d : Draft) (kind : Kind) (bytes : List ℕ) (c : SignedCert)
    (is : d.kind ≡ kind) (live : Contains m.keys d.issuer) (placed : IsPlacedAt m d kind)
    (object : IsObject m d kind bytes)
    (among : has_serial kind ≡ true → Contains (new_objects m.plan_input m.keys) d)
    (point : has_serial kind ≡ false → keeps_point m.plan_input m.keys d.issuer ≡ false)
    (has : HasCertificate bytes c)
    → (given-by m d kind bytes c is live placed object among point has).issuer ≡ d.issuer
unfolding given-by entity-given
given-issuer m d (Certificate subject held) bytes c is live placed object among point has = refl
given-issuer m d (Roa origin) bytes c is live placed object among point has = refl
given-issuer m d Crl bytes c is live placed object among point (inl e) =
    absurd (certificate-no-crl bytes c object.crl e object.read)
given-issuer m d Crl bytes c is live placed object among point (inr e) =
    absurd (none-some c (sym (ap certificate_inside (with-crl bytes object.crl object.read).1) ∙ e))
given-issuer m d Manifest bytes c is live placed object among point has = refl

pub issued-by : (m : Issuance) (d : Draft) (bytes : List ℕ) (c : SignedCert) → IsPut m d bytes
    → HasCertificate bytes c → c.cert.issuer ≡ id_of d.issuer
unfolding given given-by
issued-by m d bytes c put has =
    (given m d bytes c put has).named
    ∙ ap id_of (given-issuer m d d.kind bytes c refl put.live put.placed put.object put.among put.point has)

-- ---- the serials that an edition gives

-- What becomes of a key, as its point is kept or not.
next-by : (b : Bool) (kept made : KeyRow) (n : ℕ) → kept.next_serial ≡ n → made.next_serial ≡ n + 1
    → n ≤ (cond b kept made).next_serial
next-by true kept made n one two = omega (arith, one)
next-by false kept made n one two = omega (arith, two)

-- A key with its point kept, and with a new one.
abbrev pub kept_on : Issuance → KeyRow → KeyRow
kept_on m key = record key { next_serial = serial_behind (new_objects m.plan_input m.keys) key }

abbrev pub pointed_anew : Issuance → KeyRow → KeyRow
pointed_anew m key = record key {
  next_serial = serial_behind (new_objects m.plan_input m.keys) key + 1;
  number = number_of key;
  this_update = m.plan_input.basis.moment;
  revoked = m.entries key;
}

pub counted-kept : (m : Issuance) (key : KeyRow) → keeps_point m.plan_input m.keys key ≡ true
    → counted m.plan_input m.keys m.entries key ≡ kept_on m key
counted-kept m key keeps = ap (λ (b : Bool). cond b (kept_on m key) (pointed_anew m key)) keeps

pub counted-anew : (m : Issuance) (key : KeyRow) → keeps_point m.plan_input m.keys key ≡ false
    → counted m.plan_input m.keys m.entries key ≡ pointed_anew m key
counted-anew m key isnt = ap (λ (b : Bool). cond b (kept_on m key) (pointed_anew m key)) isnt

pub behind-to : (m : Issuance) (key : KeyRow)
    → serial_behind (new_objects m.plan_input m.keys) key ≤ (counted m.plan_input m.keys m.entries key).next_serial
behind-to m key = next-by (keeps_point m.plan_input m.keys key) (kept_on m key) (pointed_anew m key)
    (serial_behind (new_objects m.plan_input m.keys) key) refl refl

behind-next : (m : Issuance) (key : KeyRow) → keeps_point m.plan_input m.keys key ≡ false
    → (counted m.plan_input m.keys m.entries key).next_serial
    ≡ serial_behind (new_objects m.plan_input m.keys) key + 1
behind-next m key isnt = ap (λ (k : KeyRow). k.next_serial) (counted-anew m key isnt)

pub serial-from : (m : Issuance) (uri : List ℕ) (issuer : KeyRow) (n : ℕ)
    → IsNumberedAt m uri issuer n ⊎ IsBehindAt m uri issuer n → issuer.next_serial ≤ n
serial-from m uri issuer n (inl is) = let e = is.serial in omega (arith, e)
serial-from m uri issuer n (inr is) = let e = is.serial in omega (arith, e)

abbrev before-it : KeyRow → List ℕ → Draft → Bool
before-it key uri d = is_numbered key d && is_lt (uri_cmp d.uri uri)

-- One that is numbered stands before none that isn't below it.
not-before : (key : KeyRow) (uri : List ℕ) (d : Draft) → d.uri ≡ uri
    → before-it key uri d ≡ false
not-before key uri d at =
    and_right (is_numbered key d) (is_lt (uri_cmp d.uri uri))
    (ap (λ (u : List ℕ). is_lt (uri_cmp u uri)) at ∙ ap is_lt (tied_itself uri_total uri))

-- A numbered serial is below that of the manifest.
numbered-below : (m : Issuance) (uri : List ℕ) (issuer : KeyRow) (n : ℕ)
    → IsNumberedAt m uri issuer n → n < serial_behind (new_objects m.plan_input m.keys) issuer
numbered-below m uri issuer n is =
    let all : List Draft = new_objects m.plan_input m.keys in
    let less : count_by (before-it issuer uri) all < count_by (is_numbered issuer) all =
    count-less (before-it issuer uri) (is_numbered issuer)
    (λ d e. (and_parts (is_numbered issuer d) (is_lt (uri_cmp d.uri uri)) e).0) all is.draft
    is.among (not-before issuer uri is.draft is.at) is.numbered in
    let e = is.serial in
    omega (arith, e, less)

-- A serial that is given is below the next one of the key behind the edition.
pub serial-to : (m : Issuance) (uri : List ℕ) (issuer : KeyRow) (n : ℕ)
    → IsNumberedAt m uri issuer n ⊎ IsBehindAt m uri issuer n
    → n < (counted m.plan_input m.keys m.entries issuer).next_serial
serial-to m uri issuer n (inl is) =
    let less = numbered-below m uri issuer n is in
    let most = behind-to m issuer in
    omega (arith, less, most)
serial-to m uri issuer n (inr is) =
    let e = is.serial in
    let next = behind-next m issuer is.fresh in
    omega (arith, e, next)

pub is-less : (o : Ordering) → is_lt o ≡ true → o ≡ Less
is-less Less e = refl
is-less Equal e = absurd cc
is-less Greater e = absurd cc

-- Of two places the first one has the lesser serial.
first-less : (m : Issuance) (one two : List ℕ) (issuer : KeyRow) (n k : ℕ)
    → IsNumberedAt m one issuer n → IsNumberedAt m two issuer k → uri_cmp one two ≡ Less → n < k
first-less m one two issuer n k is other order =
    let all : List Draft = new_objects m.plan_input m.keys in
    let less : count_by (before-it issuer one) all < count_by (before-it issuer two) all =
    count-less (before-it issuer one) (before-it issuer two)
    (λ d e.
    let p = and_parts (is_numbered issuer d) (is_lt (uri_cmp d.uri one)) e in
    and_from (is_numbered issuer d) (is_lt (uri_cmp d.uri two)) p.0
    (ap is_lt (uri_total.trans d.uri one two (is-less (uri_cmp d.uri one) p.1) order)))
    all is.draft is.among (not-before issuer one is.draft is.at)
    (and_from (is_numbered issuer is.draft) (is_lt (uri_cmp is.draft.uri two)) is.numbered
    (ap is_lt (ap (λ (u : List ℕ). uri_cmp u two) is.at ∙ order))) in
    let e = is.serial in
    let f = other.serial in
    omega (arith, e, f, less)

pub one-place : (m : Issuance) (one two : List ℕ) (issuer : KeyRow) (n : ℕ)
    → IsNumberedAt m one issuer n ⊎ IsBehindAt m one issuer n
    → IsNumberedAt m two issuer n ⊎ IsBehindAt m two issuer n → one ≡ two
one-place m one two issuer n (inl is) (inl other) = by (uri_cmp one two) refl
  where
    by : (o : Ordering) → uri_cmp one two ≡ o → one ≡ two
    by Less e = let less = first-less m one two issuer n n is other e in absurd (omega (arith, less))
    by Equal e = same-is one two (ap is_eq e)
    by Greater e =
        let turned : uri_cmp two one ≡ Less = uri_total.antisymm two one ∙ ap ordering_reverse e in
        let less = first-less m two one issuer n n other is turned in
        absurd (omega (arith, less))
one-place m one two issuer n (inl is) (inr other) =
    let less = numbered-below m one issuer n is in
    let e = other.serial in
    absurd (omega (arith, less, e))
one-place m one two issuer n (inr is) (inl other) =
    let less = numbered-below m two issuer n other in
    let e = is.serial in
    absurd (omega (arith, less, e))
one-place m one two issuer n (inr is) (inr other) = is.at ∙ sym other.at
