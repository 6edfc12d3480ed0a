-- What is signed is what the draft says.
use Rattle.std.proofs.Common.{◌≡◌, ℕ, ◌<◌, Bool, true, false, List, length, get_or, map, refl, sym, ap, subst, ◌∙◌, Bor}
use Rattle.std.specs.Prelude.{if◌then◌else◌, Result, Ok, Err, IfOk}
use Rattle.std.specs.Str.{bytes_eq}
use Rattle.std.proofs.lemmas.List.{get_or-map}
use Rattle.res_sets.specs.declared.holdings.Resources.{Resources}
use Rattle.origins.specs.declared.Origin.{Origin}
use Rattle.key_roll.specs.declared.rows.KeyRow.{KeyRow}
use Rattle.cert_obj.specs.declared.values.Cert.{Cert}
use Rattle.cert_obj.specs.Values.{CertValue, cert_value}
use Rattle.crl_obj.specs.declared.values.Crl.{Crl}
use Rattle.crl_obj.specs.Values.{CrlValue, crl_value}
use Rattle.issue_values.specs.declared.publishers.Publisher.{Publisher}
use Rattle.issue_values.specs.Publishers.{Publishing, publishing}
use Rattle.issue_values.specs.Certificates as values
use Rattle.issue_values.specs.Bodies.{crl_value_of}
use Rattle.key_roll.specs.declared.rows.RevokedRow.{RevokedRow}
use Rattle.issue_drafts.specs.IssueInput.{IssueInput, input_of}
use Rattle.issue_drafts.specs.Publishers.{is_key, publishing_of}
use Rattle.issue_drafts.specs.WorkKeys.{Keys}
use Rattle.issue_drafts.specs.Drafts.{has_serial, serial_at, serial_behind}
use Rattle.issue_drafts.specs.Drafts.Kind.{Roa}
use Rattle.issue_drafts.specs.Views.{draft_of, kind_of, manifest_of, IsPositioned, IsSubjectPositioned}
use Rattle.issue_drafts.specs.declared.draft.KeyAt.{KeyAt}
use Rattle.issue_drafts.specs.declared.draft.Draft as code
use Rattle.issue_drafts.specs.declared.draft.ManifestDraft.{ManifestDraft}
use Rattle.issue_drafts.specs.declared.draft.DraftKind.{DraftKind}
use Rattle.issue_drafts.specs.declared.draft.DraftKind.TheVariants as kinds
use Rattle.issue_sign.specs.declared.sign_input.SignInput.{SignInput}
use Rattle.issue_sign.specs.Objects.{certificate, certificate_with, crl_of, number_of, roa_certificate, manifest_certificate}
use Rattle.issue_sign.specs.SignInput.{SignInputValue, IsSignInput}
use Rattle.issue_sign.specs.inner.Steps.{IsDraft}
use Rattle.issue_sign.proofs.Positions.{mapped-at}

-- A key's publishing, as it was read.
pub publishes : (sign_input : SignInput) (b : SignInputValue) (k : KeyAt) (p : Publisher) → IsSignInput sign_input b → IsPositioned b.rows k
    → k.position < length sign_input.publishers.now → p ≡ get_or sign_input.publishers.now k.position p
    → publishing p ≡ publishing_of (input_of sign_input.input.now) b.keys k.row.now
publishes sign_input b k p basis positioned lt is =
    ap publishing is
    ∙ (sym (get_or-map publishing sign_input.publishers.now k.position p (publishing p) lt)
    ∙ mapped-at (publishing_of (input_of sign_input.input.now) b.keys) b.rows (map publishing sign_input.publishers.now) k.position k.row.now
    (publishing p) basis.publishers positioned)

-- ---- certificates

chosen : {X : Type 0} (t : Bool) (x y : X) → t ≡ true → x ≡ (if t then x else y)
chosen true x y e = refl
chosen false x y e = absurd cc

other : {X : Type 0} (t : Bool) (x y : X) → t ≡ false → y ≡ (if t then x else y)
other true x y e = absurd cc
other false x y e = refl

same-key : (s : IssueInput) (keys : Keys) (issuer subject : KeyRow) (by of : Publishing) → by ≡ publishing_of s keys issuer
    → of ≡ publishing_of s keys subject → is_key issuer subject ≡ bytes_eq by.id of.id
same-key s keys issuer subject by of e f =
    sym (ap (λ (p : Publishing). bytes_eq p.id of.id) e ∙ ap (λ (p : Publishing). bytes_eq (publishing_of s keys issuer).id p.id) f)

pub anchor-with : (s : IssueInput) (keys : Keys) (issuer subject : KeyRow) (held : Resources) (serial : ℕ) (by of : Publishing) (cert : CertValue)
    → by ≡ publishing_of s keys issuer → of ≡ publishing_of s keys subject → bytes_eq by.id of.id ≡ true
    → cert ≡ values.anchor_certificate s.site s.work.moment by held serial → cert ≡ certificate_with s keys issuer subject held serial
anchor-with s keys issuer subject held serial by of cert e f test is =
    is
    ∙ (ap (λ (p : Publishing). values.anchor_certificate s.site s.work.moment p held serial) e
    ∙ chosen (is_key issuer subject) (values.anchor_certificate s.site s.work.moment (publishing_of s keys issuer) held serial)
    (values.authority_certificate s.site s.work.moment (publishing_of s keys issuer) (publishing_of s keys subject) held serial)
    (same-key s keys issuer subject by of e f ∙ test))

pub authority-with : (s : IssueInput) (keys : Keys) (issuer subject : KeyRow) (held : Resources) (serial : ℕ) (by of : Publishing) (cert : CertValue)
    → by ≡ publishing_of s keys issuer → of ≡ publishing_of s keys subject → bytes_eq by.id of.id ≡ false
    → cert ≡ values.authority_certificate s.site s.work.moment by of held serial → cert ≡ certificate_with s keys issuer subject held serial
authority-with s keys issuer subject held serial by of cert e f test is =
    is
    ∙ (ap (λ (p : Publishing). values.authority_certificate s.site s.work.moment p of held serial) e
    ∙ (ap (λ (p : Publishing). values.authority_certificate s.site s.work.moment (publishing_of s keys issuer) p held serial) f
    ∙ other (is_key issuer subject) (values.anchor_certificate s.site s.work.moment (publishing_of s keys issuer) held serial)
    (values.authority_certificate s.site s.work.moment (publishing_of s keys issuer) (publishing_of s keys subject) held serial)
    (same-key s keys issuer subject by of e f ∙ test)))

-- What was made is the certificate of whichever basis the edition is.
pub anchor-made : {E : Type 0} (sign_input : SignInput) (issuer subject : KeyAt) (held : Resources) (serial : ℕ) (by of : Publisher) (r : Result Cert E)
    → issuer.position < length sign_input.publishers.now → subject.position < length sign_input.publishers.now
    → by ≡ get_or sign_input.publishers.now issuer.position by → of ≡ get_or sign_input.publishers.now subject.position of
    → bytes_eq by.id.bytes of.id.bytes ≡ true
    → IfOk r (λ cert. cert_value cert ≡ values.anchor_certificate sign_input.input.now.site.now sign_input.input.now.work.now.moment
    (publishing by) held serial) → IfOk r (λ cert. (b : SignInputValue) → IsSignInput sign_input b → IsPositioned b.rows issuer → IsPositioned b.rows subject
    → cert_value cert ≡ certificate_with (input_of sign_input.input.now) b.keys issuer.row.now subject.row.now held serial)
anchor-made sign_input issuer subject held serial by of (Ok cert) in-issuer in-subject is-by is-of test made = λ b basis p q.
    anchor-with (input_of sign_input.input.now) b.keys issuer.row.now subject.row.now held serial (publishing by) (publishing of) (cert_value cert)
    (publishes sign_input b issuer by basis p in-issuer is-by) (publishes sign_input b subject of basis q in-subject is-of) test made
anchor-made sign_input issuer subject held serial by of (Err e) in-issuer in-subject is-by is-of test made = tt

pub authority-made : {E : Type 0} (sign_input : SignInput) (issuer subject : KeyAt) (held : Resources) (serial : ℕ) (by of : Publisher) (r : Result Cert E)
    → issuer.position < length sign_input.publishers.now → subject.position < length sign_input.publishers.now
    → by ≡ get_or sign_input.publishers.now issuer.position by → of ≡ get_or sign_input.publishers.now subject.position of
    → bytes_eq by.id.bytes of.id.bytes ≡ false
    → IfOk r (λ cert. cert_value cert ≡ values.authority_certificate sign_input.input.now.site.now sign_input.input.now.work.now.moment (publishing by)
    (publishing of) held serial) → IfOk r (λ cert. (b : SignInputValue) → IsSignInput sign_input b → IsPositioned b.rows issuer → IsPositioned b.rows subject
    → cert_value cert ≡ certificate_with (input_of sign_input.input.now) b.keys issuer.row.now subject.row.now held serial)
authority-made sign_input issuer subject held serial by of (Ok cert) in-issuer in-subject is-by is-of test made = λ b basis p q.
    authority-with (input_of sign_input.input.now) b.keys issuer.row.now subject.row.now held serial (publishing by) (publishing of) (cert_value cert)
    (publishes sign_input b issuer by basis p in-issuer is-by) (publishes sign_input b subject of basis q in-subject is-of) test made
authority-made sign_input issuer subject held serial by of (Err e) in-issuer in-subject is-by is-of test made = tt

-- ---- CRLs

crl-is : (sign_input : SignInput) (b : SignInputValue) (k : KeyAt) (p : Publisher) (item entries : List RevokedRow) (crl : CrlValue) → IsSignInput sign_input b
    → IsPositioned b.rows k → publishing p ≡ publishing_of (input_of sign_input.input.now) b.keys k.row.now
    → entries ≡ get_or sign_input.revoked.now k.position item → crl ≡ crl_value_of sign_input.input.now.work.now.moment p.id.bytes
    (number_of k.row.now) entries → crl ≡ crl_of (input_of sign_input.input.now) b.entries k.row.now
crl-is sign_input b k p item entries crl basis positioned e is made =
    let here : entries ≡ b.entries k.row.now = is ∙ mapped-at b.entries b.rows sign_input.revoked.now k.position k.row.now item basis.entries positioned in
    made
    ∙ (ap (λ (q : Publishing). crl_value_of sign_input.input.now.work.now.moment q.id (number_of k.row.now) entries) e
    ∙ ap (λ (l : List RevokedRow). crl_value_of sign_input.input.now.work.now.moment
    (publishing_of (input_of sign_input.input.now) b.keys k.row.now).id (number_of k.row.now) l) here)

pub crl-made : {E : Type 0} (sign_input : SignInput) (k : KeyAt) (p : Publisher) (item entries : List RevokedRow) (r : Result Crl E)
    → k.position < length sign_input.publishers.now → p ≡ get_or sign_input.publishers.now k.position p → entries ≡ get_or sign_input.revoked.now k.position item
    → IfOk r (λ crl. crl_value crl ≡ crl_value_of sign_input.input.now.work.now.moment p.id.bytes (number_of k.row.now) entries)
    → IfOk r (λ crl. (b : SignInputValue) → IsSignInput sign_input b → IsPositioned b.rows k
    → crl_value crl ≡ crl_of (input_of sign_input.input.now) b.entries k.row.now)
crl-made sign_input k p item entries (Ok crl) lt is-p is-item made = λ b basis positioned.
    crl-is sign_input b k p item entries (crl_value crl) basis positioned (publishes sign_input b k p basis positioned lt is-p) is-item made
crl-made sign_input k p item entries (Err e) lt is-p is-item made = tt

-- ---- serials

-- A draft of such a kind has the serial of its position.
pub numbered : (b : SignInputValue) (d : code.Draft) (given : ℕ) → IsDraft b d given → has_serial (kind_of d.kind) ≡ true → given ≡ serial_at b.all d.issuer.row.now d.uri
numbered b d given is e =
    is.serial ∙ sym (chosen (has_serial (kind_of d.kind)) (serial_at b.all d.issuer.row.now d.uri) 0 e)

-- ---- what is signed first

pub certificate-is : (s : IssueInput) (b : SignInputValue) (d : code.Draft) (subject : KeyAt) (held : Bor Resources) (given : ℕ) (cert : CertValue)
    → d.kind ≡ kinds.Authority subject held → IsDraft b d given → cert ≡ certificate_with s b.keys d.issuer.row.now subject.row.now held.now given
    → cert ≡ certificate s b.keys b.all (draft_of d) subject.row.now held.now
certificate-is s b d subject held given cert e is made =
    made
    ∙ ap (λ (n : ℕ). certificate_with s b.keys d.issuer.row.now subject.row.now held.now n)
    (numbered b d given is (ap (λ (k : DraftKind). has_serial (kind_of k)) e))

pub subject-positioned : (b : SignInputValue) (d : code.Draft) (subject : KeyAt) (held : Bor Resources) (given : ℕ) → d.kind ≡ kinds.Authority subject held
    → IsDraft b d given → IsPositioned b.rows subject
subject-positioned b d subject held given e is = subst (λ (k : DraftKind). IsSubjectPositioned b.rows k) e is.subject

pub roa-made : {E : Type 0} (sign_input : SignInput) (d : code.Draft) (uri : List ℕ) (origin : Origin) (key : List ℕ) (given : ℕ) (by : Publisher)
    (r : Result Cert E) → d.issuer.position < length sign_input.publishers.now → by ≡ get_or sign_input.publishers.now d.issuer.position by → uri ≡ d.uri
    → IfOk r (λ cert. cert_value cert ≡ values.roa_certificate sign_input.input.now.site.now sign_input.input.now.work.now.moment
    (publishing by) key origin.prefix uri given)
    → IfOk r (λ cert. (b : SignInputValue) → IsSignInput sign_input b → IsDraft b d given → kind_of d.kind ≡ Roa origin
    → cert_value cert ≡ roa_certificate (input_of sign_input.input.now) b.keys b.all (draft_of d) origin key)
roa-made sign_input d uri origin key given by (Ok cert) lt is at made = λ b basis draft e.
    let site = sign_input.input.now.site.now in
    let moment = sign_input.input.now.work.now.moment in
    let issuer = publishing_of (input_of sign_input.input.now) b.keys d.issuer.row.now in
    made
    ∙ (ap (λ (p : Publishing). values.roa_certificate site moment p key origin.prefix uri given) (publishes sign_input b d.issuer by basis draft.issuer lt is)
    ∙ (ap (λ (u : List ℕ). values.roa_certificate site moment issuer key origin.prefix u given) at
    ∙ ap (λ (n : ℕ). values.roa_certificate site moment issuer key origin.prefix d.uri n) (numbered b d given draft (ap has_serial e))))
roa-made sign_input d uri origin key given by (Err e) lt is at made = tt

-- ---- the certificate of a manifest's key

pub manifest-certificate-made : {E : Type 0} (sign_input : SignInput) (draft : ManifestDraft) (key : List ℕ) (given : ℕ) (by : Publisher)
    (r : Result Cert E) → draft.issuer.position < length sign_input.publishers.now → by ≡ get_or sign_input.publishers.now draft.issuer.position by
    → IfOk r (λ cert. cert_value cert ≡ values.manifest_certificate sign_input.input.now.site.now sign_input.input.now.work.now.moment
    (publishing by) key given)
    → IfOk r (λ cert. (b : SignInputValue) → IsSignInput sign_input b → IsPositioned b.rows draft.issuer
    → given ≡ serial_behind b.all draft.issuer.row.now
    → cert_value cert ≡ manifest_certificate (input_of sign_input.input.now) b.keys b.all (manifest_of draft) key)
manifest-certificate-made sign_input draft key given by (Ok cert) lt is made = λ b basis positioned serial.
    made
    ∙ (ap (λ (p : Publishing). values.manifest_certificate sign_input.input.now.site.now sign_input.input.now.work.now.moment p key given)
    (publishes sign_input b draft.issuer by basis positioned lt is)
    ∙ ap (λ (n : ℕ). values.manifest_certificate sign_input.input.now.site.now sign_input.input.now.work.now.moment
    (publishing_of (input_of sign_input.input.now) b.keys draft.issuer.row.now) key n) serial)
manifest-certificate-made sign_input draft key given by (Err e) lt is made = tt
