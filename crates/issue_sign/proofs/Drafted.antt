-- Certificates, CRLs and ROAs: what is signed first for them, and what then.
use Rattle.std.proofs.Common.{◌≡◌, ℕ, ◌<◌, Bor, Bool, true, false, List, [], ◌∷◌, ◌++◌, length, map, refl, sym, ap, subst, ◌∙◌}
use Rattle.std.specs.Prelude.{Option, Some, None, Vec}
use Rattle.std.specs.declared.alloc.Global.{Global}
use Rattle.std.specs.Option.{option_map_or}
use Rattle.sha2.specs.Sha256.{sha256}
use Rattle.signer_api.specs.declared.values.OneUse.{OneUse}
use Rattle.signer_ring.specs.Calls.{Call}
use Rattle.origins.specs.declared.Origin.{Origin}
use Rattle.res_sets.specs.declared.holdings.Resources.{Resources}
use Rattle.cert_obj.specs.Values.{CertValue, IsCert}
use Rattle.cert_obj.specs.Formats as certificates
use Rattle.crl_obj.specs.Values.{CrlValue, IsCrl}
use Rattle.crl_obj.specs.Formats as crls
use Rattle.cms_obj.specs.declared.values.HashedContent.{HashedContent}
use Rattle.cms_obj.specs.declared.values.ObjectKind.{ObjectKind}
use Rattle.cms_obj.specs.declared.values.ObjectKind.TheVariants as ObjectKinds
use Rattle.cms_obj.specs.Formats.{signed_attributes}
use Rattle.payloads.specs.RoaFormats.{IsRoa}
use Rattle.issue_values.specs.Bodies.{roa_of}
use Rattle.key_roll.specs.declared.rows.KeyRow.{KeyRow}
use Rattle.issue_drafts.specs.IssueInput.{IssueInput}
use Rattle.issue_drafts.specs.Drafts.{Draft, Kind}
use Rattle.issue_drafts.specs.Drafts.Kind.{Certificate, Roa, Crl, Manifest}
use Rattle.issue_drafts.specs.Views.{draft_of, kind_of}
use Rattle.issue_drafts.specs.declared.draft.KeyAt.{KeyAt}
use Rattle.issue_drafts.specs.declared.draft.Draft as code
use Rattle.issue_drafts.specs.declared.draft.DraftKind.{DraftKind}
use Rattle.issue_drafts.specs.declared.draft.DraftKind.TheVariants as kinds
use Rattle.issue_sign.specs.declared.object.Object.{Object}
use Rattle.issue_sign.specs.declared.object.SignedContent.{SignedContent}
use Rattle.issue_sign.specs.declared.steps.Pending.{Pending}
use Rattle.issue_sign.specs.declared.steps.Pending.TheVariants as pending
use Rattle.issue_sign.specs.declared.steps.Half.{Half}
use Rattle.issue_sign.specs.declared.steps.Half.TheVariants.{Made, Begun}
use Rattle.issue_sign.specs.Signed.{framed, object_bytes, IsObject}
use Rattle.issue_sign.specs.Objects.{Answers, Signed, certificate, certificate_with, crl_of, roa_certificate, roa_content, bytes_by}
use Rattle.issue_sign.specs.Calls.{by_issuer, by_once, first_call, second_call}
use Rattle.issue_sign.specs.SignInput.{SignInputValue}
use Rattle.issue_sign.specs.Spelled.{IsSpelled}
use Rattle.issue_sign.specs.Made.{answers_of, of_drafts}
use Rattle.issue_sign.specs.inner.Steps.{is_content, is_begun, call_for, content_answers, entity_answers, half_answers, IsOutcome, IsKept, IsObjectOf, IsCertificateIn, IsCrlIn, IsEntityStep, IsDraft, IsFirstOf, IsHalf, IsSecondOf}
use Rattle.issue_sign.proofs.Said.{certificate-is}

-- ---- the way of these objects

abbrev pub first_of : IssueInput → SignInputValue → Signed → Call
first_of s b x = first_call s b.keys b.all b.entries x.draft x.draft.kind x.answers

abbrev pub second_of : IssueInput → SignInputValue → Signed → Option Call
second_of s b x = second_call s b.keys b.all x.draft x.draft.kind x.answers

-- ---- the first signature

pub first-step : (s : IssueInput) (b : SignInputValue) (d : Draft) (kind : Kind) (key : KeyRow) (p : Pending) → key ≡ d.issuer → IsFirstOf s b d kind p
    → (a : Answers) → call_for s.work.moment key p a ≡ Some (first_call s b.keys b.all b.entries d kind a)
first-step s b d (Certificate subject held) key p e is a =
    ap (λ (q : Pending). call_for s.work.moment key q a) is.is
    ∙ (ap (λ (l : List ℕ). Some (by_issuer key l a.last)) is.bytes
    ∙ ap (λ (k : KeyRow). Some (by_issuer k (certificates.signed_bytes (certificate s b.keys b.all d subject held)) a.last)) e)
first-step s b d (Roa origin) key p e is a =
    ap (λ (q : Pending). call_for s.work.moment key q a) is.1.is
    ∙ (ap (λ (l : List ℕ). Some (by_once key (signed_attributes ObjectKinds.Roa l s.work.moment) a)) is.1.bytes
    ∙ ap (λ (k : KeyRow). Some (by_once k (signed_attributes ObjectKinds.Roa (roa_content origin) s.work.moment) a)) e)
first-step s b d Crl key p e is a =
    ap (λ (q : Pending). call_for s.work.moment key q a) is.is
    ∙ (ap (λ (l : List ℕ). Some (by_issuer key l a.last)) is.bytes
    ∙ ap (λ (k : KeyRow). Some (by_issuer k (crls.signed_bytes (crl_of s b.entries d.issuer)) a.last)) e)
first-step s b d Manifest key p e is a = absurd is

-- What is built for a draft is that.
pub certificate-first : (s : IssueInput) (b : SignInputValue) (d : code.Draft) (given : ℕ) (subject : KeyAt) (held : Bor Resources) (cert : CertValue)
    (tbs : Vec ℕ Global) → d.kind ≡ kinds.Authority subject held → IsDraft b d given
    → cert ≡ certificate_with s b.keys d.issuer.row.now subject.row.now held.now given → IsCert cert → tbs.items ≡ certificates.signed_bytes cert
    → IsFirstOf s b (draft_of d) (kind_of d.kind) (pending.Certificate tbs)
certificate-first s b d given subject held cert tbs e is made spelled bytes =
    let at = certificate-is s b d subject held given cert e is made in
    subst (λ (k : DraftKind). IsFirstOf s b (draft_of d) (kind_of k) (pending.Certificate tbs)) (sym e)
    (record { tbs = tbs; is = refl; whole = subst IsCert at spelled; bytes = bytes ∙ ap certificates.signed_bytes at })

pub crl-first : (s : IssueInput) (b : SignInputValue) (d : code.Draft) (crl : CrlValue) (tbs : Vec ℕ Global) → d.kind ≡ kinds.Crl
    → crl ≡ crl_of s b.entries d.issuer.row.now → IsCrl crl → tbs.items ≡ crls.signed_bytes crl
    → IsFirstOf s b (draft_of d) (kind_of d.kind) (pending.Revocations tbs)
crl-first s b d crl tbs e made spelled bytes =
    subst (λ (k : DraftKind). IsFirstOf s b (draft_of d) (kind_of k) (pending.Revocations tbs)) (sym e)
    (record { tbs = tbs; is = refl; whole = subst IsCrl made spelled; bytes = bytes ∙ ap crls.signed_bytes made })

pub route-first : (s : IssueInput) (b : SignInputValue) (d : code.Draft) (origin : Origin) (content : HashedContent) → d.kind ≡ kinds.Route origin
    → IsRoa (roa_of origin) → content.bytes.items ≡ roa_content origin
    → IsFirstOf s b (draft_of d) (kind_of d.kind) (pending.Content ObjectKinds.Roa content)
route-first s b d origin content e spelled bytes =
    subst (λ (k : DraftKind). IsFirstOf s b (draft_of d) (kind_of k) (pending.Content ObjectKinds.Roa content)) (sym e)
    (spelled, record { content = content; is = refl; bytes = bytes })

pub begun-of : (m : ℕ) (p : Pending) (h : Half) → IsOutcome m p h → is_begun h ≡ is_content p
begun-of m (pending.Whole object) (Made o) out = refl
begun-of m (pending.Whole object) (Begun c) out = absurd out
begun-of m (pending.Certificate tbs) (Made o) out = refl
begun-of m (pending.Certificate tbs) (Begun c) out = absurd out
begun-of m (pending.Revocations tbs) (Made o) out = refl
begun-of m (pending.Revocations tbs) (Begun c) out = absurd out
begun-of m (pending.Content kind content) (Made o) out = absurd out
begun-of m (pending.Content kind content) (Begun c) out = refl
begun-of m (pending.Entity kind content tbs) (Made o) out = refl
begun-of m (pending.Entity kind content tbs) (Begun c) out = absurd out

-- An object of the bytes that are to be signed is one of those that were.
framed-as : (tbs other signature : List ℕ) (Known Others : Type 0) (o : Object) → tbs ≡ other → (Known → Others) → IsObjectOf (framed tbs signature) Known o
    → IsObjectOf (framed other signature) Others o
framed-as tbs other signature Known Others o e f is = record {
  bytes = is.bytes ∙ ap (λ (l : List ℕ). framed l signature) e;
  hash = is.hash ∙ ap (λ (l : List ℕ). sha256 (framed l signature)) e;
  known = f is.known;
}

pub half-of : (s : IssueInput) (b : SignInputValue) (d : Draft) (kind : Kind) (p : Pending) (h : Half) → IsFirstOf s b d kind p
    → IsOutcome s.work.moment p h → IsHalf s b d kind h
half-of s b d (Certificate subject held) p (Made o) is out =
    let f = subst (λ (q : Pending). IsOutcome s.work.moment q (Made o)) is.is out in
    let cert = certificate s b.keys b.all d subject held in (
      refl,
      framed-as is.tbs.items (certificates.signed_bytes cert) o.signature.bytes (IsCertificateIn is.tbs.items o.signature.bytes) (IsSpelled s b d (Certificate subject held) (answers_of o)) o is.bytes
          (λ known. known cert is.whole is.bytes) f.object,
    )
half-of s b d (Certificate subject held) p (Begun c) is out = absurd (subst (λ (q : Pending). IsOutcome s.work.moment q (Begun c)) is.is out)
half-of s b d (Roa origin) p (Made o) is out = absurd (subst (λ (q : Pending). IsOutcome s.work.moment q (Made o)) is.1.is out)
half-of s b d (Roa origin) p (Begun c) is out = record {
  origin = origin;
  is = refl;
  spelled = is.0;
  bytes = subst (λ (q : Pending). IsOutcome s.work.moment q (Begun c)) is.1.is out ∙ is.1.bytes;
}
half-of s b d Crl p (Made o) is out =
    let f = subst (λ (q : Pending). IsOutcome s.work.moment q (Made o)) is.is out in
    let crl = crl_of s b.entries d.issuer in (
      refl,
      framed-as is.tbs.items (crls.signed_bytes crl) o.signature.bytes (IsCrlIn is.tbs.items o.signature.bytes) (IsSpelled s b d Crl (answers_of o)) o is.bytes
          (λ known. known crl is.whole is.bytes) f.object,
    )
half-of s b d Crl p (Begun c) is out = absurd (subst (λ (q : Pending). IsOutcome s.work.moment q (Begun c)) is.is out)
half-of s b d Manifest p h is out = absurd is

-- ---- an object whose content was signed before

pub answers-of-once : (o : Object) (c : SignedContent) → o.once ≡ Some c.once → answers_of o ≡ entity_answers c o.signature.bytes
answers-of-once o c e =
    ap (λ (m : Option OneUse). let a : Answers = record {
      once = option_map_or (λ once. once.key.bytes) m [];
      content = option_map_or (λ once. once.signature.bytes) m [];
      last = o.signature.bytes;
    } in a) e

-- The object of a content with the certificate of its key, by what was signed for it.
pub entity-made : (m : ℕ) (kind : ObjectKind) (c : SignedContent) (content : List ℕ) (cert : CertValue) (p : Pending) (o : Object)
    → IsEntityStep kind c cert p → cert.not_before ≡ m → c.content.bytes.items ≡ content → IsOutcome m p (Made o)
    → (o.once ≡ Some c.once) × IsObjectOf (object_bytes kind content cert o.signature.bytes c.once.key.bytes c.once.signature.bytes)
    (IsObject kind content cert o.signature.bytes c.once.key.bytes c.once.signature.bytes) o
entity-made m kind c content cert p o is at same out =
    let e = subst (λ (q : Pending). IsOutcome m q (Made o)) is.is out in (
      e.once,
      subst (λ (l : List ℕ). IsObjectOf (object_bytes kind l cert o.signature.bytes c.once.key.bytes c.once.signature.bytes)
          (IsObject kind l cert o.signature.bytes c.once.key.bytes c.once.signature.bytes) o) same (e.object cert is.whole is.bytes at),
    )

-- What is made keeps what was answered before.
pub kept-outcome : (m : ℕ) (p : Pending) (o : Object) → IsOutcome m p (Made o) → IsKept p (answers_of o)
kept-outcome m (pending.Whole object) o out = ap answers_of out
kept-outcome m (pending.Certificate tbs) o out = tt
kept-outcome m (pending.Revocations tbs) o out = tt
kept-outcome m (pending.Content kind content) o out = tt
kept-outcome m (pending.Entity kind content tbs) o out = answers-of-once o content out.once

-- ---- the second signature

-- The call for the certificate of a content's key.
pub entity-call : (m : ℕ) (key issuer : KeyRow) (kind : ObjectKind) (c : SignedContent) (cert : CertValue) (p : Pending) (a : Answers) → key ≡ issuer
    → IsEntityStep kind c cert p → Some (by_issuer issuer (certificates.signed_bytes cert) a.last) ≡ call_for m key p a
entity-call m key issuer kind c cert p a e is =
    ap (λ (l : List ℕ). Some (by_issuer issuer l a.last)) (sym is.bytes)
    ∙ (ap (λ (k : KeyRow). Some (by_issuer k is.tbs.items a.last)) (sym e)
    ∙ sym (ap (λ (q : Pending). call_for m key q a) is.is))

pub kept-entity : (kind : ObjectKind) (c : SignedContent) (cert : CertValue) (p : Pending) (a : Answers) → IsEntityStep kind c cert p → IsKept p a
    → a ≡ entity_answers c a.last
kept-entity kind c cert p a is kept = subst (λ (q : Pending). IsKept q a) is.is kept

-- What is built for a draft that was signed once is that.
pub second-whole : (s : IssueInput) (b : SignInputValue) (d : Draft) (kind : Kind) (h : Half) (o : Object) → h ≡ Made o
    → IsSecondOf s b d kind h (pending.Whole o)
second-whole s b d kind h o e = subst (λ (x : Half). IsSecondOf s b d kind x (pending.Whole o)) (sym e) refl

abbrev origin_in : Kind → Origin → Origin
origin_in (Certificate subject held) other = other
origin_in (Roa origin) other = origin
origin_in Crl other = other
origin_in Manifest other = other

pub second-entity : (s : IssueInput) (b : SignInputValue) (d : Draft) (kind : Kind) (h : Half) (c : SignedContent) (origin : Origin) (cert : CertValue)
    (tbs : Vec ℕ Global) → h ≡ Begun c → kind ≡ Roa origin → cert ≡ roa_certificate s b.keys b.all d origin c.once.key.bytes → IsCert cert
    → tbs.items ≡ certificates.signed_bytes cert → IsSecondOf s b d kind h (pending.Entity ObjectKinds.Roa c tbs)
second-entity s b d kind h c origin cert tbs e is made spelled bytes =
    subst (λ (x : Half). IsSecondOf s b d kind x (pending.Entity ObjectKinds.Roa c tbs)) (sym e)
    (λ other at.
    let same : origin ≡ other = ap (λ (k : Kind). origin_in k origin) (sym is ∙ at) in
    let value : cert ≡ roa_certificate s b.keys b.all d other c.once.key.bytes =
    made ∙ ap (λ (x : Origin). roa_certificate s b.keys b.all d x c.once.key.bytes) same in
    record { tbs = tbs; is = refl; whole = subst IsCert value spelled; bytes = bytes ∙ ap certificates.signed_bytes value })

pub second-same : (s : IssueInput) (b : SignInputValue) (d : Draft) (kind : Kind) (h : Half) (p : Pending) → IsHalf s b d kind h → IsSecondOf s b d kind h p
    → (a : Answers) → IsKept p a → first_call s b.keys b.all b.entries d kind a ≡ first_call s b.keys b.all b.entries d kind (half_answers h)
second-same s b d kind (Made o) p half is a kept =
    ap (first_call s b.keys b.all b.entries d kind) (subst (λ (q : Pending). IsKept q a) is kept)
second-same s b d kind (Begun c) p half is a kept =
    let step = is half.origin half.is in
    let cert = roa_certificate s b.keys b.all d half.origin c.once.key.bytes in
    subst (λ (k : Kind). first_call s b.keys b.all b.entries d k a ≡ first_call s b.keys b.all b.entries d k (content_answers c)) (sym half.is)
    (ap (first_call s b.keys b.all b.entries d (Roa half.origin)) (kept-entity ObjectKinds.Roa c cert p a step kept))

pub second-call : (s : IssueInput) (b : SignInputValue) (d : Draft) (kind : Kind) (h : Half) (key : KeyRow) (p : Pending) → key ≡ d.issuer
    → IsHalf s b d kind h → IsSecondOf s b d kind h p → (a : Answers) → IsKept p a
    → second_call s b.keys b.all d kind a ≡ call_for s.work.moment key p a
second-call s b d kind (Made o) key p e half is a kept =
    ap (second_call s b.keys b.all d kind) (subst (λ (q : Pending). IsKept q a) is kept)
    ∙ (half.0 ∙ sym (ap (λ (q : Pending). call_for s.work.moment key q a) is))
second-call s b d kind (Begun c) key p e half is a kept =
    let step = is half.origin half.is in
    let cert = roa_certificate s b.keys b.all d half.origin c.once.key.bytes in
    let once = ap (λ (x : Answers). x.once) (kept-entity ObjectKinds.Roa c cert p a step kept) in
    subst (λ (k : Kind). second_call s b.keys b.all d k a ≡ call_for s.work.moment key p a) (sym half.is)
    (ap (λ (l : List ℕ). Some (by_issuer d.issuer (certificates.signed_bytes (roa_certificate s b.keys b.all d half.origin l)) a.last)) once
    ∙ entity-call s.work.moment key d.issuer ObjectKinds.Roa c cert p a e step)

-- What is made at the end.
record IsDone (s : IssueInput) (b : SignInputValue) (d : Draft) (kind : Kind) (a : Answers) (o : Object) : Type 0 where
  object : IsObjectOf (bytes_by s b.keys b.all b.entries d kind a) (IsSpelled s b d kind a) o

pub second-made : (s : IssueInput) (b : SignInputValue) (d : Draft) (kind : Kind) (h : Half) (p : Pending) (o : Object) → IsHalf s b d kind h
    → IsSecondOf s b d kind h p → IsOutcome s.work.moment p (Made o)
    → IsObjectOf (bytes_by s b.keys b.all b.entries d kind (answers_of o)) (IsSpelled s b d kind (answers_of o)) o
second-made s b d kind (Made x) p o half is out =
    let same : o ≡ x = subst (λ (q : Pending). IsOutcome s.work.moment q (Made o)) is out in
    subst (λ (y : Object). IsObjectOf (bytes_by s b.keys b.all b.entries d kind (answers_of y)) (IsSpelled s b d kind (answers_of y)) y) (sym same) half.1
second-made s b d kind (Begun c) p o half is out =
    let cert = roa_certificate s b.keys b.all d half.origin c.once.key.bytes in
    let made = entity-made s.work.moment ObjectKinds.Roa c (roa_content half.origin) cert p o (is half.origin half.is) refl half.bytes out in
    let done : IsDone s b d (Roa half.origin) (entity_answers c o.signature.bytes) o =
    record { object = record { bytes = made.1.bytes; hash = made.1.hash; known = (half.spelled, made.1.known) } } in
    let at = subst (λ (a : Answers). IsDone s b d (Roa half.origin) a o) (sym (answers-of-once o c made.0)) done in
    (subst (λ (k : Kind). IsDone s b d k (answers_of o) o) (sym half.is) at).object
