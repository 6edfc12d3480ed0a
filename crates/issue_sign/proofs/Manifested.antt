-- Manifests: their contents are signed first, and then their certificates.
use Rattle.std.proofs.Common.{◌≡◌, ℕ, ◌<◌, Bool, true, false, List, [], ◌∷◌, ◌++◌, length, get_or, drop, map, refl, sym, ap, subst, ◌∙◌}
use Rattle.std.specs.Prelude.{Option, Some, None, Vec}
use Rattle.std.specs.declared.alloc.Global.{Global}
use Rattle.std.specs.List.{cons_option, filter_map}
use Rattle.signer_ring.specs.Calls.{Call}
use Rattle.cert_obj.specs.Values.{CertValue, IsCert}
use Rattle.cert_obj.specs.Formats as certificates
use Rattle.cms_obj.specs.declared.values.ObjectKind.TheVariants as ObjectKinds
use Rattle.cms_obj.specs.Formats.{signed_attributes}
use Rattle.payloads.specs.ManifestFormats.{file_view}
use Rattle.payloads.specs.declared.values.ListedFile.{ListedFile}
use Rattle.key_roll.specs.declared.rows.KeyRow.{KeyRow}
use Rattle.issue_drafts.specs.IssueInput.{IssueInput}
use Rattle.issue_drafts.specs.Drafts.{Draft}
use Rattle.issue_drafts.specs.Drafts.Kind.{Manifest}
use Rattle.issue_drafts.specs.Views.{manifest_of}
use Rattle.issue_drafts.specs.declared.draft.ManifestDraft.{ManifestDraft}
use Rattle.issue_sign.specs.declared.object.Object.{Object}
use Rattle.issue_sign.specs.declared.object.SignedContent.{SignedContent}
use Rattle.issue_sign.specs.declared.steps.Pending.{Pending}
use Rattle.issue_sign.specs.declared.steps.Pending.TheVariants as pending
use Rattle.issue_sign.specs.declared.steps.Step.{Step}
use Rattle.issue_sign.specs.declared.steps.Half.{Half}
use Rattle.issue_sign.specs.declared.steps.Half.TheVariants.{Made, Begun}
use Rattle.issue_sign.specs.Objects.{Answers, Signed, manifest_certificate, manifest_content, manifest_bytes, attributes}
use Rattle.issue_sign.specs.Calls.{by_issuer, by_once}
use Rattle.issue_sign.specs.SignInput.{SignInputValue}
use Rattle.issue_sign.specs.Spelled.{IsSpelled}
use Rattle.issue_sign.specs.Made.{answers_of, of_manifests}
use Rattle.issue_sign.specs.inner.Steps.{call_for, content_answers, entity_answers, half_answers, manifest_text, IsOutcome, IsKept, IsObjectOf, IsTextOf, IsContent, IsContentHalf, IsLastOf, Pairs, Triples}
use Rattle.issue_sign.proofs.Lists.{with_answers}
use Rattle.issue_sign.proofs.Ways.{IsWay, IsFor, known_of}
use Rattle.issue_sign.proofs.Drafted.{entity-made, entity-call, kept-entity, answers-of-once}

-- ---- the way of manifests

abbrev pub content_of : IssueInput → SignInputValue → Signed → Call
content_of s b x = by_once x.draft.issuer (attributes s ObjectKinds.Manifest (manifest_content s b.files x.draft.issuer)) x.answers

abbrev last_for : IssueInput → SignInputValue → Signed → Call
last_for s b x = by_issuer x.draft.issuer (certificates.signed_bytes (manifest_certificate s b.keys b.all x.draft x.answers.once)) x.answers.last

abbrev pub last_of : IssueInput → SignInputValue → Signed → Option Call
last_of s b x = Some (last_for s b x)

map-some : (g : Signed → Call) (xs : List Signed) → map g xs ≡ filter_map (λ x. Some (g x)) xs
map-some g [] = refl
map-some g (x ∷ xs) = ap (λ (l : List Call). g x ∷ l) (map-some g xs)

pub manifests-way : (s : IssueInput) (b : SignInputValue) → IsWay (of_manifests s b) (content_of s b) (last_of s b)
manifests-way s b = record {
  calls = λ made. ap (λ (l : List Call). map (content_of s b) made ++ l) (map-some (last_for s b) made);
  firsts = λ made. refl;
}

-- ---- the contents

-- The files that are given are those of the basis.
pub texts-of : (s : IssueInput) (b : SignInputValue) (drafts : List ManifestDraft) (lists : List (List ListedFile)) (steps : List Step)
    → map (map file_view) lists ≡ map (λ (d : ManifestDraft). b.files d.issuer.row.now) drafts
    → Triples (λ d list st. IsTextOf s d.issuer.row.now (map file_view list) st.pending) drafts lists steps
    → Pairs (λ d st. IsTextOf s d.issuer.row.now (b.files d.issuer.row.now) st.pending) drafts steps
texts-of s b [] lists [] same all = tt
texts-of s b (d ∷ drafts) lists [] same all = tt
texts-of s b [] lists (st ∷ steps) same all = absurd all
texts-of s b (d ∷ drafts) [] (st ∷ steps) same all = absurd all
texts-of s b (d ∷ drafts) (list ∷ lists) (st ∷ steps) same all =
    let head : map file_view list ≡ b.files d.issuer.row.now = ap (λ (l : List (List (List ℕ × List ℕ))). get_or l 0 []) same in (
      subst (λ (l : List (List ℕ × List ℕ)). IsTextOf s d.issuer.row.now l st.pending) head all.0,
      texts-of s b drafts lists steps (ap (drop 1) same) all.1,
    )

pub text-step : (s : IssueInput) (b : SignInputValue) (d : Draft) (key : KeyRow) (p : Pending) → key ≡ d.issuer
    → IsTextOf s d.issuer (b.files d.issuer) p → (a : Answers) → call_for s.work.moment key p a ≡ Some (content_of s b (with_answers d a))
text-step s b d key p e is a =
    ap (λ (q : Pending). call_for s.work.moment key q a) is.step.is
    ∙ (ap (λ (l : List ℕ). Some (by_once key (signed_attributes ObjectKinds.Manifest l s.work.moment) a)) is.step.bytes
    ∙ ap (λ (k : KeyRow). Some (by_once k (signed_attributes ObjectKinds.Manifest (manifest_content s b.files d.issuer) s.work.moment) a)) e)

pub content-half : (s : IssueInput) (key : KeyRow) (files : List (List ℕ × List ℕ)) (p : Pending) (h : Half) → IsTextOf s key files p
    → IsOutcome s.work.moment p h → IsContentHalf s key files h
content-half s key files p (Made o) is out = absurd (subst (λ (q : Pending). IsOutcome s.work.moment q (Made o)) is.step.is out)
content-half s key files p (Begun c) is out = record {
  bytes = subst (λ (q : Pending). IsOutcome s.work.moment q (Begun c)) is.step.is out ∙ is.step.bytes;
  spelled = is.spelled;
}

-- ---- the certificates

-- What is built for a content that was signed is that.
pub last-entity : (s : IssueInput) (b : SignInputValue) (d : Draft) (h : Half) (c : SignedContent) (cert : CertValue) (tbs : Vec ℕ Global) → h ≡ Begun c
    → cert ≡ manifest_certificate s b.keys b.all d c.once.key.bytes → IsCert cert → tbs.items ≡ certificates.signed_bytes cert
    → IsLastOf s b d h (pending.Entity ObjectKinds.Manifest c tbs)
last-entity s b d h c cert tbs e made spelled bytes =
    subst (λ (x : Half). IsLastOf s b d x (pending.Entity ObjectKinds.Manifest c tbs)) (sym e)
    (record { tbs = tbs; is = refl; whole = subst IsCert made spelled; bytes = bytes ∙ ap certificates.signed_bytes made })

pub last-same : (s : IssueInput) (b : SignInputValue) (d : Draft) (h : Half) (p : Pending) → IsLastOf s b d h p → (a : Answers) → IsKept p a
    → content_of s b (with_answers d a) ≡ content_of s b (with_answers d (half_answers h))
last-same s b d (Made o) p is a kept = absurd is
last-same s b d (Begun c) p is a kept =
    ap (λ (x : Answers). content_of s b (with_answers d x))
    (kept-entity ObjectKinds.Manifest c (manifest_certificate s b.keys b.all d c.once.key.bytes) p a is kept)

pub last-call : (s : IssueInput) (b : SignInputValue) (d : Draft) (h : Half) (key : KeyRow) (p : Pending) → key ≡ d.issuer → IsLastOf s b d h p
    → (a : Answers) → IsKept p a → last_of s b (with_answers d a) ≡ call_for s.work.moment key p a
last-call s b d (Made o) key p e is a kept = absurd is
last-call s b d (Begun c) key p e is a kept =
    let cert = manifest_certificate s b.keys b.all d c.once.key.bytes in
    let once = ap (λ (x : Answers). x.once) (kept-entity ObjectKinds.Manifest c cert p a is kept) in
    ap (λ (l : List ℕ). Some (by_issuer d.issuer (certificates.signed_bytes (manifest_certificate s b.keys b.all d l)) a.last)) once
    ∙ entity-call s.work.moment key d.issuer ObjectKinds.Manifest c cert p a e is

-- What a manifest is with these answers.
record IsDone (s : IssueInput) (b : SignInputValue) (d : Draft) (a : Answers) (o : Object) : Type 0 where
  object : IsObjectOf (manifest_bytes s b.keys b.all b.files (with_answers d a)) (IsSpelled s b d Manifest a) o

pub last-made : (s : IssueInput) (b : SignInputValue) (d : ManifestDraft) (h : Half) (p : Pending) (o : Object)
    → IsContentHalf s d.issuer.row.now (b.files d.issuer.row.now) h → IsLastOf s b (manifest_of d) h p → IsOutcome s.work.moment p (Made o)
    → IsFor (of_manifests s b) (known_of s b) (manifest_of d) o
last-made s b d (Made x) p o half is out = absurd half
last-made s b d (Begun c) p o half is out =
    let cert = manifest_certificate s b.keys b.all (manifest_of d) c.once.key.bytes in
    let made = entity-made s.work.moment ObjectKinds.Manifest c (manifest_text s d.issuer.row.now (b.files d.issuer.row.now)) cert p o is refl half.bytes out in
    let done : IsDone s b (manifest_of d) (entity_answers c o.signature.bytes) o =
    record { object = record { bytes = made.1.bytes; hash = made.1.hash; known = (half.spelled, made.1.known) } } in
    (subst (λ (a : Answers). IsDone s b (manifest_of d) a o) (sym (answers-of-once o c made.0)) done).object
