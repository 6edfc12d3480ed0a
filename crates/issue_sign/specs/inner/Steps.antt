-- How the signing of an edition's objects goes on: one signature of each, then the second ones.
use Rattle.std.specs.Prelude.{◌≡◌, ℕ, List, [], ◌∷◌, ◌++◌, Bool, true, false, cond, length, drop, map}
use Rattle.std.specs.Prelude.{All, Option, None, Some, Vec, ⊤}
use Rattle.std.specs.List.{cons_option}
use Rattle.std.specs.declared.alloc.Global.{Global}
use Rattle.sha2.specs.Sha256.{sha256}
use Rattle.signer_api.specs.State.{SignerState}
use Rattle.signer_api.specs.declared.values.OneUse.{OneUse}
use Rattle.signer_api.specs.declared.values.Signature.{Signature}
use Rattle.signer_ring.specs.Calls.{Call, after_calls, IsVouched}
use Rattle.signer_ring.specs.Jobs.{calls_on, CountFaults, AreFailed, AreCutShort}
use Rattle.signer_ring.specs.declared.jobs.SignJob.{SignJob}
use Rattle.signer_ring.specs.declared.jobs.SignJob.TheVariants as jobs
use Rattle.signer_ring.specs.declared.jobs.Signed as ring
use Rattle.signer_ring.specs.declared.jobs.Signed.TheVariants as answers
use Rattle.origins.specs.declared.Origin.{Origin}
use Rattle.cert_obj.specs.Values.{CertValue, IsCert}
use Rattle.cert_obj.specs.Formats as certificates
use Rattle.crl_obj.specs.Values.{CrlValue, IsCrl}
use Rattle.crl_obj.specs.Formats as crls
use Rattle.cms_obj.specs.Formats.{signed_attributes}
use Rattle.cms_obj.specs.declared.values.HashedContent.{HashedContent}
use Rattle.cms_obj.specs.declared.values.ObjectKind.{ObjectKind}
use Rattle.cms_obj.specs.declared.values.ObjectKind.TheVariants as ObjectKinds
use Rattle.payloads.specs.RoaFormats.{IsRoa}
use Rattle.payloads.specs.ManifestFormats.{manifest, IsManifest}
use Rattle.key_roll.specs.declared.rows.KeyRow.{KeyRow}
use Rattle.issue_values.specs.Bodies.{roa_of, manifest_value_of}
use Rattle.issue_keys.specs.declared.fault.MakeFault.{MakeFault}
use Rattle.issue_keys.specs.declared.fault.MakeFault.TheVariants.{SignerFault, KeyClash, Memory}
use Rattle.issue_drafts.specs.IssueInput.{IssueInput}
use Rattle.issue_drafts.specs.Drafts.{Draft, Kind}
use Rattle.issue_drafts.specs.Drafts.Kind.{Certificate, Roa, Crl, Manifest}
use Rattle.issue_drafts.specs.Views.{draft_of, manifest_of, kind_of}
use Rattle.issue_drafts.specs.Views.{IsPositioned, IsSubjectPositioned}
use Rattle.issue_drafts.specs.Serials.{given_serial}
use Rattle.issue_drafts.specs.declared.draft.Draft as code
use Rattle.issue_drafts.specs.declared.draft.ManifestDraft as manifests
use Rattle.issue_drafts.specs.declared.draft.DraftKind.{DraftKind}
use Rattle.issue_drafts.specs.declared.draft.DraftKind.TheVariants as kinds
use Rattle.issue_sign.specs.declared.object.Object.{Object}
use Rattle.issue_sign.specs.declared.object.SignedContent.{SignedContent}
use Rattle.issue_sign.specs.declared.steps.Pending.{Pending}
use Rattle.issue_sign.specs.declared.steps.Pending.TheVariants as pending
use Rattle.issue_sign.specs.declared.steps.Step.{Step}
use Rattle.issue_sign.specs.declared.steps.Half.{Half}
use Rattle.issue_sign.specs.declared.steps.Half.TheVariants.{Made, Begun}
use Rattle.issue_sign.specs.Signed.{framed, object_bytes, IsCertificate, IsCrlOf, IsObject}
use Rattle.issue_sign.specs.Objects.{Answers, bytes_by, certificate, crl_of, roa_certificate}
use Rattle.issue_sign.specs.Objects.{roa_content, number_of, manifest_certificate}
use Rattle.issue_sign.specs.Calls.{by_issuer, by_once, first_calls, second_call, content_calls}
use Rattle.issue_sign.specs.SignInput.{SignInputValue}
use Rattle.issue_sign.specs.Spelled.{IsSpelled}
use Rattle.issue_sign.specs.Made.{answers_of, signed}

-- ---- calls

-- The signers made these calls, and vouch for what they signed.
pub record AreCalled (old new : List SignerState) (calls : List Call) : Type 0 where
  pub signers : new ≡ after_calls old calls
  pub vouched : All (IsVouched new) calls

-- Why the signers stopped at their jobs.
abbrev pub IsAskStop : List SignJob → List SignerState → List SignerState → MakeFault → Type 0
IsAskStop work old new (SignerFault n) = AreFailed work n old new
IsAskStop work old new (KeyClash id) = ⊥
IsAskStop work old new Memory = AreCutShort work old new

-- ---- what is signed next

abbrev pub asks : Pending → Bool
asks (pending.Whole object) = false
asks (pending.Certificate tbs) = true
asks (pending.Revocations tbs) = true
asks (pending.Content kind content) = true
asks (pending.Entity kind content tbs) = true

-- A signature with the issuer's key, and one with a new key of its signer.
abbrev pub signing : KeyRow → List ℕ → SignJob
signing key bytes = jobs.Sign key.signer key.key (record { bytes = sha256 bytes })

abbrev pub signing_once : KeyRow → List ℕ → SignJob
signing_once key bytes = jobs.Once key.signer (record { bytes = sha256 bytes })

-- The job, if there is one, and the call that it is with the answers.
abbrev pub job_for : ℕ → KeyRow → Pending → Option SignJob
job_for moment key (pending.Whole object) = None
job_for moment key (pending.Certificate tbs) = Some (signing key tbs.items)
job_for moment key (pending.Revocations tbs) = Some (signing key tbs.items)
job_for moment key (pending.Content kind content) =
    Some (signing_once key (signed_attributes kind content.bytes.items moment))
job_for moment key (pending.Entity kind content tbs) = Some (signing key tbs.items)

abbrev pub job_of : ℕ → Step → Option SignJob
job_of moment step = job_for moment step.issuer.now step.pending

abbrev pub call_for : ℕ → KeyRow → Pending → Answers → Option Call
call_for moment key (pending.Whole object) a = None
call_for moment key (pending.Certificate tbs) a = Some (by_issuer key tbs.items a.last)
call_for moment key (pending.Revocations tbs) a = Some (by_issuer key tbs.items a.last)
call_for moment key (pending.Content kind content) a =
    Some (by_once key (signed_attributes kind content.bytes.items moment) a)
call_for moment key (pending.Entity kind content tbs) a = Some (by_issuer key tbs.items a.last)

abbrev pub call_of : ℕ → Step → Answers → Option Call
call_of moment step a = call_for moment step.issuer.now step.pending a

abbrev pub calls_of : ℕ → List Step → List Answers → List Call
calls_of moment [] given = []
calls_of moment (step ∷ steps) [] = []
calls_of moment (step ∷ steps) (a ∷ given) =
    cons_option (call_of moment step a) (calls_of moment steps given)

-- ---- what is answered

-- The first of the answers that are left is of that kind.
abbrev pub HasSignature : List ring.Signed → Type 0
HasSignature [] = ⊥
HasSignature (answers.Signature s ∷ left) = ⊤
HasSignature (answers.Once once ∷ left) = ⊥

abbrev pub HasOnce : List ring.Signed → Type 0
HasOnce [] = ⊥
HasOnce (answers.Signature s ∷ left) = ⊥
HasOnce (answers.Once once ∷ left) = ⊤

abbrev pub IsSignatureIn : List ring.Signed → Signature → Type 0
IsSignatureIn [] signature = ⊥
IsSignatureIn (answers.Signature s ∷ left) signature = signature ≡ s
IsSignatureIn (answers.Once once ∷ left) signature = ⊥

abbrev pub IsOnceIn : List ring.Signed → OneUse → Type 0
IsOnceIn [] one = ⊥
IsOnceIn (answers.Signature s ∷ left) one = ⊥
IsOnceIn (answers.Once once ∷ left) one = one ≡ once

abbrev pub IsAnswered : Pending → List ring.Signed → Type 0
IsAnswered (pending.Whole object) left = ⊤
IsAnswered (pending.Certificate tbs) left = HasSignature left
IsAnswered (pending.Revocations tbs) left = HasSignature left
IsAnswered (pending.Content kind content) left = HasOnce left
IsAnswered (pending.Entity kind content tbs) left = HasSignature left

-- What it says.
abbrev pub answer_in : List ring.Signed → Answers
answer_in [] = record { once = []; content = []; last = [] }
answer_in (answers.Signature s ∷ left) = record { once = []; content = []; last = s.bytes }
answer_in (answers.Once once ∷ left) =
    record { once = once.key.bytes; content = once.signature.bytes; last = [] }

-- What the signers answered for a content, and the same with a signature of its certificate.
abbrev pub content_answers : SignedContent → Answers
content_answers c = record {
  once = c.once.key.bytes;
  content = c.once.signature.bytes;
  last = [];
}

abbrev pub entity_answers : SignedContent → List ℕ → Answers
entity_answers c last = record {
  once = c.once.key.bytes;
  content = c.once.signature.bytes;
  last = last;
}

-- All that was answered for an object, with the first of the answers that are left.
abbrev pub answers_with : Pending → List ring.Signed → Answers
answers_with (pending.Whole object) left = answers_of object
answers_with (pending.Certificate tbs) left = answer_in left
answers_with (pending.Revocations tbs) left = answer_in left
answers_with (pending.Content kind content) left = answer_in left
answers_with (pending.Entity kind content tbs) left = entity_answers content (answer_in left).last

-- The same of many, each with its own of them.
abbrev pub told : List Step → List ring.Signed → List Answers
told [] left = []
told (step ∷ steps) left =
    answers_with step.pending left ∷ told steps (cond (asks step.pending) (drop 1 left) left)

-- ---- what comes of it

abbrev pub half_answers : Half → Answers
half_answers (Made object) = answers_of object
half_answers (Begun content) = content_answers content

-- An object of these bytes, of which that is known.
pub record IsObjectOf (spelling : List ℕ) (Known : Type 0) (o : Object) : Type 0 where
  pub bytes : o.bytes ≡ spelling
  pub hash : o.hash ≡ sha256 spelling
  pub known : Known

-- The signed bytes of a certificate or a CRL, and which ones are read back.
pub record IsFramed (tbs : List ℕ) (Known : List ℕ → Type 0) (o : Object) : Type 0 where
  pub once : o.once ≡ None
  pub object : IsObjectOf (framed tbs o.signature.bytes) (Known o.signature.bytes) o

abbrev pub IsCertificateIn : List ℕ → List ℕ → Type 0
IsCertificateIn tbs signature =
    (cert : CertValue) → IsCert cert → tbs ≡ certificates.signed_bytes cert
    → IsCertificate cert signature

abbrev pub IsCrlIn : List ℕ → List ℕ → Type 0
IsCrlIn tbs signature =
    (crl : CrlValue) → IsCrl crl → tbs ≡ crls.signed_bytes crl → IsCrlOf crl signature

-- A signed object with the certificate of which these bytes are signed.
pub record IsEntity
    (moment : ℕ) (kind : ObjectKind) (c : SignedContent) (tbs : List ℕ) (o : Object)
    : Type 0 where
  pub once : o.once ≡ Some c.once
  pub object : (cert : CertValue) → IsCert cert → tbs ≡ certificates.signed_bytes cert
      → cert.not_before ≡ moment
      → IsObjectOf
      (object_bytes kind c.content.bytes.items cert o.signature.bytes c.once.key.bytes
      c.once.signature.bytes)
      (IsObject kind c.content.bytes.items cert o.signature.bytes c.once.key.bytes
      c.once.signature.bytes) o

abbrev pub IsOutcome : ℕ → Pending → Half → Type 0
IsOutcome moment (pending.Whole object) (Made o) = o ≡ object
IsOutcome moment (pending.Whole object) (Begun c) = ⊥
IsOutcome moment (pending.Certificate tbs) (Made o) =
    IsFramed tbs.items (IsCertificateIn tbs.items) o
IsOutcome moment (pending.Certificate tbs) (Begun c) = ⊥
IsOutcome moment (pending.Revocations tbs) (Made o) = IsFramed tbs.items (IsCrlIn tbs.items) o
IsOutcome moment (pending.Revocations tbs) (Begun c) = ⊥
IsOutcome moment (pending.Content kind content) (Made o) = ⊥
IsOutcome moment (pending.Content kind content) (Begun c) =
    c.content.bytes.items ≡ content.bytes.items
IsOutcome moment (pending.Entity kind content tbs) (Made o) =
    IsEntity moment kind content tbs.items o
IsOutcome moment (pending.Entity kind content tbs) (Begun c) = ⊥

-- ---- lists side by side

-- Each of the second list has that relation to the one at its position in the first.
abbrev pub Pairs : {A B : Type 0} → (A → B → Type 0) → List A → List B → Type 0
Pairs R [] [] = Unit {0}
Pairs R [] (y ∷ ys) = ⊥
Pairs R (x ∷ xs) [] = Unit {0}
Pairs R (x ∷ xs) (y ∷ ys) = R x y × Pairs R xs ys

-- The same of three lists.
abbrev pub Triples : {A B C : Type 0} → (A → B → C → Type 0) → List A → List B → List C → Type 0
Triples R xs ys [] = Unit {0}
Triples R [] ys (z ∷ zs) = ⊥
Triples R (x ∷ xs) [] (z ∷ zs) = ⊥
Triples R (x ∷ xs) (y ∷ ys) (z ∷ zs) = R x y z × Triples R xs ys zs

-- ---- why it stopped

-- Answers that begin with what was answered before.
abbrev pub IsKept : Pending → Answers → Type 0
IsKept (pending.Whole object) a = a ≡ answers_of object
IsKept (pending.Certificate tbs) a = ⊤
IsKept (pending.Revocations tbs) a = ⊤
IsKept (pending.Content kind content) a = ⊤
IsKept (pending.Entity kind content tbs) a = a ≡ entity_answers content a.last

-- Of each signer the calls are the first of those for all these steps, and it has these others.
pub record AreStepsBegun
    (moment : ℕ) (steps : List Step) (calls : List Call) (others : ℕ → List Call) : Type 0 where
  pub given : List Answers
  pub each : length given ≡ length steps
  pub kept : Pairs (λ step a. IsKept step.pending a) steps given
  pub whole : (n : ℕ) → calls_on n calls ++ others n ≡ calls_on n (calls_of moment steps given)

pub record IsStepsFault
    (moment : ℕ) (steps : List Step) (old new : List SignerState) (number : ℕ) : Type 0 where
  pub calls : List Call
  pub others : ℕ → List Call
  pub begun : AreStepsBegun moment steps calls others
  pub next : Call
  pub behind : List Call
  pub more : others number ≡ next ∷ behind
  pub fault : CountFaults number (after_calls old calls) new

pub record IsStepsShort (moment : ℕ) (steps : List Step) (old new : List SignerState) : Type 0 where
  pub calls : List Call
  pub others : ℕ → List Call
  pub begun : AreStepsBegun moment steps calls others
  pub signers : new ≡ after_calls old calls

abbrev pub IsStepsStop : ℕ → List Step → List SignerState → List SignerState → MakeFault → Type 0
IsStepsStop moment steps old new (SignerFault number) = IsStepsFault moment steps old new number
IsStepsStop moment steps old new (KeyClash id) = ⊥
IsStepsStop moment steps old new Memory = IsStepsShort moment steps old new

-- ---- what is signed next for an object

pub record IsCertificateStep (cert : CertValue) (p : Pending) : Type 0 where
  pub tbs : Vec ℕ Global
  pub is : p ≡ pending.Certificate tbs
  pub whole : IsCert cert
  pub bytes : tbs.items ≡ certificates.signed_bytes cert

pub record IsCrlStep (crl : CrlValue) (p : Pending) : Type 0 where
  pub tbs : Vec ℕ Global
  pub is : p ≡ pending.Revocations tbs
  pub whole : IsCrl crl
  pub bytes : tbs.items ≡ crls.signed_bytes crl

pub record IsContentStep (kind : ObjectKind) (text : List ℕ) (p : Pending) : Type 0 where
  pub content : HashedContent
  pub is : p ≡ pending.Content kind content
  pub bytes : content.bytes.items ≡ text

pub record IsEntityStep
    (kind : ObjectKind) (c : SignedContent) (cert : CertValue) (p : Pending) : Type 0 where
  pub tbs : Vec ℕ Global
  pub is : p ≡ pending.Entity kind c tbs
  pub whole : IsCert cert
  pub bytes : tbs.items ≡ certificates.signed_bytes cert

-- ---- drafts

-- A ROA alone is signed twice.
abbrev pub is_route : DraftKind → Bool
is_route (kinds.Authority subject held) = false
is_route (kinds.Route origin) = true
is_route kinds.Crl = false

abbrev pub is_content : Pending → Bool
is_content (pending.Whole object) = false
is_content (pending.Certificate tbs) = false
is_content (pending.Revocations tbs) = false
is_content (pending.Content kind content) = true
is_content (pending.Entity kind content tbs) = false

abbrev pub is_begun : Half → Bool
is_begun (Made object) = false
is_begun (Begun content) = true

-- A step for the object of a draft: by its issuer, and of a content where the draft is a ROA.
pub record IsStepOf (d : code.Draft) (step : Step) : Type 0 where
  pub issuer : step.issuer.now ≡ d.issuer.row.now
  pub kind : is_content step.pending ≡ is_route d.kind

-- What is signed first for a draft.
abbrev pub IsFirstOf : IssueInput → SignInputValue → Draft → Kind → Pending → Type 0
IsFirstOf s b d (Certificate subject held) p =
    IsCertificateStep (certificate s b.keys b.all d subject held) p
IsFirstOf s b d (Roa origin) p =
    IsRoa (roa_of origin) × IsContentStep ObjectKinds.Roa (roa_content origin) p
IsFirstOf s b d Crl p = IsCrlStep (crl_of s b.entries d.issuer) p
IsFirstOf s b d Manifest p = ⊥

-- The content of a ROA, as it was signed.
pub record IsRoaContent (kind : Kind) (c : SignedContent) : Type 0 where
  pub origin : Origin
  pub is : kind ≡ Roa origin
  pub spelled : IsRoa (roa_of origin)
  pub bytes : c.content.bytes.items ≡ roa_content origin

-- What a draft is after its first signature.
abbrev pub IsHalf : IssueInput → SignInputValue → Draft → Kind → Half → Type 0
IsHalf s b d kind (Made o) =
    (second_call s b.keys b.all d kind (answers_of o) ≡ None)
    × IsObjectOf (bytes_by s b.keys b.all b.entries d kind (answers_of o))
    (IsSpelled s b d kind (answers_of o)) o
IsHalf s b d kind (Begun c) = IsRoaContent kind c

-- A draft of that basis, with its serial.
pub record IsDraft (b : SignInputValue) (d : code.Draft) (given : ℕ) : Type 0 where
  pub issuer : IsPositioned b.rows d.issuer
  pub subject : IsSubjectPositioned b.rows d.kind
  pub serial : given ≡ given_serial b.all (draft_of d)

-- The signers made the first calls for these drafts, of which that came.
pub record AreHalves
    (s : IssueInput) (b : SignInputValue) (drafts : List code.Draft) (halves : List Half)
    (old new : List SignerState) : Type 0 where
  pub calls : AreCalled old new
      (first_calls s b.keys b.all b.entries
      (signed (map draft_of drafts) (map half_answers halves)))
  pub pairs : Pairs (λ d h. IsHalf s b (draft_of d) (kind_of d.kind) h) drafts halves

-- What is signed for it then: nothing, or the certificate of a ROA.
abbrev pub IsSecondOf : IssueInput → SignInputValue → Draft → Kind → Half → Pending → Type 0
IsSecondOf s b d kind (Made o) p = p ≡ pending.Whole o
IsSecondOf s b d kind (Begun c) p = (origin : Origin) → kind ≡ Roa origin
    → IsEntityStep ObjectKinds.Roa c (roa_certificate s b.keys b.all d origin c.once.key.bytes) p

-- ---- manifests

-- The content of a manifest that lists these files.
abbrev pub manifest_text : IssueInput → KeyRow → List (List ℕ × List ℕ) → List ℕ
manifest_text s key files =
    manifest.spelling (manifest_value_of s.work.moment (number_of key) files)

-- What is signed first for a manifest.
pub record IsTextOf
    (s : IssueInput) (key : KeyRow) (files : List (List ℕ × List ℕ)) (p : Pending) : Type 0 where
  pub step : IsContentStep ObjectKinds.Manifest (manifest_text s key files) p
  pub spelled : IsManifest (manifest_value_of s.work.moment (number_of key) files)

pub record IsContent
    (s : IssueInput) (key : KeyRow) (files : List (List ℕ × List ℕ)) (c : SignedContent)
    : Type 0 where
  pub bytes : c.content.bytes.items ≡ manifest_text s key files
  pub spelled : IsManifest (manifest_value_of s.work.moment (number_of key) files)

-- The same, signed.
abbrev pub IsContentHalf : IssueInput → KeyRow → List (List ℕ × List ℕ) → Half → Type 0
IsContentHalf s key files (Made o) = ⊥
IsContentHalf s key files (Begun c) = IsContent s key files c

-- The signers signed the contents of these manifests.
pub record AreContents
    (s : IssueInput) (b : SignInputValue) (drafts : List manifests.ManifestDraft)
    (halves : List Half) (old new : List SignerState) : Type 0 where
  pub calls : AreCalled old new
      (content_calls s b.files (signed (map manifest_of drafts) (map half_answers halves)))
  pub pairs : Pairs (λ d h. IsContentHalf s d.issuer.row.now (b.files d.issuer.row.now) h)
      drafts halves

-- What is signed for it then: the certificate of the manifest's key.
abbrev pub IsLastOf : IssueInput → SignInputValue → Draft → Half → Pending → Type 0
IsLastOf s b d (Made o) p = ⊥
IsLastOf s b d (Begun c) p =
    IsEntityStep ObjectKinds.Manifest c (manifest_certificate s b.keys b.all d c.once.key.bytes) p
