-- What the objects of an edition are made of.
use Rattle.std.specs.Prelude.{◌≡◌, ◌<◌, ◌^◌, ℕ, true, List, map, length, All}
use Rattle.std.specs.List.{HoldsAt}
use Rattle.cert_obj.specs.Values.{is_uri}
use Rattle.payloads.specs.ManifestFormats.{file_view}
use Rattle.payloads.specs.declared.values.ListedFile.{ListedFile}
use Rattle.key_roll.specs.declared.rows.KeyRow.{KeyRow}
use Rattle.issue_values.specs.Publishers.{publishing}
use Rattle.issue_values.specs.Certificates.{IsEditionMoment}
use Rattle.issue_values.specs.Bodies.{AreRevoked}
use Rattle.issue_drafts.specs.WorkKeys.{Keys}
use Rattle.issue_drafts.specs.IssueInput.{input_of}
use Rattle.issue_drafts.specs.Publishers.{publishing_of}
use Rattle.issue_drafts.specs.Drafts.{Draft, serial_behind}
use Rattle.issue_drafts.specs.Views.{draft_of, IsPositioned, IsSubjectPositioned}
use Rattle.issue_drafts.specs.Serials.{given_serial}
use Rattle.issue_drafts.specs.declared.draft.KeyAt.{KeyAt}
use Rattle.issue_drafts.specs.declared.draft.Draft as code
use Rattle.issue_drafts.specs.declared.draft.ManifestDraft as manifests
use Rattle.issue_drafts.specs.declared.draft.DraftKind.{DraftKind}
use Rattle.issue_drafts.specs.declared.draft.DraftKind.TheVariants.{Authority, Route, Crl}
use Rattle.issue_sign.specs.declared.sign_input.SignInput.{SignInput}
use Rattle.issue_sign.specs.Objects.{Entries, Files}

-- The keys of an edition, in their order; all its objects but the manifests, which take serials;
-- the entries of each key's CRL and the files of its manifest.
pub record SignInputValue : Type 0 where
  pub rows : List KeyRow
  pub keys : Keys
  pub all : List Draft
  pub entries : Entries
  pub files : Files

-- The values of the code are those of that basis.
pub record IsSignInput (sign_input : SignInput) (b : SignInputValue) : Type 0 where
  pub publishers : map publishing sign_input.publishers.now
      ≡ map (publishing_of (input_of sign_input.input.now) b.keys) b.rows
  pub entries : sign_input.revoked.now ≡ map b.entries b.rows

-- The same of drafts, with the serials that they take.
pub record AreDrafts (b : SignInputValue) (drafts : List code.Draft) (given : List ℕ) : Type 0 where
  pub issuers : All (λ d. IsPositioned b.rows d.issuer) drafts
  pub subjects : All (λ d. IsSubjectPositioned b.rows d.kind) drafts
  pub serials : given ≡ map (λ d. given_serial b.all (draft_of d)) drafts

-- The same of manifests, with the next serial of each key and the files of each manifest.
pub record AreManifests
    (b : SignInputValue) (drafts : List manifests.ManifestDraft) (next : List ℕ)
    (lists : List (List ListedFile)) : Type 0 where
  pub issuers : All (λ d. IsPositioned b.rows d.issuer) drafts
  pub serials : next ≡ map (serial_behind b.all) b.rows
  pub files : map (map file_view) lists ≡ map (λ d. b.files d.issuer.row.now) drafts

-- ---- what can be signed

-- Signatures can be dated at that moment, and CRLs can have the entries.
pub record CanSign (sign_input : SignInput) : Type 0 where
  pub moment : IsEditionMoment sign_input.input.now.work.now.moment
  pub entries : All (AreRevoked sign_input.input.now.work.now.moment) sign_input.revoked.now

-- A key that can issue: it has one more number, and certificates can name its own.
pub record CanIssue (sign_input : SignInput) (key : KeyAt) : Type 0 where
  pub inside : key.position < length sign_input.publishers.now
  pub certified : HoldsAt (λ p. is_uri p.certificate ≡ true) sign_input.publishers.now key.position
  pub number : key.row.now.number < 2 ^ 62

abbrev pub CanBeOfKind : SignInput → code.Draft → DraftKind → Type 0
CanBeOfKind sign_input d (Authority subject held) =
    subject.position < length sign_input.publishers.now
CanBeOfKind sign_input d (Route origin) = is_uri d.uri ≡ true
CanBeOfKind sign_input d Crl = d.issuer.position < length sign_input.revoked.now

-- An object that can be made.
pub record CanBeMade (sign_input : SignInput) (d : code.Draft) : Type 0 where
  pub issuer : CanIssue sign_input d.issuer
  pub kind : CanBeOfKind sign_input d d.kind
