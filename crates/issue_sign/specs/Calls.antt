-- The calls on signers that an edition makes, in their order (RFC 7935 section 2).
use Rattle.std.specs.Prelude.{ℕ, List, [], map, Option, None, Some}
use Rattle.std.specs.List.{filter_map}
use Rattle.cert_obj.specs.Formats as certificates
use Rattle.crl_obj.specs.Formats as crls
use Rattle.cms_obj.specs.declared.values.ObjectKind.TheVariants as ObjectKinds
use Rattle.signer_ring.specs.Calls.{Call}
use Rattle.key_roll.specs.declared.rows.KeyRow.{KeyRow}
use Rattle.issue_sign.specs.Signed.{by_key, by_one_use}
use Rattle.issue_drafts.specs.WorkKeys.{Keys}
use Rattle.issue_drafts.specs.IssueInput.{IssueInput}
use Rattle.issue_drafts.specs.Drafts.{Draft, Kind}
use Rattle.issue_drafts.specs.Drafts.Kind.{Certificate, Roa, Crl, Manifest}
use Rattle.issue_sign.specs.Objects.{Answers, Signed, Entries, Files, certificate}
use Rattle.issue_sign.specs.Objects.{roa_certificate, manifest_certificate, crl_of}
use Rattle.issue_sign.specs.Objects.{roa_content, manifest_content, attributes}

-- A signature of bytes with the issuer's key, by the issuer's signer.
abbrev pub by_issuer : KeyRow → List ℕ → List ℕ → Call
by_issuer key bytes signature =
    by_key key.signer key.key.bytes bytes signature

-- A signature of bytes with a one-use key of the issuer's signer.
abbrev pub by_once : KeyRow → List ℕ → Answers → Call
by_once key bytes a = by_one_use key.signer a.once bytes a.content

-- The first call for an object, and the second where it has one.
abbrev pub first_call : IssueInput → Keys → List Draft → Entries → Draft → Kind → Answers → Call
first_call s keys all entries d (Certificate subject held) a =
    by_issuer d.issuer (certificates.signed_bytes (certificate s keys all d subject held)) a.last
first_call s keys all entries d (Roa origin) a =
    by_once d.issuer (attributes s ObjectKinds.Roa (roa_content origin)) a
first_call s keys all entries d Crl a =
    by_issuer d.issuer (crls.signed_bytes (crl_of s entries d.issuer)) a.last
first_call s keys all entries d Manifest a = by_once d.issuer [] a

abbrev pub second_call : IssueInput → Keys → List Draft → Draft → Kind → Answers → Option Call
second_call s keys all d (Certificate subject held) a = None
second_call s keys all d (Roa origin) a =
    Some (by_issuer d.issuer
    (certificates.signed_bytes (roa_certificate s keys all d origin a.once)) a.last)
second_call s keys all d Crl a = None
second_call s keys all d Manifest a = None

abbrev pub first_calls : IssueInput → Keys → List Draft → Entries → List Signed → List Call
first_calls s keys all entries made =
    map (λ x. first_call s keys all entries x.draft x.draft.kind x.answers) made

abbrev pub second_calls : IssueInput → Keys → List Draft → List Signed → List Call
second_calls s keys all made =
    filter_map (λ x. second_call s keys all x.draft x.draft.kind x.answers) made

abbrev pub content_calls : IssueInput → Files → List Signed → List Call
content_calls s files listed =
    map (λ x. by_once x.draft.issuer
    (attributes s ObjectKinds.Manifest (manifest_content s files x.draft.issuer)) x.answers) listed

abbrev pub last_calls : IssueInput → Keys → List Draft → List Signed → List Call
last_calls s keys all listed =
    map (λ x. by_issuer x.draft.issuer
    (certificates.signed_bytes (manifest_certificate s keys all x.draft x.answers.once))
    x.answers.last) listed
