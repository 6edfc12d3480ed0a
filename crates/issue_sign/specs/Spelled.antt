-- Which objects can be read back.
use Rattle.cms_obj.specs.declared.values.ObjectKind.TheVariants as ObjectKinds
use Rattle.payloads.specs.RoaFormats.{IsRoa}
use Rattle.payloads.specs.ManifestFormats.{IsManifest}
use Rattle.issue_values.specs.Bodies.{roa_of, manifest_value_of}
use Rattle.issue_sign.specs.Signed.{IsCertificate, IsCrlOf, IsObject}
use Rattle.issue_drafts.specs.IssueInput.{IssueInput}
use Rattle.issue_drafts.specs.Drafts.{Draft, Kind}
use Rattle.issue_drafts.specs.Drafts.Kind.{Certificate, Roa, Crl, Manifest}
use Rattle.issue_sign.specs.Objects.{Answers, certificate, roa_certificate, roa_content, crl_of}
use Rattle.issue_sign.specs.Objects.{number_of, manifest_certificate, manifest_content}
use Rattle.issue_sign.specs.SignInput.{SignInputValue}

-- What was made can be read back, unless it is longer than the formats can say.
abbrev pub IsSpelled : IssueInput → SignInputValue → Draft → Kind → Answers → Type 0
IsSpelled s b d (Certificate subject held) a =
    IsCertificate (certificate s b.keys b.all d subject held) a.last
IsSpelled s b d (Roa origin) a =
    IsRoa (roa_of origin) × IsObject ObjectKinds.Roa (roa_content origin)
    (roa_certificate s b.keys b.all d origin a.once) a.last a.once a.content
IsSpelled s b d Crl a = IsCrlOf (crl_of s b.entries d.issuer) a.last
IsSpelled s b d Manifest a =
    IsManifest (manifest_value_of s.work.moment (number_of d.issuer) (b.files d.issuer))
    × IsObject ObjectKinds.Manifest (manifest_content s b.files d.issuer)
    (manifest_certificate s b.keys b.all d a.once) a.last a.once a.content
