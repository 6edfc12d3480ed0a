-- What is visited is accepted: an authority's certificate and a ROA are files of a point that is
-- visited before, a point is that of an authority whose certificate is visited before.
use Rattle.std.specs.Prelude.{◌≡◌, ℕ, true, false, List, [], ◌∷◌, ◌++◌, Some, Ok, ◌⊎◌}
use Rattle.std.specs.List.{Contains}
use Rattle.sha2.specs.Sha256.{sha256}
use Rattle.pub_set.specs.Changes.{Contents}
use Rattle.rp_rules.specs.Objects.{SignedRoa}
use Rattle.rp_rules.specs.Authorities.{Authority, listed_uri}
use Rattle.rp_rules.specs.Certificates.{WalkContext, File, is_among, accepted_anchor}
use Rattle.rp_rules.specs.Certificates.{accepted_authority}
use Rattle.rp_rules.specs.Points.{Point, is_certificate_file, other_files, accepted_point, accepted_roa}
use Rattle.rp_rules.specs.Walk.{Visit, Certificate, Published, Route, visited}

-- The certificate is the anchor's, and nothing is visited before.
abbrev pub IsFirst : WalkContext → Contents → List Visit → Authority → Type 0
IsFirst s held before authority = (before ≡ []) × (accepted_anchor s held ≡ Ok authority)

-- The certificate is a file of a point visited before: accepted under that point's authority and
-- the entries of its CRL, once these were visited.
pub record IsListed (s : WalkContext) (held : Contents) (before : List Visit) (child : Authority)
    : Type 0 where
  pub issuer : Point
  pub known : Contains before (Published issuer)
  pub file : File
  pub listed : Contains (other_files issuer) file
  pub kind : is_certificate_file file ≡ true
  pub accepted :
      accepted_authority s held issuer.authority issuer.crl.entries (visited before) file
      ≡ Ok child

-- The point is that of an authority whose certificate is visited before.
pub record IsVisitedPoint (s : WalkContext) (held : Contents) (before : List Visit) (p : Point)
    : Type 0 where
  pub known : Contains before (Certificate p.authority)
  pub accepted : accepted_point s held p.authority (visited before) ≡ Ok p

-- The ROA is a file, at that URI, of a point of the authority that is visited before: accepted
-- under it and the entries of its CRL, once these were visited.
pub record IsRoute (s : WalkContext) (held : Contents) (before : List Visit)
    (authority : Authority)
    (place : List ℕ) (roa : SignedRoa) : Type 0 where
  pub issuer : Point
  pub known : Contains before (Published issuer)
  pub above : issuer.authority ≡ authority
  pub file : File
  pub listed : Contains (other_files issuer) file
  pub kind : is_certificate_file file ≡ false
  pub there : listed_uri authority file.0 ≡ place
  pub accepted : accepted_roa s held issuer (visited before) file ≡ Ok roa

abbrev pub IsAccepted : WalkContext → Contents → List Visit → Visit → Type 0
IsAccepted s held before (Certificate authority) =
    IsFirst s held before authority ⊎ IsListed s held before authority
IsAccepted s held before (Published p) = IsVisitedPoint s held before p
IsAccepted s held before (Route authority uri roa) = IsRoute s held before authority uri roa

-- Each visit is accepted, after those before it.
abbrev pub AreAccepted : WalkContext → Contents → List Visit → Type 0
AreAccepted s held visits = (before : List Visit) (visit : Visit) (after : List Visit)
    → visits ≡ before ++ visit ∷ after → IsAccepted s held before visit

-- ---- files of a point

-- A listed file is there in the authority's folder, has the listed hash, and is visited (RFC 9286
-- sections 6.4 and 6.5).
pub record IsReached (held : Contents) (visits : List Visit) (p : Point) (file : File)
    : Type 0 where
  pub bytes : List ℕ
  pub there : held (listed_uri p.authority file.0) ≡ Some bytes
  pub hash : sha256 bytes ≡ file.1
  pub reached : is_among (visited visits) (listed_uri p.authority file.0) ≡ true
