-- What a walk yields: origins, and publication points.
use Rattle.std.specs.Prelude.{ℕ, max, if◌then◌else◌, List, [], ◌∷◌, Option, None, Some, map}
use Rattle.std.specs.List.{flat_map, fold}
use Rattle.pub_set.specs.Changes.{Contents}
use Rattle.cert_obj.specs.Values.{CertValue, SignedCert, is_issued}
use Rattle.crl_obj.specs.declared.values.CrlEntry.{CrlEntry}
use Rattle.payloads.specs.ManifestFormats.{this_update_of}
use Rattle.payloads.specs.RoaFormats.{Entry, roa_asn, roa_entries}
use Rattle.rp_rules.specs.Objects.{SignedRoa, certificate_in, roa_in}
use Rattle.rp_rules.specs.Authorities.{Authority, listed_uri}
use Rattle.rp_rules.specs.Certificates.{File}
use Rattle.rp_rules.specs.Points.{Point, is_certificate_file, other_files}
use Rattle.rp_rules.specs.Walk.{Visit, Certificate, Published, Route}

-- ---- origins (RFC 9582 section 4)

-- An AS may announce the prefix of an entry, up to its maximum, by the authority of that folder.
pub record Yielded : Type 0 where
  pub folder : List ℕ
  pub asn : ℕ
  pub entry : Entry

abbrev pub yielded_of : List ℕ → ℕ → Entry → Yielded
yielded_of folder asn entry = record { folder = folder; asn = asn; entry = entry }

abbrev pub yield_of : Authority → SignedRoa → List Yielded
yield_of authority roa =
    map (yielded_of authority.cert.uris.folder (roa_asn roa.body)) (roa_entries roa.body)

abbrev pub yielded_by : Visit → List Yielded
yielded_by (Certificate authority) = []
yielded_by (Published p) = []
yielded_by (Route authority uri roa) = yield_of authority roa

-- One for each entry of each accepted ROA, in the order of the walk.
abbrev pub yield : List Visit → List Yielded
yield visits = flat_map yielded_by visits

-- ---- points

-- The serial of a certificate, or none.
abbrev pub serial_of : Option SignedCert → ℕ
serial_of None = 0
serial_of (Some c) = c.cert.serial

abbrev pub roa_serial : Option SignedRoa → ℕ
roa_serial None = 0
roa_serial (Some r) = r.certificate.cert.serial

abbrev pub serial_in : File → Option (List ℕ) → ℕ
serial_in file None = 0
serial_in file (Some bytes) =
    if is_certificate_file file
    then serial_of (certificate_in bytes)
    else roa_serial (roa_in bytes)

-- The serial of the certificate that a listed file is, or that it holds.
abbrev pub listed_serial : Contents → Point → File → ℕ
listed_serial held p file = serial_in file (held (listed_uri p.authority file.0))

-- That of a certificate that its own key signs.
abbrev pub own_serial : CertValue → ℕ
own_serial cert = if is_issued cert.kind then 0 else cert.serial

-- The greatest serial under a key: of what the point lists, of its manifest's certificate, and of
-- the anchor's own.
abbrev pub greatest_serial : Contents → Point → ℕ
greatest_serial held p =
    fold max (max (own_serial p.authority.cert) p.manifest.certificate.cert.serial)
    (map (listed_serial held p) (other_files p))

-- A point: its key, the number of manifest and CRL, when the CRL and when the manifest was made, the
-- greatest serial, the CRL's entries.
pub record PointValue : Type 0 where
  pub key : List ℕ
  pub number : ℕ
  pub this_update : ℕ
  pub manifest_update : ℕ
  pub greatest_serial : ℕ
  pub crl : List CrlEntry

abbrev pub point_value : Contents → Point → PointValue
point_value held p = record {
  key = p.authority.cert.key;
  number = p.crl.number;
  this_update = p.crl.this_update;
  manifest_update = this_update_of p.manifest.body;
  greatest_serial = greatest_serial held p;
  crl = p.crl.entries;
}

abbrev pub point_of : Contents → Visit → List PointValue
point_of held (Certificate authority) = []
point_of held (Published p) = point_value held p ∷ []
point_of held (Route authority uri roa) = []

-- One for each authority, in the order of the walk.
abbrev pub points : Contents → List Visit → List PointValue
points held visits = flat_map (point_of held) visits

-- What is told of a sound set: its yield, its points, and how many objects it has.
pub record AuditedValue : Type 0 where
  pub origins : List Yielded
  pub points : List PointValue
  pub objects : ℕ
