-- Keys and where they publish (RFC 6481 section 2).
use Rattle.std.specs.Prelude.{◌≡◌, ℕ, List, ◌++◌, length, codes}
use Rattle.hex.specs.Hex.{encode_lower}
use Rattle.origins.specs.declared.Origin.{Origin}
use Rattle.origins.specs.Origin.{origin_text}
use Rattle.der.specs.Grammar.{AreBytes}
use Rattle.names.specs.Name.{IsName}
use Rattle.key_ids.specs.Base.{IsBase, rsync_scheme, https_scheme}
use Rattle.key_ids.specs.Uris.{Bases, file_uri, crl_uri, manifest_uri}
use Rattle.signer_api.specs.PublicKey.{IsPublicKey}
use Rattle.issue_values.specs.declared.publishers.Publisher.{Publisher}

-- A key by its bytes, its identifier, its authority's name, and the URI of its own certificate.
pub record Publishing : Type 0 where
  pub key : List ℕ
  pub id : List ℕ
  pub name : List ℕ
  pub certificate : List ℕ

abbrev pub publishing : Publisher → Publishing
publishing p = record {
  key = p.key.bytes;
  id = p.id.bytes;
  name = p.name;
  certificate = p.certificate;
}

-- The URIs of its CRL and of its manifest.
abbrev pub crl_of : Bases → Publishing → List ℕ
crl_of site p = crl_uri site p.name p.id

abbrev pub manifest_of : Bases → Publishing → List ℕ
manifest_of site p = manifest_uri site p.name p.id

-- The URI of an origin's ROA, in the folder of the authority of that name.
abbrev pub roa_uri : Bases → List ℕ → Origin → List ℕ
roa_uri site name origin = file_uri site name (encode_lower (origin_text origin) ++ codes ".roa")

-- What the types say of a key, and of the site at which it publishes.
pub record CanPublish (site : Bases) (p : Publishing) : Type 0 where
  pub rsync : IsBase rsync_scheme site.rsync
  pub rrdp : IsBase https_scheme site.rrdp
  pub name : IsName p.name
  pub id : (length p.id ≡ 20) × AreBytes p.id
  pub key : IsPublicKey p.key
