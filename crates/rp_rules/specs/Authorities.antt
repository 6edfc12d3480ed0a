-- An authority whose certificate is accepted, and the places in use for what it publishes
-- (RFC 6481 section 2).
use Rattle.std.specs.Prelude.{ℕ, ◌+◌, ◌-◌, Bool, ◌&&◌, nat_lt, nat_le, nat_eq, List, ◌++◌, length, take, drop, codes}
use Rattle.std.specs.List.{list_all, starts_with, ends_with}
use Rattle.sha1.specs.Sha1.{sha1}
use Rattle.hex.specs.Hex.{encode_lower}
use Rattle.names.specs.Name.{is_name_byte}
use Rattle.key_ids.specs.Uris.{Bases}
use Rattle.cert_obj.specs.Values.{Sets, CertValue}

-- The URI of its certificate, what that says, and its resources: the certificate's, or where that
-- inherits the issuer's.
pub record Authority : Type 0 where
  pub uri : List ℕ
  pub cert : CertValue
  pub held : Sets

-- The identifier of the key of a certificate (RFC 6487 section 4.8.2).
abbrev pub key_id : CertValue → List ℕ
key_id cert = sha1 cert.key

-- A file in its folder, of that name.
abbrev pub listed_uri : Authority → List ℕ → List ℕ
listed_uri authority name = authority.cert.uris.folder ++ name

-- Its CRL, and the certificate of a key that it issues.
abbrev pub crl_uri_of : Authority → List ℕ
crl_uri_of authority = listed_uri authority (encode_lower (key_id authority.cert) ++ codes ".crl")

abbrev pub certificate_uri_of : Authority → CertValue → List ℕ
certificate_uri_of authority cert =
    listed_uri authority (encode_lower (key_id cert) ++ codes ".cer")

-- The manifest of a key, in that folder.
abbrev pub manifest_in_folder : List ℕ → CertValue → List ℕ
manifest_in_folder folder cert = folder ++ encode_lower (key_id cert) ++ codes ".mft"

-- Its manifest, which its certificate names.
abbrev pub manifest_place : Authority → List ℕ
manifest_place authority = authority.cert.uris.manifest

-- The name of an authority: 1 to 64 letters, digits, `-` and `_`.
abbrev pub is_authority_name : List ℕ → Bool
is_authority_name text =
    nat_lt 0 (length text) && nat_le (length text) 64 && list_all is_name_byte text

-- What is left of a text without so many bytes in front and so many at the end.
abbrev pub between : ℕ → ℕ → List ℕ → List ℕ
between front back text = take (length text - (front + back)) (drop front text)

-- The folder of an authority: the base, a name, and `/0/`.
abbrev pub is_folder : Bases → List ℕ → Bool
is_folder bases uri =
    starts_with nat_eq uri bases.rsync && ends_with nat_eq uri (codes "/0/")
    && is_authority_name (between (length bases.rsync) 3 uri)
