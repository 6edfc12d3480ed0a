-- Where the objects of a repository stand (RFC 6481 section 2, RFC 8182 section 3.2).
use Rattle.std.specs.Prelude.{ℕ, List, ◌++◌, codes}
use Rattle.hex.specs.Hex.{encode_lower}

-- The bases of a repository: its rsync folder, and the https folder of its RRDP files.
pub record Bases : Type 0 where
  pub rsync : List ℕ
  pub rrdp : List ℕ

-- The trust anchor's certificate.
abbrev pub anchor_uri : Bases → List ℕ
anchor_uri bases = bases.rsync ++ codes "ta.cer"

-- The folder of an authority, the publication point of its keys.
abbrev pub folder_of : Bases → List ℕ → List ℕ
folder_of bases name = bases.rsync ++ name ++ codes "/0/"

-- A file in that folder.
abbrev pub file_uri : Bases → List ℕ → List ℕ → List ℕ
file_uri bases name file = folder_of bases name ++ file

-- The certificate of a key, in the folder of the parent that issued it. A key is given by the bytes of its
-- identifier.
abbrev pub cert_uri : Bases → List ℕ → List ℕ → List ℕ
cert_uri bases parent key = file_uri bases parent (encode_lower key ++ codes ".cer")

-- A key's CRL and its manifest, in the folder of the key's authority (RFC 6481 section 2.2).
abbrev pub crl_uri : Bases → List ℕ → List ℕ → List ℕ
crl_uri bases name key = file_uri bases name (encode_lower key ++ codes ".crl")

abbrev pub manifest_uri : Bases → List ℕ → List ℕ → List ℕ
manifest_uri bases name key = file_uri bases name (encode_lower key ++ codes ".mft")

-- The notification file (RFC 8182 section 3.2).
abbrev pub notify_uri : Bases → List ℕ
notify_uri bases = bases.rrdp ++ codes "notification.xml"
