-- What a signed object says (RFC 6488 section 2).
use Rattle.std.specs.Prelude.{◌≡◌, ℕ, ◌<◌, ◌^◌, List, length}
use Rattle.der.specs.Spelling.{spelled}
use Rattle.cms_obj.specs.declared.values.ObjectKind.{ObjectKind}
use Rattle.cms_obj.specs.declared.values.SignedObject.{SignedObject}

-- The kind and the bytes of the content, the one certificate, the 20 bytes of the identifier of
-- the key that signs, the time of the signature, the SHA-256 of what is signed, and the
-- signature. The time is in seconds since 1970.
pub record ObjectValue : Type 0 where
  pub kind : ObjectKind
  pub content : List ℕ
  pub certificate : List ℕ
  pub signer : List ℕ
  pub moment : ℕ
  pub digest : List ℕ
  pub signature : List ℕ

abbrev pub object_value : SignedObject → ObjectValue
object_value o = record {
  kind = o.kind;
  content = o.content.now;
  certificate = o.certificate.now;
  signer = o.signer.bytes;
  moment = o.moment;
  digest = o.digest.bytes;
  signature = o.signature.bytes;
}

-- The bytes are one whole element of that tag, whose length takes no more than four bytes.
pub record IsElement (tag : ℕ) (bytes : List ℕ) : Type 0 where
  pub content : List ℕ
  pub short : length bytes < 2 ^ 32
  pub spelled : bytes ≡ spelled tag content
