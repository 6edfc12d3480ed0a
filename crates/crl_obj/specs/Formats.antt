-- The format of a CRL (RFC 5280 section 5.1, RFC 6487 section 5): version 2, one algorithm, the
-- issuer by one common name, and two extensions that aren't critical.
use Rattle.std.specs.Prelude.{◌≡◌, ℕ, ◌<◌, ◌^◌, Bool, true, false, Option, Some, None, List, [], ◌∷◌, length}
use Rattle.sha2.specs.Sha256.{sha256}
use Rattle.der.specs.Tags as tag
use Rattle.der.specs.Spelling.{spelled}
use Rattle.der.specs.Form.{Whole, Front}
use Rattle.der.specs.Forms.{AreAll, within, sole, both, after, only, preceded, optional, tested, many, mapped, mapped_front}
use Rattle.der.specs.Leaves.{number, constant}
use Rattle.object_parts.specs.declared.identifiers.TheConstants.{CRL_NUMBER}
use Rattle.object_parts.specs.TimeFormats.{time}
use Rattle.object_parts.specs.NameFormats.{name}
use Rattle.object_parts.specs.FrameFormats.{signature_algorithm, extension, issuer_key, signed}
use Rattle.crl_obj.specs.declared.values.CrlEntry.{CrlEntry}
use Rattle.crl_obj.specs.Values.{CrlValue, SignedCrl, IsEntry, rise_above, are_rising, IsCrl}

abbrev pub of_pair : ℕ × ℕ → CrlEntry
of_pair (serial, revoked_at) = record { serial = serial; revoked_at = revoked_at }

abbrev pub pair_of : CrlEntry → ℕ × ℕ
pair_of e = (e.serial, e.revoked_at)

-- A revoked certificate: its serial, and when it was revoked (RFC 5280 section 5.1.2.6).
unfoldable pub entry : Front CrlEntry
entry = mapped_front (within tag.sequence (both number (only time))) of_pair pair_of IsEntry

-- There are entries, and their serials rise (RFC 5280 section 5.1.2.6).
abbrev pub is_listed : List CrlEntry → Bool
is_listed [] = false
is_listed (e ∷ es) = rise_above e.serial es

-- A list of entries, which isn't empty.
unfoldable pub listed : Front (List CrlEntry)
listed = within tag.sequence (tested (many entry) is_listed)

-- The number of the CRL (section 5.2.3).
abbrev pub crl_number : Front ℕ
crl_number = extension CRL_NUMBER (only number)

-- The identifier of the issuer's key, which is the one that the issuer's name has (section 5.2.1),
-- and the number.
unfoldable pub extensions : List ℕ → Whole ℕ
extensions issuer =
    sole tag.context_0 (sole tag.sequence (preceded (issuer_key issuer) (only crl_number)))

abbrev pub entries_of : Option (List CrlEntry) → List CrlEntry
entries_of None = []
entries_of (Some es) = es

abbrev pub list_of : List CrlEntry → Option (List CrlEntry)
list_of [] = None
list_of (e ∷ es) = Some (e ∷ es)

-- Entries with rising serials, and the number of their CRL.
pub record AreRevoked (x : List CrlEntry × ℕ) : Type 0 where
  pub entries : AreAll IsEntry x.0
  pub rising : are_rising x.0 ≡ true
  pub number : x.1 < 2 ^ 64

abbrev pub of_optional : Option (List CrlEntry) × ℕ → List CrlEntry × ℕ
of_optional (listed, number) = (entries_of listed, number)

abbrev pub optional_of : List CrlEntry × ℕ → Option (List CrlEntry) × ℕ
optional_of (entries, number) = (list_of entries, number)

-- The list of entries, which is left out where there are none, and the extensions.
unfoldable pub revoked : List ℕ → Whole (List CrlEntry × ℕ)
revoked issuer =
    mapped (optional tag.sequence listed (extensions issuer)) of_optional optional_of AreRevoked

-- What follows the issuer's name: when the CRL was made (RFC 5280 section 5.1.2.4), when the next
-- one is due (section 5.1.2.5), and the rest.
unfoldable pub body : List ℕ → Whole (ℕ × (ℕ × (List CrlEntry × ℕ)))
body issuer = both time (both time (revoked issuer))

-- Version 2 (RFC 5280 section 5.1.2.1).
abbrev pub version : Front (Unit {0})
version = constant tag.integer (1 ∷ [])

abbrev pub of_parts : List ℕ × (ℕ × (ℕ × (List CrlEntry × ℕ))) → CrlValue
of_parts (issuer, (this_update, (next_update, (entries, number)))) = record {
  issuer = issuer;
  this_update = this_update;
  next_update = next_update;
  number = number;
  entries = entries;
}

abbrev pub parts_of : CrlValue → List ℕ × (ℕ × (ℕ × (List CrlEntry × ℕ)))
parts_of c = (c.issuer, (c.this_update, (c.next_update, (c.entries, c.number))))

-- The content of what is signed (RFC 5280 section 5.1.2).
unfoldable pub tbs_content : Whole CrlValue
tbs_content =
    mapped (preceded version (preceded signature_algorithm (after name body)))
    of_parts parts_of IsCrl

-- The bytes that are signed.
unfoldable pub signed_bytes : CrlValue → List ℕ
signed_bytes c = spelled tag.sequence (tbs_content.spelling c)

abbrev pub of_signed : CrlValue × List ℕ × List ℕ → SignedCrl
of_signed (crl, bytes, signature) = record { crl = crl; digest = sha256 bytes; signature = signature }

abbrev pub signed_of : SignedCrl → CrlValue × List ℕ × List ℕ
signed_of y = (y.crl, signed_bytes y.crl, y.signature)

-- A CRL that has a spelling, the digest of the bytes that are signed, and 256 bytes of signature.
pub record IsSignedCrl (y : SignedCrl) : Type 0 where
  pub crl : IsCrl y.crl
  pub digest : y.digest ≡ sha256 (signed_bytes y.crl)
  pub signature : length y.signature ≡ 256

-- A CRL with its signature (RFC 5280 section 5.1.1).
unfoldable pub signed_crl : Whole SignedCrl
signed_crl = mapped (signed tbs_content) of_signed signed_of IsSignedCrl
