-- What a CRL says, and which CRLs have a spelling (RFC 5280 section 5, RFC 6487 section 5).
use Rattle.std.specs.Prelude.{◌≡◌, ℕ, ◌<◌, ◌^◌, Bool, true, ◌&&◌, nat_lt, List, [], ◌∷◌, length}
use Rattle.der.specs.Grammar.{AreBytes}
use Rattle.der.specs.Forms.{AreAll}
use Rattle.moments.specs.Civil.{IsMoment}
use Rattle.crl_obj.specs.declared.values.Crl.{Crl}
use Rattle.crl_obj.specs.declared.values.CrlEntry.{CrlEntry}
use Rattle.crl_obj.specs.declared.values.ReadCrl.{ReadCrl}

-- What is signed (RFC 5280 section 5.1.2): the 20 bytes of the identifier of the issuer's key, the
-- times, the CRL's number, and the revoked certificates.
pub record CrlValue : Type 0 where
  pub issuer : List ℕ
  pub this_update : ℕ
  pub next_update : ℕ
  pub number : ℕ
  pub entries : List CrlEntry

-- It with the SHA-256 of the bytes that are signed, and the signature.
pub record SignedCrl : Type 0 where
  pub crl : CrlValue
  pub digest : List ℕ
  pub signature : List ℕ

abbrev pub crl_value : Crl → CrlValue
crl_value c = record {
  issuer = c.issuer.bytes;
  this_update = c.this_update;
  next_update = c.next_update;
  number = c.number;
  entries = c.entries.items;
}

abbrev pub read_value : ReadCrl → SignedCrl
read_value r = record {
  crl = crl_value r.crl;
  digest = r.digest.bytes;
  signature = r.signature.bytes;
}

-- An entry that has a spelling.
pub record IsEntry (e : CrlEntry) : Type 0 where
  pub serial : e.serial < 2 ^ 64
  pub revoked_at : IsMoment e.revoked_at

-- Each serial is above the one before it, the first above that number.
abbrev pub rise_above : ℕ → List CrlEntry → Bool
rise_above n [] = true
rise_above n (e ∷ es) = nat_lt n e.serial && rise_above e.serial es

-- Each serial is above the one before it.
abbrev pub are_rising : List CrlEntry → Bool
are_rising [] = true
are_rising (e ∷ es) = rise_above e.serial es

-- A CRL that has a spelling: its times, and those of its entries, lie in the years 2000 to 9999,
-- and the serials rise.
pub record IsCrl (c : CrlValue) : Type 0 where
  pub issuer : (length c.issuer ≡ 20) × AreBytes c.issuer
  pub this_update : IsMoment c.this_update
  pub next_update : IsMoment c.next_update
  pub number : c.number < 2 ^ 64
  pub entries : AreAll IsEntry c.entries
  pub rising : are_rising c.entries ≡ true
