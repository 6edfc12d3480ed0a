-- Superseded certificates, which the next CRL of their key lists (RFC 5280 section 5, RFC 6487
-- section 5).
use Rattle.std.specs.Prelude.{◌≡◌, ℕ, ◌+◌, ◌≤◌, ◌<◌, true, false, List, take, map}
use Rattle.std.specs.Prelude.{slice_get, Some, Contains}
use Rattle.cert_obj.specs.Values.{SignedCert}
use Rattle.crl_obj.specs.Values.{SignedCrl, are_rising}
use Rattle.key_roll.specs.declared.rows.RevokedRow.{RevokedRow}
use Rattle.pub_set.specs.Changes.{Contents}
use Rattle.rp_rules.specs.Objects.{crl_in, is_anchors}
use Rattle.issue_values.specs.Bodies.{crl_entry}
use Rattle.editions.specs.Edition.{Edition, set_after, IsInLife}
use Rattle.editions.specs.Held.{Holds}

-- The CRL stands in the set, and names the key with that identifier as its issuer.
pub record IsCrlOf (held : Contents) (id : List ℕ) (crl : SignedCrl) : Type 0 where
  pub uri : List ℕ
  pub bytes : List ℕ
  pub there : held uri ≡ Some bytes
  pub read : crl_in bytes ≡ Some crl
  pub issuer : crl.crl.issuer ≡ id

-- In the edition at that position the certificate is superseded under the key, which is live: an
-- earlier edition of the key's life held it, this one doesn't, and its notAfter isn't before the
-- thisUpdate of a CRL of the key that stood until now. The trust anchor's own certificates never
-- are.
pub record IsSuperseded (editions : List Edition) (position : ℕ) (id : List ℕ)
    (certificate : SignedCert) : Type 0 where
  pub earlier : ℕ
  pub before : earlier < position
  pub life : IsInLife id editions earlier position
  pub held : Holds editions earlier id certificate
  pub gone : ¬ Holds editions position id certificate
  pub previous : SignedCrl
  pub listed : IsCrlOf (set_after (take position editions)) id previous
  pub due : previous.crl.this_update ≤ certificate.cert.not_after
  pub issued : is_anchors certificate ≡ false

-- The edition that superseded the certificate, by its position: the one before it, of the key's
-- life, held it, and none has since then.
pub record IsSupersededAt (editions : List Edition) (position : ℕ) (id : List ℕ)
    (certificate : SignedCert) (at : ℕ) : Type 0 where
  pub last : ℕ
  pub next : at ≡ last + 1
  pub life : IsInLife id editions last position
  pub held : Holds editions last id certificate
  pub since : (k : ℕ) → at ≤ k → k ≤ position → ¬ Holds editions k id certificate

-- The entry stands for a superseded certificate: with its serial, its notAfter, and the moment of
-- the edition that superseded it.
pub record IsEntryOf (editions : List Edition) (position : ℕ) (id : List ℕ) (entry : RevokedRow)
    (certificate : SignedCert) : Type 0 where
  pub superseded : IsSuperseded editions position id certificate
  pub at : ℕ
  pub when : IsSupersededAt editions position id certificate at
  pub by : Edition
  pub there : slice_get editions at ≡ Some by
  pub moment : entry.revoked_at ≡ by.moment
  pub serial : entry.serial ≡ certificate.cert.serial
  pub not_after : entry.not_after ≡ certificate.cert.not_after

-- By rising serial, each once: just the entries of what is superseded under the key in the edition
-- at that position.
pub record AreSuperseded (editions : List Edition) (position : ℕ) (id : List ℕ)
    (entries : List RevokedRow) : Type 0 where
  pub rising : are_rising (map crl_entry entries) ≡ true
  pub each : (entry : RevokedRow) → Contains entries entry
      → (certificate : SignedCert) × IsEntryOf editions position id entry certificate
  pub all : (certificate : SignedCert) → IsSuperseded editions position id certificate
      → (entry : RevokedRow) × Contains entries entry
      × IsEntryOf editions position id entry certificate

-- The CRL lists just what is superseded under its key in the edition at that position: each
-- certificate with the moment of the edition that superseded it (RFC 5280 section 5).
pub record ListsSuperseded (editions : List Edition) (position : ℕ) (crl : SignedCrl)
    : Type 0 where
  pub entries : List RevokedRow
  pub lists : crl.crl.entries ≡ map crl_entry entries
  pub superseded : AreSuperseded editions position crl.crl.issuer entries
