-- What the ROAs, CRLs and manifests of an edition say (RFC 9582 section 4, RFC 5280 section
-- 5.1.2, RFC 9286 section 4.2.1).
use Rattle.std.specs.Prelude.{◌≡◌, ℕ, ◌+◌, ◌≤◌, true, List, [], ◌∷◌, map}
use Rattle.der.specs.Forms.{AreAll}
use Rattle.origins.specs.declared.Origin.{Origin}
use Rattle.key_roll.specs.declared.rows.RevokedRow.{RevokedRow}
use Rattle.crl_obj.specs.declared.values.CrlEntry.{CrlEntry}
use Rattle.crl_obj.specs.Values.{CrlValue, are_rising}
use Rattle.payloads.specs.Order.{rises}
use Rattle.payloads.specs.RoaFormats.{Entry}
use Rattle.payloads.specs.ManifestFormats.{Manifest, IsFile, is_name_below}
use Rattle.issue_values.specs.Certificates.{point_life}

-- An origin's ROA authorizes its AS for its prefix, up to its maximum.
abbrev pub roa_entry : Origin → Entry
roa_entry origin = record {
  v6 = origin.prefix.v6;
  address = origin.prefix.address;
  len = origin.prefix.length;
  max = origin.max;
}

abbrev pub roa_of : Origin → ℕ × List Entry
roa_of origin = (origin.asn, roa_entry origin ∷ [])

-- A revoked certificate, as the CRL has it.
abbrev pub crl_entry : RevokedRow → CrlEntry
crl_entry row = record { serial = row.serial; revoked_at = row.revoked_at }

-- The CRL of the key with that identifier.
abbrev pub crl_value_of : ℕ → List ℕ → ℕ → List RevokedRow → CrlValue
crl_value_of moment id number revoked = record {
  issuer = id;
  this_update = moment;
  next_update = moment + point_life;
  number = number;
  entries = map crl_entry revoked;
}

-- Entries that a CRL can have at that moment.
pub record AreRevoked (moment : ℕ) (revoked : List RevokedRow) : Type 0 where
  pub rising : are_rising (map crl_entry revoked) ≡ true
  pub dated : AreAll (λ row. (946_684_800 ≤ row.revoked_at) × (row.revoked_at ≤ moment)) revoked

-- A key's manifest.
abbrev pub manifest_value_of : ℕ → ℕ → List (List ℕ × List ℕ) → Manifest
manifest_value_of moment number files = (number, (moment, (moment + point_life, files)))

-- Files that a manifest can list: by rising name.
pub record AreListed (files : List (List ℕ × List ℕ)) : Type 0 where
  pub each : AreAll IsFile files
  pub rising : rises is_name_below (map (λ file. file.0) files) ≡ true
