-- What holds between editions of live keys and of what stands.
use Rattle.std.specs.Prelude.{◌≡◌, ◌≢◌, ℕ, List, All}
use Rattle.der.specs.Grammar.{AreBytes}
use Rattle.names.specs.Name.{IsName}
use Rattle.key_ids.specs.Uris.{Bases, cert_uri, crl_uri, manifest_uri}
use Rattle.key_roll.specs.declared.rows.KeyRow.{KeyRow}
use Rattle.key_roll.specs.declared.rows.Role.TheVariants.{Current}
use Rattle.key_roll.specs.declared.issued.IssuedRow.{IssuedRow}
use Rattle.issue_keys.specs.Keys.{id_of}

-- The URI is none of a certificate, a CRL or a manifest of the key with that identifier, in the
-- folder of whichever name.
pub record IsElsewhere (site : Bases) (id uri : List ℕ) : Type 0 where
  pub certificate : (name : List ℕ) → IsName name → uri ≢ cert_uri site name id
  pub crl : (name : List ℕ) → IsName name → uri ≢ crl_uri site name id
  pub manifest : (name : List ℕ) → IsName name → uri ≢ manifest_uri site name id

-- At the places of keys that aren't live nothing stands: so a key that is made finds none. And the
-- trust anchor, which is the authority of desk 0, has no key but a current one.
pub record IsClear (site : Bases) (rows : List KeyRow) (issued : List IssuedRow) : Type 0 where
  pub places : (id : List ℕ) → AreBytes id → All (λ key. id_of key ≢ id) rows
      → All (λ row. IsElsewhere site id row.uri) issued
  pub anchor : All (λ key. key.desk ≡ 0 → key.role ≡ Current) rows
