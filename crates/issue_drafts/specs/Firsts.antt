-- Of each serial the first of revoked certificates, by rising serial (RFC 5280 section
-- 5.1.2.6).
use Rattle.std.specs.Prelude.{◌≡◌, ℕ, ◌==◌, true, List, map, find, Option}
use Rattle.key_roll.specs.declared.rows.RevokedRow.{RevokedRow}
use Rattle.crl_obj.specs.Values.{are_rising}
use Rattle.issue_values.specs.Bodies.{crl_entry}

-- The first row with a serial.
abbrev pub row_at : List RevokedRow → ℕ → Option RevokedRow
row_at rows serial = find (λ row. row.serial == serial) rows

pub record AreFirsts (rows entries : List RevokedRow) : Type 0 where
  pub rising : are_rising (map crl_entry entries) ≡ true
  pub each : (serial : ℕ) → row_at entries serial ≡ row_at rows serial
