-- The serials that an edition gives (RFC 5280 section 4.1.2.2).
use Rattle.std.specs.Prelude.{ℕ, if◌then◌else◌, List}
use Rattle.issue_drafts.specs.Drafts.{Draft, has_serial, serial_at}

-- A CRL and a manifest take no serial.
abbrev pub given_serial : List Draft → Draft → ℕ
given_serial all d = if has_serial d.kind then serial_at all d.issuer d.uri else 0
