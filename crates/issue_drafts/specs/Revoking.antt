-- What the CRLs of an edition list (RFC 5280 section 5.1.2.6, RFC 6487 section 5).
use Rattle.std.specs.Prelude.{ℕ, ◌==◌, Bool, not, ◌&&◌, nat_le, ◌||◌, if◌then◌else◌, List, ◌++◌}
use Rattle.std.specs.Prelude.{map, filter}
use Rattle.std.specs.List.{list_any}
use Rattle.std.specs.Str.{bytes_eq}
use Rattle.key_ids.specs.Uris.{anchor_uri}
use Rattle.key_roll.specs.declared.rows.KeyRow.{KeyRow}
use Rattle.key_roll.specs.declared.rows.RevokedRow.{RevokedRow}
use Rattle.key_roll.specs.declared.issued.IssuedRow.{IssuedRow}
use Rattle.issue_keys.specs.Keys.{id_of}
use Rattle.issue_drafts.specs.WorkKeys.{Keys}
use Rattle.issue_drafts.specs.IssueInput.{IssueInput}
use Rattle.issue_drafts.specs.Publishers.{names_key}
use Rattle.issue_drafts.specs.Drafts.{Draft}

-- A URI that is put or withdrawn.
abbrev pub is_touched : IssueInput → List Draft → List ℕ → Bool
is_touched s puts uri =
    list_any (λ d. bytes_eq d.uri uri) puts || list_any (λ w. bytes_eq w uri) s.work.withdrawn

-- A certificate ends where its object is put anew or withdrawn. A CRL has none, and the trust
-- anchor's own isn't counted.
abbrev pub is_superseded : IssueInput → List Draft → KeyRow → IssuedRow → Bool
is_superseded s puts key row =
    bytes_eq row.issuer.bytes (id_of key) && not (row.serial == 0)
    && not (bytes_eq row.uri (anchor_uri s.site)) && is_touched s puts row.uri

abbrev pub revoked_row : ℕ → IssuedRow → RevokedRow
revoked_row moment row =
    record { serial = row.serial; not_after = row.not_after; revoked_at = moment }

-- The key gets a new CRL and a manifest.
abbrev pub has_point : IssueInput → Keys → KeyRow → Bool
has_point s keys key = list_any (λ point. names_key keys point.key key) s.work.points

-- A new CRL leaves out what ended before the key's previous one.
abbrev pub is_listed : IssueInput → Keys → KeyRow → RevokedRow → Bool
is_listed s keys key row =
    nat_le (if has_point s keys key then key.this_update else 0) row.not_after

-- The entries that stand, and behind them the certificates that end, by their URIs.
abbrev pub candidates : IssueInput → Keys → List Draft → KeyRow → List RevokedRow
candidates s keys puts key =
    filter (is_listed s keys key)
    (key.revoked ++ map (revoked_row s.work.moment) (filter (is_superseded s puts key) s.issued))
