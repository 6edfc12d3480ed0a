-- How the entries of CRLs are found.
use Rattle.std.specs.Prelude.{◌≡◌, ℕ, ◌+◌, ◌==◌, Bool, not, ◌&&◌, nat_le, if◌then◌else◌}
use Rattle.std.specs.Prelude.{List, [], ◌∷◌, ◌++◌, map, filter, length, drop, slice_get}
use Rattle.std.specs.Prelude.{Option, None, Some, Result, Ok, Err}
use Rattle.std.specs.List.Sorted.{IsBinarySearchResult, IsSearchInRange}
use Rattle.std.specs.Str.{bytes_eq}
use Rattle.pub_set.specs.Objects.{uri_cmp}
use Rattle.issue_keys.specs.declared.key_index.KeyPosition.{KeyPosition}
use Rattle.issue_keys.specs.Indexes.{key_positions}
use Rattle.key_ids.specs.declared.identifier.KeyId.{KeyId}
use Rattle.key_roll.specs.declared.rows.KeyRow.{KeyRow}
use Rattle.key_roll.specs.declared.rows.RevokedRow.{RevokedRow}
use Rattle.key_roll.specs.declared.issued.IssuedRow.{IssuedRow}
use Rattle.issue_keys.specs.Keys.{id_of}
use Rattle.issue_drafts.specs.Revoking.{revoked_row}
use Rattle.issue_drafts.specs.Touching.{has_uri}

-- A certificate that ends, where those URIs are touched and the trust anchor's own has that one.
abbrev pub ends : List ℕ → List (List ℕ) → IssuedRow → Bool
ends anchor touched row =
    not (row.serial == 0) && not (bytes_eq row.uri anchor) && has_uri row.uri touched

-- It ends where its URI is touched.
abbrev pub is_counted : List ℕ → IssuedRow → Bool
is_counted anchor row = not (row.serial == 0) && not (bytes_eq row.uri anchor)

-- The key that issued it, if it ends where its URI is touched.
abbrev pub counted_key : List ℕ → IssuedRow → Option KeyId
counted_key anchor row = if is_counted anchor row then Some row.issuer else None

-- The row at that place among those from a position on is told of, and the next is looked for
-- behind it.
pub record IsTold (anchor : List ℕ) (rest : List IssuedRow) (from next at : ℕ)
    (before after : List KeyPosition) : Type 0 where
  pub behind : next ≡ from + at + 1
  pub row : IssuedRow
  pub there : slice_get rest at ≡ Some row
  pub added : after ≡ before ++ key_positions (from + at) (counted_key anchor row ∷ [])

-- The same if there is a row at that place.
abbrev pub IsTaken : List ℕ → List IssuedRow → ℕ → ℕ → List KeyPosition → List KeyPosition
    → Result ℕ ℕ → Type 0
IsTaken anchor rest from next before after (Ok at) = IsTold anchor rest from next at before after
IsTaken anchor rest from next before after (Err at) = (next ≡ from + at) × (after ≡ before)

-- A URI is looked for among the rows from a position on.
pub record IsLook (anchor uri : List ℕ) (rows : List IssuedRow) (from next : ℕ)
    (before after : List KeyPosition) : Type 0 where
  pub place : Result ℕ ℕ
  pub bound : IsSearchInRange place (length (drop from rows))
  pub found : IsBinarySearchResult (λ row. uri_cmp row.uri uri) (drop from rows) place
  pub taken : IsTaken anchor (drop from rows) from next before after place

-- The key that issued it, if it ends.
abbrev pub ended_key : List ℕ → List (List ℕ) → IssuedRow → Option KeyId
ended_key anchor touched row = if ends anchor touched row then Some row.issuer else None

-- The previous CRL is of that moment, if the key gets a new one.
abbrev pub cutoff_of : KeyRow → Bool → ℕ
cutoff_of key has_point = if has_point then key.this_update else 0

-- It didn't end before that moment.
abbrev pub lasts : ℕ → RevokedRow → Bool
lasts cutoff row = nat_le cutoff row.not_after

-- The entries that stand, and those of certificates that end, without those of before.
abbrev pub listed : ℕ → KeyRow → Bool → List IssuedRow → List RevokedRow
listed moment key has_point ended =
    filter (lasts (cutoff_of key has_point)) (key.revoked ++ map (revoked_row moment) ended)

-- The certificates of the key that end.
abbrev pub ended_under : List ℕ → List (List ℕ) → List IssuedRow → KeyRow → List IssuedRow
ended_under anchor touched issued key =
    filter (λ row. bytes_eq row.issuer.bytes (id_of key) && ends anchor touched row) issued
