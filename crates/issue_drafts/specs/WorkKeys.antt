-- The keys of an edition, as its work names them.
use Rattle.std.specs.Prelude.{◌≡◌, ◌<◌, ℕ, ◌==◌, List, ◌++◌, map, find, take, drop, length}
use Rattle.std.specs.Prelude.{slice_get, Option, None, Some, option_map, ◌+◌}
use Rattle.std.specs.List.{position_from}
use Rattle.std.specs.Str.{bytes_eq}
use Rattle.std.specs.List.Sorted.{IsNonDecreasing}
use Rattle.key_ids.specs.declared.identifier.KeyId.{KeyId}
use Rattle.key_roll.specs.declared.rows.KeyRow.{KeyRow}
use Rattle.key_roll.specs.declared.work.KeyName.{KeyName}
use Rattle.key_roll.specs.declared.work.KeyName.TheVariants.{Live, Fresh}
use Rattle.issue_keys.specs.Keys.{id_of}
use Rattle.issue_keys.specs.Indexes.{IsIndex}
use Rattle.issue_drafts.specs.declared.key_finder.KeyFinder.{KeyFinder}

-- The keys that stay, and those that were made.
pub record Keys : Type 0 where
  pub kept : List KeyRow
  pub fresh : List KeyRow

abbrev pub all_keys : Keys → List KeyRow
all_keys keys = keys.kept ++ keys.fresh

-- The key that a name stands for.
abbrev pub key_named : Keys → KeyName → Option KeyRow
key_named keys (Live id) = find (λ row. bytes_eq (id_of row) id.bytes) (all_keys keys)
key_named keys (Fresh desk) = find (λ row. row.desk == desk) keys.fresh

-- ---- how keys are found

abbrev pub key_of : KeyRow → KeyId
key_of row = record { bytes = id_of row }

-- Rows of which those from that number on are of keys that were made.
abbrev pub keys_at : List KeyRow → ℕ → Keys
keys_at rows n = record { kept = take n rows; fresh = drop n rows }

-- What finds keys knows those of the edition.
pub record Finds (keys : Keys) (finder : KeyFinder) : Type 0 where
  pub ids : finder.ids.items ≡ map key_of (all_keys keys)
  pub live : IsIndex (map (λ row. Some (key_of row)) (all_keys keys)) finder.live
  pub desks : finder.desks.items ≡ map (λ row. row.desk) keys.fresh
  pub rising : IsNonDecreasing (map (λ row. row.desk) keys.fresh)
  pub first : finder.first_fresh ≡ length keys.kept

-- The position of the first new key of a desk, where the desks of new keys are those, and the first
-- of these keys stands there.
abbrev pub fresh_position : List ℕ → ℕ → ℕ → Option ℕ
fresh_position desks first desk =
    option_map (λ at. first + at) (position_from (λ d. d == desk) 0 desks)

-- The position of the key that a name stands for, if there is one.
abbrev pub IsPosition : Keys → KeyName → Option ℕ → Type 0
IsPosition keys name None = key_named keys name ≡ None
IsPosition keys name (Some position) =
    (key_named keys name ≡ slice_get (all_keys keys) position) × (position < length (all_keys keys))
