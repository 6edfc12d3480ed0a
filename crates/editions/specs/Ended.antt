-- Keys that an edition ended.
use Rattle.std.specs.Prelude.{Bool, not, List, map, filter}
use Rattle.std.specs.List.{list_any}
use Rattle.std.specs.Str.{bytes_eq}
use Rattle.key_roll.specs.declared.rows.KeyRow.{KeyRow}
use Rattle.issue_keys.specs.Keys.{id_of}
use Rattle.editions.specs.declared.ended.EndedKey.{EndedKey}

-- Whether the key of a row is live by these rows. A key is told by its identifier.
abbrev pub is_among : List KeyRow → KeyRow → Bool
is_among rows row = list_any (λ other. bytes_eq (id_of other) (id_of row)) rows

abbrev pub ended_key_of : KeyRow → EndedKey
ended_key_of row = record { signer = row.signer; key = row.key }

-- The keys that were live before an edition and aren't after it, in the order of their rows.
abbrev pub ended_keys : List KeyRow → List KeyRow → List EndedKey
ended_keys before after = map ended_key_of (filter (λ row. not (is_among after row)) before)
