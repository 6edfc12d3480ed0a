-- Positions of keys in a list.
use Rattle.std.specs.Prelude.{◌≡◌, ℕ, ◌+◌, Bool, false, List, [], ◌∷◌, Option, None, Some}
use Rattle.std.specs.List.{position_from}
use Rattle.std.specs.Option.{option_map_or}
use Rattle.std.specs.Str.{bytes_eq}
use Rattle.key_ids.specs.declared.identifier.KeyId.{KeyId}
use Rattle.issue_keys.specs.declared.key_index.KeyPosition.{KeyPosition}
use Rattle.issue_keys.specs.Under.{positions_under}

-- The keys of a list, some of whose items have one, at their positions from that number on.
abbrev pub key_positions : ℕ → List (Option KeyId) → List KeyPosition
key_positions n [] = []
key_positions n (None ∷ keys) = key_positions (n + 1) keys
key_positions n (Some key ∷ keys) = record { key = key; position = n } ∷ key_positions (n + 1) keys

-- The index has their positions.
abbrev pub IsIndex : List (Option KeyId) → List KeyPosition → Type 0
IsIndex keys index =
    (id : List ℕ) → positions_under id index ≡ positions_under id (key_positions 0 keys)

abbrev pub has_id : List ℕ → Option KeyId → Bool
has_id id key = option_map_or (λ k. bytes_eq k.bytes id) key false

-- The position of the first that has that identifier.
abbrev pub first_at : List ℕ → List (Option KeyId) → Option ℕ
first_at id keys = position_from (has_id id) 0 keys
