-- What each of some keys has.
use Rattle.std.specs.Prelude.{◌≡◌, List, map, All}
use Rattle.key_roll.specs.declared.rows.KeyRow.{KeyRow}

-- One thing for each key, in the keys' order: what a function gives for the key, of which R holds.
pub record IsTable {A : Type 0} (R : KeyRow → A → Type 0) (keys : List KeyRow) (table : List A)
    : Type 0 where
  pub of : KeyRow → A
  pub is : table ≡ map of keys
  pub each : All (λ key. R key (of key)) keys
