-- Live keys by their identifiers.
use Rattle.std.specs.Prelude.{List, find, Option, None}
use Rattle.std.specs.Str.{bytes_eq}
use Rattle.key_roll.specs.declared.rows.KeyRow.{KeyRow}
use Rattle.key_roll.specs.declared.work.KeyName.{KeyName}
use Rattle.key_roll.specs.declared.work.KeyName.TheVariants.{Live, Fresh}
use Rattle.issue_plan.specs.declared.live.LiveKey.{LiveKey}
use Rattle.issue_plan.specs.Keys.{id_of}

abbrev pub live_key : KeyRow → LiveKey
live_key row = record { id = id_of row; desk = row.desk }

abbrev pub live_at : List LiveKey → KeyName → Option LiveKey
live_at live (Live id) = find (λ key. bytes_eq key.id.bytes id.bytes) live
live_at live (Fresh desk) = None
