-- The objects that stand beside the ROAs.
use Rattle.std.specs.Prelude.{Bool, true, false, not, List, filter}
use Rattle.key_roll.specs.declared.issued.IssuedRow.{IssuedRow}
use Rattle.key_roll.specs.declared.issued.What.{What}
use Rattle.key_roll.specs.declared.issued.What.TheVariants.{Authority, Route, Point}

abbrev pub is_roa : What → Bool
is_roa (Authority key held) = false
is_roa (Route origin) = true
is_roa Point = false

abbrev pub beside_roas : List IssuedRow → List IssuedRow
beside_roas issued = filter (λ row. not (is_roa row.what)) issued
