-- The roles of an authority's keys (RFC 6489 section 2).
use Rattle.std.specs.Prelude.{Bool, true, false}
use Rattle.key_roll.specs.declared.rows.Role.{Role}
use Rattle.key_roll.specs.declared.rows.Role.TheVariants.{New, Current, Old}

abbrev pub is_role : Role → Role → Bool
is_role New New = true
is_role New Current = false
is_role New Old = false
is_role Current New = false
is_role Current Current = true
is_role Current Old = false
is_role Old New = false
is_role Old Current = false
is_role Old Old = true
