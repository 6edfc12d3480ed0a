-- A key's identifier stays with what the work says of it.
use Rattle.std.specs.Prelude.{◌≡◌, Option, Some, None}
use Rattle.std.proofs.Common.{refl}
use Rattle.key_roll.specs.declared.rows.KeyRow.{KeyRow}
use Rattle.key_roll.specs.declared.work.RoleWork.{RoleWork}
use Rattle.issue_keys.specs.Keys.{id_of, with_role}

pub same-id : (row : KeyRow) (r : Option RoleWork) → id_of (with_role row r) ≡ id_of row
same-id row None = refl
same-id row (Some r) = refl
