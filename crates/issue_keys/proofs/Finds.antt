-- What the work says of a key, found by an index.
use Rattle.std.proofs.Common.{◌≡◌, ℕ, Option, Some, List, map, get_or, sym, ap, ◌∙◌}
use Rattle.std.specs.Option.{is_some}
use Rattle.std.proofs.lemmas.Option.{slice_get-get_or}
use Rattle.key_ids.specs.declared.identifier.KeyId.{KeyId}
use Rattle.issue_keys.specs.declared.key_index.KeyPosition.{KeyPosition}
use Rattle.issue_keys.specs.Under.{positions_under}
use Rattle.key_roll.specs.declared.rows.KeyRow.{KeyRow}
use Rattle.key_roll.specs.declared.work.RoleWork.{RoleWork}
use Rattle.issue_keys.specs.Keys.{id_of, role_of, is_dropped}
use Rattle.issue_keys.specs.Indexes.{IsIndex, has_id}
use Rattle.issue_keys.specs.laws.FirstPositions.{first_of, first-is, position-map, any-found, At, at-index}

pub dropped-is : (dropped : List KeyId) (index : List KeyPosition) (row : KeyRow) (id : KeyId) (o : Option ℕ) → IsIndex (map (λ key. Some key) dropped) index → id.bytes ≡ id_of row → o ≡ first_of (positions_under id.bytes index) → is_some o ≡ is_dropped dropped row
dropped-is dropped index row id o h same is =
    let f : KeyId → Option KeyId = λ key. Some key in
    ap is_some (is ∙ (ap (λ (b : List ℕ). first_of (positions_under b index)) same ∙ (first-is (map f dropped) index (id_of row) h ∙ position-map (has_id (id_of row)) f 0 dropped)))
    ∙ any-found (λ (key : KeyId). has_id (id_of row) (f key)) 0 dropped

pub role-at : (roles : List RoleWork) (index : List KeyPosition) (row : KeyRow) (id : KeyId) (o : Option ℕ) → IsIndex (map (λ r. Some r.key) roles) index → id.bytes ≡ id_of row → o ≡ first_of (positions_under id.bytes index) → At (λ (r : RoleWork). has_id (id_of row) (Some r.key)) roles o
role-at roles index row id o h same is =
    at-index (λ (r : RoleWork). Some r.key) roles index (id_of row) o h (is ∙ ap (λ (b : List ℕ). first_of (positions_under b index)) same)

pub role-some : (roles : List RoleWork) (index : List KeyPosition) (row : KeyRow) (id : KeyId) (position : ℕ) (d : RoleWork) → IsIndex (map (λ r. Some r.key) roles) index → id.bytes ≡ id_of row → Some position ≡ first_of (positions_under id.bytes index) → Some (get_or roles position d) ≡ role_of roles row
role-some roles index row id position d h same is =
    let at = role-at roles index row id (Some position) h same is in
    sym (at.0 ∙ slice_get-get_or roles position d at.1)
