-- The work of an edition: exactly what is wanted and doesn't stand already, and what has to go
-- (RFC 6481 section 2).
use Rattle.std.specs.Prelude.{◌≡◌, not, Bool, List, filter, map, Option, None, Some, if◌then◌else◌}
use Rattle.std.specs.List.{filter_map, list_any}
use Rattle.key_ids.specs.declared.identifier.KeyId.{KeyId}
use Rattle.key_ids.specs.Uris.{Bases}
use Rattle.entitle.specs.declared.trees.Owed.{Owed}
use Rattle.entitle.specs.Owed.{AreOwed}
use Rattle.key_roll.specs.declared.rows.KeyRow.{KeyRow}
use Rattle.key_roll.specs.declared.issued.IssuedRow.{IssuedRow}
use Rattle.key_roll.specs.declared.work.Work.{Work}
use Rattle.key_roll.specs.declared.work.KeyName.{KeyName}
use Rattle.key_roll.specs.declared.work.KeyName.TheVariants.{Live, Fresh}
use Rattle.key_roll.specs.declared.work.NewKey.{NewKey}
use Rattle.key_roll.specs.declared.work.RoleWork.{RoleWork}
use Rattle.issue_plan.specs.declared.keys.NextKey.{NextKey}
use Rattle.issue_plan.specs.Keys.{Basis, id_of, is_live, next_keys}
use Rattle.issue_plan.specs.Wanted.{PlanInput, Certificate, Roa, Point}
use Rattle.issue_plan.specs.Wanted.{wanted_certificates, wanted_roas, wanted_points}
use Rattle.issue_plan.specs.Fits.{unfit}
use Rattle.issue_plan.specs.Uris.{wanted_uris, withdrawn}

-- A key that is to be made.
abbrev pub new_key_by : NextKey → KeyName → Option NewKey
new_key_by key (Live id) = None
new_key_by key (Fresh desk) =
    Some (record {
      desk = desk;
      signer = key.signer;
      role = key.role;
      since = key.since;
      done = key.done;
    })

abbrev pub new_key_of : NextKey → Option NewKey
new_key_of key = new_key_by key key.name

-- A live key that goes on otherwise than before.
abbrev pub role_by : NextKey → KeyName → Option RoleWork
role_by key (Live id) =
    if key.is_changed
    then Some (record { key = id; role = key.role; since = key.since; done = key.done })
    else None
role_by key (Fresh desk) = None

abbrev pub role_of : NextKey → Option RoleWork
role_of key = role_by key key.name

-- Whether the key goes on.
abbrev pub goes_on : List NextKey → KeyId → Bool
goes_on keys id = list_any (λ key. is_live id key.name) keys

-- The live keys that end: those that the next edition hasn't.
abbrev pub dropped : List NextKey → List KeyRow → List KeyId
dropped keys rows = filter (λ id. not (goes_on keys id)) (map id_of rows)

-- The work gives the edition all that it wants, but for what fits, and takes away all that stands
-- and isn't wanted.
pub record IsWork (plan_input : PlanInput) (keys : List NextKey) (work : Work) : Type 0 where
  pub moment : work.moment ≡ plan_input.basis.moment
  pub new_keys : work.new_keys ≡ filter_map new_key_of keys
  pub roles : work.roles ≡ filter_map role_of keys
  pub certs : work.certs ≡ unfit plan_input Certificate
      (wanted_certificates plan_input.basis.configs plan_input.basis.sets keys)
  pub roas : work.roas ≡ unfit plan_input Roa (wanted_roas keys plan_input.owed)
  pub points : work.points ≡ unfit plan_input Point (wanted_points keys)
  pub withdrawn : work.withdrawn
      ≡ withdrawn (wanted_uris plan_input.site plan_input.basis.configs keys plan_input.owed)
      plan_input.issued
  pub dropped : work.dropped ≡ dropped keys plan_input.basis.rows

-- The plan of an edition over this basis, where that stands: the work for the keys that the stages
-- of rollovers come to, and for the origins that are owed.
abbrev pub IsPlan : Basis → List IssuedRow → Bases → Work → Type 0
IsPlan basis issued site work =
    (owed : List Owed) × AreOwed basis.configs owed
    × IsWork (record { basis = basis; owed = owed; issued = issued; site = site })
    (next_keys basis) work
