-- The keys of the next edition: what the stages of a key rollover make of the live ones (RFC 6489
-- section 2).
use Rattle.std.specs.Prelude.{ℕ, zero, suc, ◌==◌, Bool, true, false, ◌&&◌, List, [], ◌∷◌, ◌++◌, length, find, slice_get, Option, None, Some, if◌then◌else◌}
use Rattle.std.specs.Str.{bytes_eq}
use Rattle.sha1.specs.Sha1.{sha1}
use Rattle.key_ids.specs.declared.identifier.KeyId.{KeyId}
use Rattle.res_sets.specs.declared.holdings.Resources.{Resources}
use Rattle.res_sets.specs.declared.numbers.Range.{Range}
use Rattle.authority_book.specs.declared.rows.NameRow.{NameRow}
use Rattle.authority_book.specs.Settings.{Settings}
use Rattle.entitle.specs.Certified.{names_of}
use Rattle.key_roll.specs.declared.rows.Role.{Role}
use Rattle.key_roll.specs.declared.rows.Role.TheVariants.{New, Current, Old}
use Rattle.key_roll.specs.declared.rows.KeyRow.{KeyRow}
use Rattle.key_roll.specs.Roles.{is_role}
use Rattle.key_roll.specs.declared.work.KeyName.{KeyName}
use Rattle.key_roll.specs.declared.work.KeyName.TheVariants.{Live, Fresh}
use Rattle.key_roll.specs.declared.stages.Stage.{Stage}
use Rattle.key_roll.specs.declared.stages.Stage.TheVariants.{Steady, Staged, Retiring}
use Rattle.key_roll.specs.declared.stages.StepEnd.{StepEnd}
use Rattle.key_roll.specs.Stages.{since_of, step_of}
use Rattle.issue_plan.specs.declared.keys.NextKey.{NextKey}
use Rattle.issue_plan.specs.declared.keys.Asked.{Asked}

-- The identifier of a live key.
abbrev pub id_of : KeyRow → KeyId
id_of row = record { bytes = sha1 row.key.bytes }

-- Whether a key's name is that identifier. One that is still to be made has none.
abbrev pub is_live : KeyId → KeyName → Bool
is_live id (Live other) = bytes_eq other.bytes id.bytes
is_live id (Fresh desk) = false

-- The live key of a desk in a role, if there is one.
abbrev pub row_of : List KeyRow → ℕ → Role → Option KeyRow
row_of rows desk role = find (λ row. (row.desk == desk) && is_role row.role role) rows

-- A live key that goes on as it is.
abbrev pub kept : KeyRow → NextKey
kept row = record {
  desk = row.desk;
  signer = row.signer;
  name = Live (id_of row);
  role = row.role;
  since = row.since;
  done = row.done;
  is_changed = false;
}

-- A live key that goes on in a role, with the stage of its authority.
abbrev pub turned : KeyRow → Role → ℕ → ℕ → NextKey
turned row role since done =
    record (kept row) { role = role; since = since; done = done; is_changed = true }

-- A key that is to be made for the desk.
abbrev pub made : ℕ → ℕ → Role → ℕ → ℕ → NextKey
made desk signer role since done = record {
  desk = desk;
  signer = signer;
  name = Fresh desk;
  role = role;
  since = since;
  done = done;
  is_changed = false;
}

-- One key more, or none.
abbrev pub list_of : Option NextKey → List NextKey
list_of None = []
list_of (Some key) = key ∷ []

-- The stage of an authority that has a current key, by the other keys that it has.
abbrev pub stage_of : Option KeyRow → KeyRow → Option KeyRow → Stage
stage_of (Some new) current old = Staged current.since
stage_of None current (Some old) = Retiring
stage_of None current None = Steady

-- The keys with which a step ends, where a new key waited or none did, beside the current one. A key
-- that is made waits. A new key that is activated becomes the current one, and the current one old.
-- An old key doesn't stay.
abbrev pub keys_at_end : Asked → Option KeyRow → KeyRow → StepEnd → List NextKey
keys_at_end asked (Some new) current end =
    if end.activated
    then turned new Current (since_of end.stage) end.done
    ∷ turned current Old (since_of end.stage) end.done ∷ []
    else kept new ∷ kept current ∷ []
keys_at_end asked None current end =
    if end.made
    then made asked.desk asked.signer New (since_of end.stage) end.done
    ∷ turned current Current (since_of end.stage) end.done ∷ []
    else kept current ∷ []

-- The keys of an authority that holds something, by their roles: those with which a step by the
-- table of stages ends. One without a current key gets its first, which counts all rollovers so far
-- as done.
abbrev pub keys_after : Asked → Option KeyRow → Option KeyRow → Option KeyRow → List NextKey
keys_after asked new None old = made asked.desk asked.signer Current 0 asked.inits ∷ []
keys_after asked new (Some current) old =
    keys_at_end asked new current
    (step_of (stage_of new current old) asked.inits asked.activates current.done asked.moment)

abbrev pub inits_of : Option Settings → ℕ
inits_of None = 0
inits_of (Some config) = config.inits

abbrev pub activates_of : Option Settings → ℕ
activates_of None = 0
activates_of (Some config) = config.activates

abbrev pub no_ranges : List Range → Bool
no_ranges [] = true
no_ranges (range ∷ ranges) = false

-- Whether the set has no number: each range has some.
abbrev pub holds_nothing : Resources → Bool
holds_nothing set = no_ranges set.asn.ranges && no_ranges set.v4.ranges && no_ranges set.v6.ranges

-- What an edition is made from: the live keys, what the commands up to its cut come to, what each
-- authority is certified for, and the moment.
pub record Basis : Type 0 where
  pub rows : List KeyRow
  pub configs : List Settings
  pub sets : List Resources
  pub moment : ℕ

-- What the authority of the desk asks.
abbrev pub asked_at : Basis → ℕ → NameRow → Asked
asked_at basis desk name = record {
  desk = desk;
  signer = name.signer;
  inits = inits_of (slice_get basis.configs desk);
  activates = activates_of (slice_get basis.configs desk);
  moment = basis.moment;
}

-- The keys of a name's authority, which stands at the desk. One that holds nothing has none.
abbrev pub keys_of : Basis → ℕ → Option NameRow → Option Resources → List NextKey
keys_of basis desk None set = []
keys_of basis desk (Some name) None = []
keys_of basis desk (Some name) (Some set) =
    if holds_nothing set then []
    else keys_after (asked_at basis desk name)
    (row_of basis.rows desk New) (row_of basis.rows desk Current) (row_of basis.rows desk Old)

abbrev pub keys_at : Basis → ℕ → List NextKey
keys_at basis desk =
    keys_of basis desk (slice_get (names_of basis.configs) desk) (slice_get basis.sets desk)

-- The keys of so many desks, from the first on.
abbrev pub keys_of_first : Basis → ℕ → List NextKey
keys_of_first basis zero = []
keys_of_first basis (suc desk) = keys_of_first basis desk ++ keys_at basis desk

-- The keys of the next edition, by desk and role.
abbrev pub next_keys : Basis → List NextKey
next_keys basis = keys_of_first basis (length (names_of basis.configs))
