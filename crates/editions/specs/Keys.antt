-- The live keys of an edition, each with the history that it brings along (RFC 6489 section 2).
use Rattle.std.specs.Prelude.{◌≡◌, ◌≢◌, ⊤, Some, List, [], ◌∷◌, All, AllPairs, Contains}
use Rattle.key_roll.specs.declared.rows.KeyRow.{KeyRow}
use Rattle.key_roll.specs.declared.work.KeyName.{KeyName}
use Rattle.key_roll.specs.declared.work.KeyName.TheVariants.{Live, Fresh}
use Rattle.key_roll.specs.declared.work.NewKey.{NewKey}
use Rattle.key_ids.specs.declared.identifier.KeyId.{KeyId}
use Rattle.issue_keys.specs.Keys.{id_of, fresh_row}
use Rattle.issue_plan.specs.declared.keys.NextKey.{NextKey}
use Rattle.issue_plan.specs.Work.{new_key_of}

-- A live key that goes on: the same key, with the role and the stage that it has next.
pub record IsCarriedOver (rows : List KeyRow) (id : KeyId) (next : NextKey) (key : KeyRow)
    : Type 0 where
  pub row : KeyRow
  pub live : Contains rows row
  pub named : id_of row ≡ id.bytes
  pub same : key ≡ record row { role = next.role; since = next.since; done = next.done }

-- A key that was made, without a history. Its identifier is that of no live key.
pub record IsNew (rows : List KeyRow) (next : NextKey) (key : KeyRow) : Type 0 where
  pub made : NewKey
  pub asked : new_key_of next ≡ Some made
  pub row : key ≡ fresh_row made key.key
  pub apart : All (λ live. id_of live ≢ id_of key) rows

abbrev pub IsNextBy : List KeyRow → NextKey → KeyName → KeyRow → Type 0
IsNextBy rows next (Live id) key = IsCarriedOver rows id next key
IsNextBy rows next (Fresh desk) key = IsNew rows next key

-- A row for each of the next keys, in their order.
abbrev pub AreEach : List KeyRow → List NextKey → List KeyRow → Type 0
AreEach rows [] [] = ⊤
AreEach rows [] (key ∷ keys) = ⊥
AreEach rows (next ∷ nexts) [] = ⊥
AreEach rows (next ∷ nexts) (key ∷ keys) =
    IsNextBy rows next next.name key × AreEach rows nexts keys

-- The keys over the live ones before, no two with one identifier.
pub record AreNext (rows : List KeyRow) (nexts : List NextKey) (keys : List KeyRow) : Type 0 where
  pub each : AreEach rows nexts keys
  pub apart : AllPairs (λ a b. id_of a ≢ id_of b) keys
