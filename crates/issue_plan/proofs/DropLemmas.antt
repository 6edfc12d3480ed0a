-- Keys that end, as live keys are looked at.
use Rattle.std.proofs.Common.{◌≡◌, Bool, true, false, not, map, cond, List, [], ◌∷◌, ◌++◌, refl, ap, ap₂, ◌∙◌}
use Rattle.std.specs.Prelude.{filter}
use Rattle.std.specs.List.{flat_map}
use Rattle.key_ids.specs.declared.identifier.KeyId.{KeyId}
use Rattle.key_roll.specs.declared.rows.KeyRow.{KeyRow}
use Rattle.issue_plan.specs.declared.keys.NextKey.{NextKey}
use Rattle.issue_plan.specs.declared.live.LiveKey.{LiveKey}
use Rattle.issue_plan.specs.Keys.{id_of}
use Rattle.issue_plan.specs.Work.{goes_on, dropped}
use Rattle.issue_plan.specs.inner.Live.{live_key}

-- The live key, if it ends.
abbrev pub if_ended : List NextKey → LiveKey → List KeyId
if_ended keys key = filter (λ id. not (goes_on keys id)) (key.id ∷ [])

split : (b : Bool) (id : KeyId) (rest : List KeyId) → cond b (id ∷ []) [] ++ rest ≡ cond b (id ∷ rest) rest
split true id rest = refl
split false id rest = refl

-- The live keys are those of the rows.
each-ended : (keys : List NextKey) (rows : List KeyRow) → flat_map (if_ended keys) (map live_key rows) ≡ dropped keys rows
each-ended keys [] = refl
each-ended keys (row ∷ rows) =
    ap (λ (l : List KeyId). if_ended keys (live_key row) ++ l) (each-ended keys rows)
    ∙ split (not (goes_on keys (id_of row))) (id_of row) (dropped keys rows)

pub ended-are : (made keys : List NextKey) (live : List LiveKey) (rows : List KeyRow) → made ≡ keys → live ≡ map live_key rows
    → flat_map (if_ended made) live ≡ dropped keys rows
ended-are made keys live rows same are =
    ap₂ (λ (k : List NextKey) (l : List LiveKey). flat_map (if_ended k) l) same are ∙ each-ended keys rows
