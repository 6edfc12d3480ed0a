-- Whether there is something to publish, by what is kept.
use Rattle.std.specs.Prelude.{◌≡◌, ℕ, ◌==◌, ◌||◌, Bool, true, false, List, [], ◌∷◌}
use Rattle.std.specs.List.{list_any, filter_map}
use Rattle.key_roll.specs.declared.rows.KeyRow.{KeyRow}
use Rattle.key_roll.specs.declared.work.Work.{Work}
use Rattle.issue_plan.specs.declared.keys.NextKey.{NextKey}
use Rattle.issue_plan.specs.Work.{new_key_of, role_of, dropped}
use Rattle.issue_plan.specs.Due.{is_due}
use Rattle.editions.specs.Due.{grows, steps_next}
use Rattle.editions.specs.PublishedState.{PublishedStateValue}

-- Whether the list has an item.
abbrev pub has_some : {X : Type 0} → List X → Bool
has_some [] = false
has_some (x ∷ xs) = true

-- The new keys, the changed roles and the ended keys of the work are those that lead from the live
-- keys to the next ones.
pub record LeadsTo (rows : List KeyRow) (nexts : List NextKey) (work : Work) : Type 0 where
  pub new_keys : work.new_keys ≡ filter_map new_key_of nexts
  pub roles : work.roles ≡ filter_map role_of nexts
  pub dropped : work.dropped ≡ dropped nexts rows

-- An edition with that cut, at that moment and with these keys is called for: it is the first,
-- commands came, or something is due: an object, or a step of a key rollover.
abbrev pub is_called_for : PublishedStateValue → List ℕ → ℕ → List NextKey → Bool
is_called_for published_state cut moment nexts =
    (published_state.serial == 0) || grows published_state.cut cut || list_any
    (is_due moment) published_state.issued
    || steps_next published_state.rows nexts
