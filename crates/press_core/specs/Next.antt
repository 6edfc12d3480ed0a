-- What is prepared over what stands.
use Rattle.std.specs.Prelude.{◌≡◌, ℕ, ◌+◌, ◌<◌, ◌≤◌, List}
use Rattle.key_ids.specs.Uris.{Bases}
use Rattle.pub_set.specs.declared.steps.Change.{Change}
use Rattle.pub_set.specs.Objects.{IsAscending}
use Rattle.pub_set.specs.Changes.{IsApplied}
use Rattle.editions.specs.Edition.{cut_at}
use Rattle.editions.specs.declared.ended.EndedKey.{EndedKey}
use Rattle.editions.specs.PublishedState.{PublishedStateValue, IsConsistentState}
use Rattle.editions.specs.Ended.{ended_keys}
use Rattle.editions.specs.Clear.{IsClear}
use Rattle.issue_plan.specs.ByName.{StandByName}
use Rattle.rrdp_state.specs.declared.next.NextDelta.{NextDelta}
use Rattle.press_core.specs.Staged.{AreStaged}

-- What will stand, what changes, and the keys that end.
pub record NextValue : Type 0 where
  pub next : PublishedStateValue
  pub changes : List Change
  pub ended : List EndedKey

-- The edition that was prepared, and its delta (RFC 8182 section 3.5.3).
pub record PreparedValue : Type 0 where
  pub edition : NextValue
  pub delta : NextDelta

-- It follows what stands: with the next serial, a later moment, and a cut that takes in no less; the
-- set is what the changes make of the old one, the keys that end are those that don't go on, at the
-- places of keys that aren't live nothing stands, ROAs stand at places of names if they did before,
-- and the live keys are those of stages.
pub record IsNext (site : Bases) (at : PublishedStateValue) (prepared : NextValue)
    : Type 0 where
  pub serial : prepared.next.serial ≡ at.serial + 1
  pub moment : at.moment < prepared.next.moment
  pub cut : (desk : ℕ) → cut_at at.cut desk ≤ cut_at prepared.next.cut desk
  pub set : IsApplied at.set prepared.changes prepared.next.set
  pub ended : prepared.ended ≡ ended_keys at.rows prepared.next.rows
  pub clear : IsClear site prepared.next.rows prepared.next.issued
  pub by_name : StandByName site at.issued → StandByName site prepared.next.issued
  pub staged : AreStaged prepared.next.rows
  pub kept : IsConsistentState prepared.next
  pub ascending : IsAscending prepared.next.set
