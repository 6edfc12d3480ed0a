-- What drafts are made of.
use Rattle.std.specs.Prelude.{◌<◌, length, All}
use Rattle.issue_drafts.specs.WorkKeys.{Keys, keys_at, Finds}
use Rattle.issue_drafts.specs.IssueInput.{IssueInput, input_of}
use Rattle.issue_drafts.specs.declared.draft_input.DraftInput.{DraftInput}

abbrev pub setting_in : DraftInput → IssueInput
setting_in at = input_of at.input.now

-- The keys of the edition.
abbrev pub keys_in : DraftInput → Keys
keys_in at = keys_at at.rows.now at.finder.now.first_fresh

-- Each key's authority has a name, and the finder finds the keys.
pub record CanDraft (at : DraftInput) : Type 0 where
  pub names : All (λ row. row.desk < length at.input.now.names.now) at.rows.now
  pub finds : Finds (keys_in at) at.finder.now
