-- That journals have room for what was written to them.
use Rattle.std.specs.Prelude.{◌≡◌, ◌⊎◌, ◌≤◌, ⊤, ℕ, List, [], ◌∷◌, ◌++◌, IfSome, get_or}
use Rattle.gate_journal.specs.Format.{held_by}
use Rattle.gate_journal.specs.View as journal
use Rattle.desk_core.specs.View.{View, journal_limit}
use Rattle.press_core.specs.JournalRecords.{press_limit}
use Rattle.manager.specs.Named.{Named}

-- ---- desks

-- The desk has the records that were found, and no other; or all that it has fits into its journal. How
-- long what was found is isn't asked.
abbrev pub IsWithinLimit : {D : Type 0} → Named → View D → Type 0
IsWithinLimit named desk =
    (desk.records ≡ get_or named.records desk.number []) ⊎ (held_by desk.records ≤ journal_limit)

-- So of each desk.
abbrev pub AreWithinLimit : {D : Type 0} → Named → List (View D) → Type 0
AreWithinLimit named [] = ⊤
AreWithinLimit named (desk ∷ desks) = IsWithinLimit named desk × AreWithinLimit named desks

-- ---- the press

-- The records of the press's journal, where its disk tells them, fit into it.
abbrev pub FitsWhole : {D : Type 0} → journal.View D → Type 0
FitsWhole kept = IfSome kept.records (λ records. held_by records ≤ press_limit)

-- And with this one behind them.
abbrev pub FitsWith : {D : Type 0} → journal.View D → List ℕ → Type 0
FitsWith kept entry = IfSome kept.records (λ records. held_by (records ++ entry ∷ []) ≤ press_limit)
