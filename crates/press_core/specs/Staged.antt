-- The keys of the stages of rollovers (RFC 6489 section 2).
use Rattle.std.specs.Prelude.{◌≡◌, ◌≢◌, true, List, [], map}
use Rattle.key_roll.specs.declared.rows.KeyRow.{KeyRow}
use Rattle.press_records.specs.Rows.{row_value}
use Rattle.press_records.specs.Stages.{are_staged}
use Rattle.editions.specs.PublishedState.{PublishedStateValue}

-- By desk and role, of each authority a current key alone, a new one before it, or an old one behind
-- it, of one stage; and of the trust anchor its current one alone, which is there.
abbrev pub AreStaged : List KeyRow → Type 0
AreStaged rows = are_staged (map row_value rows) ≡ true

-- Before the first edition there is no key, and after each the keys are those of stages.
pub record HasStages (at : PublishedStateValue) : Type 0 where
  pub none : at.serial ≡ 0 → at.rows ≡ []
  pub staged : at.serial ≢ 0 → AreStaged at.rows
