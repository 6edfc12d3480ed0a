-- An edition that is ready to be made, and what comes of its making.
use Rattle.std.specs.Prelude.{◌≡◌, ℕ, ◌+◌, ◌<◌, ◌≤◌, ◌^◌, true, List, All, length}
use Rattle.signer_api.specs.State.{SignerState}
use Rattle.key_ids.specs.Uris.{Bases}
use Rattle.names.specs.Name.{IsName}
use Rattle.authority_book.specs.declared.rows.NameRow.{NameRow}
use Rattle.entitle.specs.Certified.{names_of, settings_of, AreCertified}
use Rattle.entitle.specs.Owed.{AreOwed}
use Rattle.key_roll.specs.declared.work.Work.{Work}
use Rattle.pub_set.specs.Objects.{Rise, IsAscending}
use Rattle.pub_set.specs.Changes.{uri_of, IsApplied}
use Rattle.editions.specs.Edition.{cut_at}
use Rattle.issue_plan.specs.Keys.{Basis}
use Rattle.issue_plan.specs.Work.{IsPlan}
use Rattle.issue_keys.specs.declared.fault.MakeFault.{MakeFault}
use Rattle.issue_keys.specs.declared.fault.MakeFault.TheVariants as why
use Rattle.key_roll.specs.declared.issued.IssuedRow.{IssuedRow}
use Rattle.key_roll.specs.declared.rows.Role.TheVariants.{Current}
use Rattle.issue_make.specs.declared.made.Made.{Made}
use Rattle.issue_make.specs.CanMake as making
use Rattle.issue_make.specs.Made.{IsMade}
use Rattle.editions.specs.declared.gathered.Gathered.{Gathered}
use Rattle.editions.specs.PublishedState.{PublishedStateValue, IsConsistentState, AreLive}
use Rattle.editions.specs.PublishedState.{AreTakenIn, desks}
use Rattle.editions.specs.Moments.{moment_behind}
use Rattle.editions.specs.Gathering.{configs_with, cut_with}
use Rattle.editions.specs.Standing.{IsTableAfter}
use Rattle.editions.specs.Ended.{ended_keys}
use Rattle.editions.specs.Clear.{IsClear}
use Rattle.issue_plan.specs.ByName.{StandByName}
use Rattle.press_core.specs.PrepareInput.{PrepareInput, started}
use Rattle.press_core.specs.Next.{NextValue}
use Rattle.press_core.specs.Staged.{AreStaged, HasStages}
use Rattle.press_core.specs.Planned.{AreApart, IsInRange, IsCalled, issue_input_for}
use Rattle.press_core.specs.declared.setup.EditionInput.{EditionInput}
use Rattle.press_core.specs.declared.fault.PressFault.{PressFault}
use Rattle.press_core.specs.declared.fault.PressFault.TheVariants.{SignerFault, KeyClash, Memory}

-- ---- before

-- What a plan is made over.
abbrev pub basis_over : PublishedStateValue → EditionInput → Basis
basis_over at setup = record {
  rows = at.rows;
  configs = settings_of setup.configs.items;
  sets = setup.tree.sets.items;
  moment = setup.moment;
}

-- What the press says of itself, and the caller of what was gathered.
pub record CanStart (start : PrepareInput) : Type 0 where
  pub kept : IsConsistentState start.at
  pub clear : IsClear start.site start.at.rows start.at.issued
  pub staged : HasStages start.at
  pub live_signers : All (λ row. row.signer < length start.ring) start.at.rows
  pub name_signers : All (λ (name : NameRow). name.signer < length start.ring)
      (names_of (configs_with start.at.configs start.gathered))

-- The commands that were gathered are taken in.
pub record IsSetUp (start : PrepareInput) (setup : EditionInput) : Type 0 where
  pub moment : setup.moment ≡ moment_behind start.clock start.at.moment
  pub cut : setup.cut.items ≡ cut_with start.at.cut start.gathered
  pub configs : settings_of setup.configs.items ≡ configs_with start.at.configs start.gathered
  pub later : start.at.moment < setup.moment
  pub cut_desks : length setup.cut.items ≡ desks
  pub config_desks : length (settings_of setup.configs.items) ≡ desks
  pub taken : AreTakenIn (settings_of setup.configs.items) setup.cut.items
  pub grown : (desk : ℕ) → cut_at start.at.cut desk ≤ cut_at setup.cut.items desk

-- The edition is in range and called for, and that work is its plan.
pub record IsReady (start : PrepareInput) (setup : EditionInput) (work : Work) : Type 0 where
  pub able : CanStart start
  pub set_up : IsSetUp start setup
  pub in_range : IsInRange start.at start.clock
  pub called : IsCalled start setup.tree.sets.items true
  pub owes : AreOwed (settings_of setup.configs.items) setup.owed.items
  pub plan : IsPlan (basis_over start.at setup) start.at.issued start.site work

-- At whichever clock, and with whatever was gathered.
pub record IsSomehowReady (site : Bases) (at : PublishedStateValue) (ring : List SignerState)
    (setup : EditionInput) (work : Work) : Type 0 where
  pub clock : ℕ
  pub gathered : List Gathered
  pub ready : IsReady (started site at ring clock gathered) setup work

-- ---- the making

-- The signers made the work, and what it came to can stand.
pub record IsMadeReady (start : PrepareInput) (setup : EditionInput) (work : Work)
    (ring : List SignerState)
    (made : Made) : Type 0 where
  pub places : AreApart start (basis_over start.at setup)
  pub able : making.CanMake (issue_input_for start work) start.at.rows (length start.ring)
  pub is_made : IsMade (issue_input_for start work) start.at.rows start.ring ring made
  pub live : AreLive setup.moment made.rows
  pub signers : All (λ row. row.signer < length start.ring) made.rows
  pub names : All (λ (name : NameRow). IsName name.name) (names_of (settings_of setup.configs.items))
  pub clear : (table : List IssuedRow)
      → IsTableAfter start.at.issued made.changes made.issued table
      → IsClear start.site made.rows table
  pub by_name : (table : List IssuedRow)
      → IsTableAfter start.at.issued made.changes made.issued table
      → StandByName start.site start.at.issued → StandByName start.site table
  pub staged : All (λ key. key.desk ≡ 0 → key.role ≡ Current) made.rows → AreStaged made.rows

-- ---- after

-- What was made can stand.
pub record CanStand (at : PublishedStateValue) (setup : EditionInput) (made : Made) : Type 0 where
  pub serial : at.serial < 2 ^ 62
  pub cut : length setup.cut.items ≡ desks
  pub configs : length (settings_of setup.configs.items) ≡ desks
  pub taken : AreTakenIn (settings_of setup.configs.items) setup.cut.items
  pub certified : AreCertified (settings_of setup.configs.items) setup.tree.sets.items
  pub owes : AreOwed (settings_of setup.configs.items) setup.owed.items
  pub live : AreLive setup.moment made.rows
  pub changes : Rise uri_of made.changes
  pub issued : Rise (λ row. row.uri) made.issued

-- It stands.
pub record IsNextOf (at : PublishedStateValue) (setup : EditionInput) (made : Made)
    (prepared : NextValue)
    : Type 0 where
  pub serial : prepared.next.serial ≡ at.serial + 1
  pub moment : prepared.next.moment ≡ setup.moment
  pub cut : prepared.next.cut ≡ setup.cut.items
  pub rows : prepared.next.rows ≡ made.rows
  pub configs : prepared.next.configs ≡ settings_of setup.configs.items
  pub kept : IsConsistentState prepared.next
  pub ascending : IsAscending prepared.next.set
  pub set : IsApplied at.set made.changes prepared.next.set
  pub table : IsTableAfter at.issued made.changes made.issued prepared.next.issued
  pub changes : prepared.changes ≡ made.changes
  pub ended : prepared.ended ≡ ended_keys at.rows made.rows

-- ---- refusals

-- What a press answers where the making stopped.
abbrev pub fault_of : MakeFault → ℕ → PressFault
fault_of (why.SignerFault signer) clock = SignerFault signer (record { code = 27; clock = clock })
fault_of (why.KeyClash id) clock = KeyClash id (record { code = 28; clock = clock })
fault_of why.Memory clock = Memory
