-- What a press sets out to make, and what comes of it.
use Rattle.std.specs.Prelude.{◌≡◌, ◌≢◌, AllPairs, ◌<◌, ◌^◌, ℕ, Bool, true, false, List, All, length}
use Rattle.signer_api.specs.State.{SignerState}
use Rattle.signer_ring.specs.Calls.{Call}
use Rattle.names.specs.Name.{IsName}
use Rattle.res_sets.specs.declared.holdings.Resources.{Resources}
use Rattle.entitle.specs.Certified.{names_of, AreCertified}
use Rattle.key_roll.specs.declared.work.Work.{Work}
use Rattle.issue_plan.specs.Keys.{Basis, next_keys}
use Rattle.issue_plan.specs.Work.{IsPlan}
use Rattle.issue_drafts.specs.IssueInput.{IssueInput}
use Rattle.issue_make.specs.declared.made.Made.{Made}
use Rattle.issue_make.specs.CanMake as making
use Rattle.issue_make.specs.Made.{IsMade, calls_of}
use Rattle.entitle.specs.Owed.{AreOwed}
use Rattle.entitle.specs.declared.trees.Owed.{Owed}
use Rattle.key_roll.specs.declared.rows.KeyRow.{KeyRow}
use Rattle.editions.specs.Keys.{AreNext}
use Rattle.editions.specs.Wanted.{all_objects}
use Rattle.editions.specs.PublishedState.{PublishedStateValue}
use Rattle.editions.specs.Moments.{moment_behind, is_out_of_range, AreBelowEnd}
use Rattle.editions.specs.Gathering.{configs_with, cut_with}
use Rattle.editions.specs.Calling.{is_called_for}
use Rattle.editions.specs.Standing.{IsTableAfter}
use Rattle.editions.specs.PlannedAndMade.{CanBeRead}
use Rattle.press_core.specs.PrepareInput.{PrepareInput}
use Rattle.press_core.specs.Next.{NextValue, IsNext}

-- What the next edition is made from, where that is certified.
abbrev pub basis_for : PrepareInput → List Resources → Basis
basis_for start sets = record {
  rows = start.at.rows;
  configs = configs_with start.at.configs start.gathered;
  sets = sets;
  moment = moment_behind start.clock start.at.moment;
}

-- ---- whether it is made

-- It can be dated, and counted.
pub record IsInRange (at : PublishedStateValue) (clock : ℕ) : Type 0 where
  pub dated : is_out_of_range clock at.moment ≡ false
  pub counted : AreBelowEnd at.serial at.rows

-- By what is certified at the cut with all that was gathered an edition is called for, or it isn't.
pub record IsCalled (start : PrepareInput) (sets : List Resources) (called : Bool) : Type 0 where
  pub certified : AreCertified (configs_with start.at.configs start.gathered) sets
  pub answer : is_called_for start.at (cut_with start.at.cut start.gathered)
      (moment_behind start.clock start.at.moment) (next_keys (basis_for start sets)) ≡ called

-- ---- what is made

-- No two objects that are wanted have one place.
abbrev pub AreApart : PrepareInput → Basis → Type 0
AreApart start basis =
    (owed : List Owed) (keys : List KeyRow) → AreOwed basis.configs owed → AreNext basis.rows (next_keys basis) keys
    → AllPairs (λ a b. a.uri ≢ b.uri)
    (all_objects (record { basis = basis; owed = owed; issued = start.at.issued; site = start.site }) keys)

-- An edition is in range and called for, and this is its plan.
pub record IsPlanned (start : PrepareInput) (work : Work) : Type 0 where
  pub in_range : IsInRange start.at start.clock
  pub sets : List Resources
  pub called : IsCalled start sets true
  pub plan : IsPlan (basis_for start sets) start.at.issued start.site work

-- The making of that work.
abbrev pub issue_input_for : PrepareInput → Work → IssueInput
issue_input_for start work = record {
  work = work;
  names = names_of (configs_with start.at.configs start.gathered);
  issued = start.at.issued;
  site = start.site;
}

-- The signers made what was planned, and nothing else; and what is prepared is what it came to.
pub record IsMadeOf (start : PrepareInput) (ring : List SignerState) (prepared : NextValue)
    : Type 0 where
  pub work : Work
  pub planned : IsPlanned start work
  pub places : AreApart start (basis_for start planned.sets)
  pub able : making.CanMake (issue_input_for start work) start.at.rows (length start.ring)
  pub made : Made
  pub is_made : IsMade (issue_input_for start work) start.at.rows start.ring ring made
  -- each object that is put can be read, and they are fewer than counters can count
  pub readable : All CanBeRead made.changes
  pub few : length made.issued < 2 ^ 62
  pub rows : prepared.next.rows ≡ made.rows
  pub changes : prepared.changes ≡ made.changes
  pub table : IsTableAfter start.at.issued made.changes made.issued prepared.next.issued

-- The edition is at the clock's moment or just behind the last one, and takes in all that was
-- gathered. It is made of its plan, and follows what stands; the signers of its keys are there, and
-- its names are those that an authority can have.
pub record IsPrepared (start : PrepareInput) (ring : List SignerState) (prepared : NextValue)
    : Type 0 where
  pub moment : prepared.next.moment ≡ moment_behind start.clock start.at.moment
  pub cut : prepared.next.cut ≡ cut_with start.at.cut start.gathered
  pub configs : prepared.next.configs ≡ configs_with start.at.configs start.gathered
  pub made : IsMadeOf start ring prepared
  pub next : IsNext start.site start.at prepared
  pub signers : All (λ row. row.signer < length start.ring) prepared.next.rows
  pub names : All (λ row. IsName row.name) (names_of prepared.next.configs)

-- The calls that the signers answered for it.
abbrev pub calls_for : (start : PrepareInput) (ring : List SignerState) (prepared : NextValue)
    → IsPrepared start ring prepared → List Call
calls_for start ring prepared is =
    calls_of (issue_input_for start is.made.work) is.made.is_made.trace
