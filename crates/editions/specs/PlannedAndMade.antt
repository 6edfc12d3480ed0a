-- An edition that was planned over what stands, and made by the signers.
use Rattle.std.specs.Prelude.{◌≡◌, ◌≢◌, ⊤, ℕ, ◌+◌, ◌<◌, ◌^◌, List, length, All, AllPairs}
use Rattle.der.specs.Part.{IsInput}
use Rattle.signer_api.specs.State.{SignerState}
use Rattle.res_sets.specs.declared.holdings.Resources.{Resources}
use Rattle.pub_set.specs.declared.steps.Change.{Change}
use Rattle.pub_set.specs.declared.steps.Change.TheVariants.{Put, Withdraw}
use Rattle.key_roll.specs.declared.rows.KeyRow.{KeyRow}
use Rattle.key_roll.specs.declared.issued.IssuedRow.{IssuedRow}
use Rattle.key_roll.specs.declared.work.Work.{Work}
use Rattle.entitle.specs.declared.trees.Owed.{Owed}
use Rattle.entitle.specs.Certified.{names_of, AreCertified}
use Rattle.entitle.specs.Owed.{AreOwed}
use Rattle.issue_make.specs.declared.made.Made.{Made}
use Rattle.issue_plan.specs.Keys.{next_keys}
use Rattle.issue_plan.specs.Wanted.{PlanInput}
use Rattle.issue_plan.specs.Work as plan
use Rattle.issue_make.specs.CanMake as making
use Rattle.issue_make.specs.Made.{IsMade, calls_of}
use Rattle.editions.specs.Names.{AreTree}
use Rattle.editions.specs.Edition.{Edition, state_after, set_after}
use Rattle.editions.specs.Table.{IsTable}
use Rattle.editions.specs.Keys.{AreNext}
use Rattle.editions.specs.Wanted.{all_objects}
use Rattle.editions.specs.Step.{Premises, IsCut, next_moment, plan_input_at}
use Rattle.editions.specs.inner.PlanAndTable.{made_from}
use Rattle.editions.specs.VouchedCalls.{IsVouchedBy}

-- What a change puts is of bytes, and shorter than 2^32: it can be read.
abbrev pub CanBeRead : Change → Type 0
CanBeRead (Put uri bytes replaces) = IsInput bytes
CanBeRead (Withdraw uri hash) = ⊤

-- The signers made the work of the plan over what stood, and the edition has the rows and the
-- changes that this came to.
pub record IsMadeByPlan (premises : Premises) (editions : List Edition) (edition : Edition)
    (plan_input : PlanInput) (old new : List SignerState) : Type 0 where
  pub table : IsTable (set_after editions) plan_input.issued
  pub tree : AreTree (names_of plan_input.basis.configs)
  pub certified : AreCertified plan_input.basis.configs plan_input.basis.sets
  pub owes : AreOwed plan_input.basis.configs plan_input.owed
  -- no two objects that are wanted have one place
  pub places : (keys : List KeyRow)
      → AreNext plan_input.basis.rows (next_keys plan_input.basis) keys
      → AllPairs (λ a b. a.uri ≢ b.uri) (all_objects plan_input keys)
  -- the work of the plan can be made
  pub work : Work
  pub planned : plan.IsWork plan_input (next_keys plan_input.basis) work
  pub can_be_made :
      making.CanMake (made_from plan_input work) plan_input.basis.rows (length old)
  -- the signers made it, and what they signed is vouched
  pub made : Made
  pub is_made : IsMade (made_from plan_input work) plan_input.basis.rows old new made
  pub vouched : All (IsVouchedBy premises.vouched)
      (calls_of (made_from plan_input work) is_made.trace)
  pub readable : All CanBeRead made.changes
  pub few : length made.issued < 2 ^ 62
  -- the edition is this
  pub rows : edition.rows ≡ made.rows
  pub changes : edition.changes ≡ made.changes

-- With the next serial and moment, and a cut that takes in no less, by whatever is certified and
-- owed at the cut, and by the table of what stood.
pub record IsPlannedAndMade (premises : Premises) (clock : ℕ) (editions : List Edition)
    (edition : Edition) (old new : List SignerState) : Type 0 where
  pub serial : edition.serial ≡ (state_after editions).serial + 1
  pub below : (state_after editions).serial < 2 ^ 62
  pub moment : edition.moment ≡ next_moment clock (state_after editions)
  pub cut : IsCut premises.lists (state_after editions).cut edition.cut
  pub sets : List Resources
  pub owed : List Owed
  pub issued : List IssuedRow
  pub made : IsMadeByPlan premises editions edition
      (plan_input_at premises (state_after editions) edition sets owed issued) old new
