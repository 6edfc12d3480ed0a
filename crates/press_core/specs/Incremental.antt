-- What an edition costs: it puts what is wanted and doesn't stand already, and nothing else, and its
-- signers give the signatures that this takes.
use Rattle.std.specs.Prelude.{◌≡◌, ◌↔◌, ⊤, ◌+◌, ◌<◌, ◌^◌, ℕ, List, ◌++◌, Any, Option, None, Some}
use Rattle.signer_api.specs.State.{SignerState}
use Rattle.res_sets.specs.declared.holdings.Resources.{Resources}
use Rattle.entitle.specs.Owed.{AreOwed}
use Rattle.entitle.specs.declared.trees.Owed.{Owed}
use Rattle.key_roll.specs.declared.rows.KeyRow.{KeyRow}
use Rattle.key_roll.specs.declared.work.Work.{Work}
use Rattle.pub_set.specs.declared.steps.Change.{Change}
use Rattle.pub_set.specs.declared.steps.Change.TheVariants.{Put, Withdraw}
use Rattle.pub_set.specs.Changes.{change_at}
use Rattle.issue_plan.specs.Keys.{next_keys}
use Rattle.issue_plan.specs.Wanted.{PlanInput}
use Rattle.issue_drafts.specs.Drafts.{Draft, manifests}
use Rattle.editions.specs.Keys.{AreNext}
use Rattle.editions.specs.Gathering.{configs_with}
use Rattle.editions.specs.Wanted.{there, anew, new_objects}
use Rattle.editions.specs.Sparing.{given_by, signatures_for}
use Rattle.press_core.specs.PrepareInput.{PrepareInput}
use Rattle.press_core.specs.Planned.{IsPlanned, basis_for}
use Rattle.press_core.specs.Next.{NextValue}

-- What the edition is judged by, where that is certified and owed.
abbrev pub plan_input_for : PrepareInput → List Resources → List Owed → PlanInput
plan_input_for start sets owed = record {
  basis = basis_for start sets;
  owed = owed;
  issued = start.at.issued;
  site = start.site;
}

-- The objects that are wanted of these keys and that nothing which stands fits.
abbrev pub unfit_objects : PlanInput → List KeyRow → List Draft
unfit_objects plan_input keys =
    new_objects plan_input keys ++ manifests (anew plan_input keys) (there keys)

abbrev pub IsPut : Option Change → Type 0
IsPut None = ⊥
IsPut (Some (Put uri bytes replaces)) = ⊤
IsPut (Some (Withdraw uri hash)) = ⊥

-- By what the plan asks: at each URI something is put just where an object is wanted that nothing
-- fits, and the signers gave one signature for each certificate of these, two for each ROA and three
-- for each point, where so many can be counted.
pub record IsIncremental (start : PrepareInput) (ring : List SignerState) (prepared : NextValue)
    : Type 0 where
  pub work : Work
  pub planned : IsPlanned start work
  pub owed : List Owed
  pub owes : AreOwed (configs_with start.at.configs start.gathered) owed
  pub keys : List KeyRow
  pub next : AreNext start.at.rows (next_keys (basis_for start planned.sets)) keys
  pub puts : (uri : List ℕ) → IsPut (change_at prepared.changes uri) ↔ Any
      (λ object. object.uri ≡ uri) (unfit_objects (plan_input_for start planned.sets owed) keys)
  pub signatures : given_by start.ring + signatures_for work < 2 ^ 64
      → given_by ring ≡ given_by start.ring + signatures_for work
