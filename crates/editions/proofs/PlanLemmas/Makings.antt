-- What the making of a work leaves that is planned over what stands.
use Rattle.std.proofs.Common.{◌≡◌, ℕ, ◌<◌, ◌≤◌, true, List, refl, sym, subst, ◌⊎◌, inl, inr}
use Rattle.std.specs.List.{All}
use Rattle.key_ids.specs.Uris.{Bases}
use Rattle.signer_api.specs.State.{SignerState}
use Rattle.key_roll.specs.declared.rows.KeyRow.{KeyRow}
use Rattle.key_roll.specs.declared.issued.IssuedRow.{IssuedRow}
use Rattle.key_roll.specs.declared.work.Work.{Work}
use Rattle.issue_values.specs.Bodies.{AreRevoked}
use Rattle.issue_drafts.specs.WorkKeys.{Keys}
use Rattle.issue_drafts.specs.IssueInput.{IssueInput}
use Rattle.issue_drafts.specs.Drafts.{Draft}
use Rattle.issue_drafts.specs.Revoking.{is_touched}
use Rattle.issue_make.specs.ObjectPlan.{puts}
use Rattle.items.specs.laws.AmongLaws.{In}
use Rattle.editions.specs.Wanted.{all_objects}
use Rattle.editions.specs.inner.PlanAndTable.{AreOfPlan}
use Rattle.issue_make.specs.declared.made.Made.{Made}
use Rattle.issue_make.specs.Trace.{AreKeys, IsIssuingTrace}
use Rattle.issue_plan.specs.ByName.{StandByName}
use Rattle.issue_plan.specs.Keys.{Basis}
use Rattle.issue_plan.specs.Wanted.{PlanInput}
use Rattle.issue_plan.specs.Work.{IsPlan}
use Rattle.issue_make.specs.Made.{IsMade}
use Rattle.editions.specs.Standing.{IsTableAfter}
use Rattle.editions.specs.PublishedState.{PublishedStateValue, AreLive, IsConsistentState}
use Rattle.editions.specs.inner.PlannedWork.{AreApart}
use Rattle.editions.specs.Clear.{IsClear}
use Rattle.editions.specs.inner.Following.{CanFollow, setting_over}
use Rattle.editions.proofs.PlanLemmas.Anchor.{anchor-role}
use Rattle.editions.proofs.PlanLemmas.Desks.{are-of-desks}
use Rattle.editions.proofs.PlanLemmas.Planning.{ArePlanned, AreLaws, of-plan, known, rows-apart, tree-named, begun, clear-rows, its, its-known, its-puts, puts-apart, wanted-in, IsStaying, all-touched}
use Rattle.editions.proofs.PlanLemmas.Drafted.{all_puts}
use Rattle.editions.proofs.PlanLemmas.Fitted.{new-in}
use Rattle.editions.proofs.PlanLemmas.After.{have-signers, are-live, is-clear}
use Rattle.editions.proofs.PlanLemmas.Named.{table-named}

-- Each key is of a signer that is there.
pub keys-signers : (at : PublishedStateValue) (site : Bases) (signers : ℕ) (basis : Basis) (work : Work) (old new : List SignerState)
    (made : Made) → IsConsistentState at → CanFollow at site signers basis → IsPlan basis at.issued site work
    → IsMade (setting_over basis at.issued site work) at.rows old new made → All (λ row. row.signer < signers) made.rows
keys-signers at site signers basis work old new made published_state follow is_plan making =
    let s : IssueInput = setting_over basis at.issued site work in
    let of = are-of-desks (record { basis = basis; owed = is_plan.0; issued = at.issued; site = site }) s signers is_plan.2
    (subst AreApart (sym follow.rows) published_state.live.apart) (record { same = refl; there = follow.name_signers }) in
    have-signers s making.trace at.rows made.rows signers making.is_trace.keys follow.live_signers of.new_signers making.rows

module _ (planned : ArePlanned) (at : PublishedStateValue) (site : Bases) (signers : ℕ) (basis : Basis) (work : Work)
    (old new : List SignerState) (made : Made) (published_state : IsConsistentState at) (follow : CanFollow at site signers basis)
    (is_plan : IsPlan basis at.issued site work) (making : IsMade (setting_over basis at.issued site work) at.rows old new made) where
  abbrev plan_input : PlanInput
  plan_input = record { basis = basis; owed = is_plan.0; issued = at.issued; site = site }

  abbrev s : IssueInput
  s = setting_over basis at.issued site work

  pub are : AreKeys s basis.rows making.trace.keys
  are = subst (λ (rows : List KeyRow). AreKeys s rows making.trace.keys) (sym follow.rows) making.is_trace.keys

  pub is-trace : IsIssuingTrace s basis.rows making.trace
  is-trace = subst (λ (rows : List KeyRow). IsIssuingTrace s rows making.trace) (sym follow.rows) making.is_trace

  pub keys-live : AreLive basis.moment made.rows
  keys-live =
      let apart = rows-apart at site signers basis published_state follow in
      let named = tree-named at site signers basis published_state follow in
      are-live plan_input work making.trace (of-plan planned plan_input work making.trace.keys is_plan.2 named is_plan.1 apart are)
      (known planned plan_input work making.trace.keys is_plan.2 named is_plan.1 apart are) is-trace at.moment follow.later
      follow.moment (subst (λ (rows : List KeyRow). All (λ row. AreRevoked at.moment row.revoked) rows) (sym follow.rows)
      published_state.live.revoked)
      (subst (λ (rows : List KeyRow). All (λ row. row.this_update ≤ at.moment) rows) (sym follow.rows) published_state.live.dated)
      made.rows making.rows making.sorted

module _ (laws : AreLaws) (at : PublishedStateValue) (site : Bases) (signers : ℕ) (basis : Basis) (work : Work)
    (old new : List SignerState) (made : Made) (published_state : IsConsistentState at) (follow : CanFollow at site signers basis)
    (is_plan : IsPlan basis at.issued site work) (making : IsMade (setting_over basis at.issued site work) at.rows old new made) where
  abbrev found : Keys
  found = making.trace.keys

  abbrev input : PlanInput
  input = record { basis = basis; owed = is_plan.0; issued = at.issued; site = site }

  abbrev setting : IssueInput
  setting = setting_over basis at.issued site work

  keys-are : AreKeys setting basis.rows found
  keys-are = are laws.planned at site signers basis work old new made published_state follow is_plan making

  abbrev its_plan : AreOfPlan input work found
  its_plan = its laws at site signers basis work published_state follow is_plan found keys-are

  in-wanted : (d : Draft) → In d (all_objects input its_plan.keys) → In d (all_puts input its_plan.keys)
  in-wanted = wanted-in laws at site signers basis work published_state follow is_plan found keys-are

  put-wanted : (d : Draft) → In d (puts setting found) → In d (all_puts input its_plan.keys)
  put-wanted d put =
      in-wanted d (new-in input its_plan.keys d
      (subst (In d) (its-puts laws at site signers basis work published_state follow is_plan found keys-are) put))

  either : (row : IssuedRow) → (is_touched setting (puts setting found) row.uri ≡ true)
      ⊎ IsStaying laws at site signers basis work published_state follow is_plan found keys-are row
      → (is_touched setting (puts setting found) row.uri ≡ true)
      ⊎ ((d : Draft) × In d (all_puts input its_plan.keys) × (d.uri ≡ row.uri))
  either row (inl touched) = inl touched
  either row (inr stays) = inr (stays.draft, in-wanted stays.draft stays.among, stays.place)

  -- Nothing stands at the places of keys that aren't live.
  pub places-clear : (table : List IssuedRow) → IsTableAfter at.issued made.changes made.issued table → IsClear site made.rows table
  places-clear table is_table =
      is-clear input work making.trace its_plan
      (its-known laws at site signers basis work published_state follow is_plan found keys-are)
      (is-trace laws.planned at site signers basis work old new made published_state follow is_plan making)
      (puts-apart laws at site signers basis work published_state follow is_plan found keys-are) made.issued making.count making.issued
      published_state.rising put-wanted
      (λ row here. either row (all-touched laws at site signers basis work published_state follow is_plan found keys-are row here))
      made.changes making.changes table is_table follow.typed.names laws.told laws.ends
      (anchor-role basis (begun at site signers basis published_state follow)
      (clear-rows at site signers basis published_state follow).anchor) made.rows making.rows making.sorted

  -- ROAs stand at places of names where those before did.
  pub stay-by-name : (table : List IssuedRow) → IsTableAfter at.issued made.changes made.issued table
      → StandByName site at.issued → StandByName site table
  stay-by-name table is_table stood =
      table-named input work making.trace its_plan
      (its-known laws at site signers basis work published_state follow is_plan found keys-are)
      (is-trace laws.planned at site signers basis work old new made published_state follow is_plan making) follow.typed.names
      (puts-apart laws at site signers basis work published_state follow is_plan found keys-are) made.issued making.listed
      making.count making.issued put-wanted made.changes table is_table stood
