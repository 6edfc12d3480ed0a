-- The laws that are built on, as they are said where they are proved.
use Rattle.std.specs.Prelude.{◌≡◌, ◌≢◌, ◌<◌, ℕ, true, false, List, ◌++◌, map, filter, All, AllPairs, Any, Contains, Some, IsPermutation}
use Rattle.std.specs.List.{filter_map}
use Rattle.std.specs.List.Sorted.{IsSortedBy}
use Rattle.der.specs.Part.{IsInput}
use Rattle.key_roll.specs.declared.rows.KeyRow.{KeyRow}
use Rattle.key_roll.specs.declared.work.Work.{Work}
use Rattle.pub_set.specs.declared.steps.Change.{Change}
use Rattle.pub_set.specs.Objects.{Rise}
use Rattle.pub_set.specs.Changes.{Contents, uri_of, change_at, after_all}
use Rattle.rp_rules.specs.Certificates.{Vouched}
use Rattle.entitle.specs.Owed.{AreOwed}
use Rattle.issue_keys.specs.Keys.{id_of}
use Rattle.issue_drafts.specs.WorkKeys.{Keys, all_keys}
use Rattle.issue_drafts.specs.IssueInput.{IssueInput}
use Rattle.issue_drafts.specs.Drafts.{Draft, drafts}
use Rattle.issue_drafts.specs.Publishers.{publishing_of}
use Rattle.issue_sign.specs.Calls.{content_calls, last_calls}
use Rattle.issue_drafts.specs.Files.{folder_at, kept_files, is_made_under}
use Rattle.issue_make.specs.Trace.{IssuingTrace, AreKeys, IsIssuingTrace, all_of, made_of, puts_of, final_bytes, wanted_at, IsSpelled, is_before, row_after}
use Rattle.issue_plan.specs.Keys.{next_keys}
use Rattle.issue_plan.specs.Wanted.{PlanInput}
use Rattle.issue_plan.specs.Work.{IsWork}
use Rattle.issue_plan.specs.Uris.{wanted_uris}
use Rattle.editions.specs.inner.PlannedWork.{AreApart, AreNamed}
use Rattle.editions.specs.Edition.{Edition, state_after, state_from, set_after, AreChanges}
use Rattle.editions.specs.Table.{IsTable}
use Rattle.editions.specs.Wanted.{there, whole, all_objects, new_objects, keeps_point}
use Rattle.editions.specs.Objects.{Issuance, moment_of, IsObject, file_of}
use Rattle.editions.specs.Step.{Premises, IsStep, AreSteps, counted}
use Rattle.editions.specs.inner.ByRows.{IsStepByRows, AreListed}
use Rattle.editions.specs.inner.PlanAndTable.{made_from, AreOfPlan}
use Rattle.editions.specs.VouchedCalls.{IsVouchedBy}
use Rattle.editions.specs.inner.Vouched.{AreVouched}

pub record Laws : Type 0 where
  pub after : (before later : List Edition)
      → state_after (before ++ later) ≡ state_from (state_after before) later
  pub noted : (premises : Premises) (clock : ℕ) (editions : List Edition) (edition : Edition)
      → AreSteps premises editions → IsStepByRows premises clock editions edition
      → IsStep premises clock editions edition
  pub needed : (s : IssueInput) (trace : IssuingTrace) (old : Contents) (changes : List Change)
      → IsTable old s.issued → Rise uri_of changes
      → ((uri : List ℕ) → change_at changes uri ≡ wanted_at s trace uri)
      → All (λ x. old x.draft.uri ≢ Some (final_bytes s trace x x.draft.kind)) (made_of trace)
      → AreChanges old (after_all old changes) changes
  pub next : (plan_input : PlanInput) (work : Work) (found : Keys)
      → AllPairs (λ a b. id_of a ≢ id_of b) plan_input.basis.rows
      → IsWork plan_input (next_keys plan_input.basis) work
      → AreKeys (made_from plan_input work) plan_input.basis.rows found
      → AreOfPlan plan_input work found
  pub told : (plan_input : PlanInput) (work : Work) (trace : IssuingTrace) (old : Contents)
      (changes : List Change) (plan : AreOfPlan plan_input work trace.keys)
      → IsIssuingTrace (made_from plan_input work) plan_input.basis.rows trace
      → IsTable old plan_input.issued
      → ((uri : List ℕ) → change_at changes uri ≡ wanted_at (made_from plan_input work) trace uri)
      → AreListed plan_input changes plan.keys trace.entries
  pub new : (vouched : Vouched) (plan_input : PlanInput) (work : Work) (trace : IssuingTrace)
      (old new : Contents) (plan : AreOfPlan plan_input work trace.keys)
      → ((row : KeyRow) → publishing_of (made_from plan_input work) trace.keys row
      ≡ publishing_of (whole plan_input plan.keys) (there plan.keys) row)
      → IsIssuingTrace (made_from plan_input work) plan_input.basis.rows trace
      → ((key : KeyRow) → Contains plan.keys key → keeps_point plan_input plan.keys key ≡ false
      → IsPermutation
      (filter_map (file_of new (folder_at (whole plan_input plan.keys) key))
      (filter (is_made_under (whole plan_input plan.keys) key)
      (drafts (whole plan_input plan.keys) (there plan.keys))))
      (kept_files (made_from plan_input work) (puts_of (made_from plan_input work) trace) key
      ++ filter_map (file_of new (folder_at (whole plan_input plan.keys) key))
      (filter (is_made_under (whole plan_input plan.keys) key) (new_objects plan_input plan.keys))))
      → All (λ x. new x.draft.uri
      ≡ Some (final_bytes (made_from plan_input work) trace x x.draft.kind)) trace.objects
      → All (λ x. IsInput (final_bytes (made_from plan_input work) trace x x.draft.kind))
      (made_of trace)
      → All (λ x. IsSpelled (made_from plan_input work) trace x.draft x.draft.kind x.answers)
      (made_of trace)
      → AreVouched vouched (made_from plan_input work) trace
      → All (IsVouchedBy vouched)
      (content_calls (made_from plan_input work) trace.files trace.listed)
      → All (IsVouchedBy vouched) (last_calls (made_from plan_input work) trace.keys
      (all_of (made_from plan_input work) trace) trace.listed)
      → All (λ x. IsObject (record {
        vouched = vouched;
        plan_input = plan_input;
        keys = plan.keys;
        entries = trace.entries;
        old = old;
        new = new;
      }) x.draft x.draft.kind (final_bytes (made_from plan_input work) trace x x.draft.kind))
      (made_of trace)
  pub another : (premises : Premises) (editions : List Edition) (m : Issuance) (d : Draft)
      (bytes uri : List ℕ) → AreSteps premises editions
      → (state_after editions).moment < moment_of m → IsObject m d d.kind bytes
      → set_after editions uri ≢ Some bytes
  pub stand : (s : IssueInput) (trace : IssuingTrace) (old : Contents) (changes : List Change)
      → Rise uri_of changes
      → ((uri : List ℕ) → change_at changes uri ≡ wanted_at s trace uri)
      → AllPairs (λ a b. a ≢ b) (map (λ x. x.draft.uri) (made_of trace))
      → All (λ x. after_all old changes x.draft.uri
      ≡ Some (final_bytes s trace x x.draft.kind)) (made_of trace)
  pub counted : (plan_input : PlanInput) (work : Work) (trace : IssuingTrace)
      (plan : AreOfPlan plan_input work trace.keys) (rows : List KeyRow)
      → ((key : KeyRow) → Contains plan.keys key → keeps_point plan_input plan.keys key ≡ true
      → trace.entries key ≡ key.revoked)
      → IsPermutation (map (row_after (made_from plan_input work) trace) (all_keys trace.keys)) rows
      → IsSortedBy is_before rows
      → rows ≡ map (counted plan_input plan.keys trace.entries) plan.keys
  pub wanted : (plan_input : PlanInput) (work : Work) (keys : Keys)
      (plan : AreOfPlan plan_input work keys) → AreNamed plan_input.basis
      → AreOwed plan_input.basis.configs plan_input.owed → AreApart plan_input.basis.rows
      → All (λ uri. Any (λ d. d.uri ≡ uri) (all_objects plan_input plan.keys))
      (wanted_uris plan_input.site plan_input.basis.configs (next_keys plan_input.basis) plan_input.owed)
