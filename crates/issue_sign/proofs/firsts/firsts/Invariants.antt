use Rattle.std.proofs.Common.{◌≡◌, length}
use Rattle.issue_drafts.specs.IssueInput.{input_of}
use Rattle.issue_drafts.specs.Views.{draft_of, kind_of}
use Rattle.issue_sign.specs.SignInput.{SignInputValue, IsSignInput, AreDrafts}
use Rattle.issue_sign.specs.inner.Steps.{IsFirstOf, IsStepOf, Pairs}
use Rattle.issue_sign.proofs.firsts.firsts.Given as goal

abbrev pub invariant-loop-draft : goal.invariant-loop-draft
invariant-loop-draft l = record {
  long : length l.steps.items ≡ l.draft-index;
  steps : Pairs IsStepOf l.drafts l.steps.items;
  firsts : (b : SignInputValue) → IsSignInput l.sign_input b → AreDrafts b l.drafts l.serials
      → Pairs (λ d st. IsFirstOf (input_of l.sign_input.input.now) b (draft_of d) (kind_of d.kind) st.pending) l.drafts l.steps.items;
}
