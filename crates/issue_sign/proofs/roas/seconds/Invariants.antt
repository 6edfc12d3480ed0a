use Rattle.std.proofs.Common.{◌≡◌, ◌+◌, false, length, drop}
use Rattle.std.specs.Prelude.{All}
use Rattle.std.specs.Vec.Iter.{into_iter_items, into_iter_len}
use Rattle.issue_drafts.specs.IssueInput.{input_of}
use Rattle.issue_drafts.specs.Views.{draft_of, kind_of}
use Rattle.issue_sign.specs.SignInput.{SignInputValue, IsSignInput, AreDrafts}
use Rattle.issue_sign.specs.inner.Steps.{is_content, IsSecondOf, Pairs, Triples}
use Rattle.issue_sign.proofs.roas.seconds.Given as goal

abbrev pub invariant-loop-half : goal.invariant-loop-half
invariant-loop-half l = record {
  left : drop (length l.steps.items) l.fn.halves.items ≡ into_iter_items l.half-iterator;
  count : into_iter_len l.half-iterator ≡ length (into_iter_items l.half-iterator);
  few : length l.steps.items + length (into_iter_items l.half-iterator) ≡ length l.drafts;
  issuers : Pairs (λ d st. st.issuer.now ≡ d.issuer.row.now) l.drafts l.steps.items;
  made : All (λ st. is_content st.pending ≡ false) l.steps.items;
  seconds : (b : SignInputValue) → IsSignInput l.sign_input b → AreDrafts b l.drafts l.serials
      → Triples (λ d h st. IsSecondOf (input_of l.sign_input.input.now) b (draft_of d) (kind_of d.kind) h st.pending)
      l.drafts l.fn.halves.items l.steps.items;
}
