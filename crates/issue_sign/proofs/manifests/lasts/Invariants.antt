use Rattle.std.proofs.Common.{◌≡◌, ◌+◌, false, List, length, drop}
use Rattle.std.specs.Prelude.{All}
use Rattle.std.specs.Vec.Iter.{into_iter_items, into_iter_len}
use Rattle.payloads.specs.declared.values.ListedFile.{ListedFile}
use Rattle.issue_drafts.specs.IssueInput.{input_of}
use Rattle.issue_drafts.specs.Views.{manifest_of}
use Rattle.issue_sign.specs.SignInput.{SignInputValue, IsSignInput, AreManifests}
use Rattle.issue_sign.specs.inner.Steps.{is_content, IsLastOf, Pairs, Triples}
use Rattle.issue_sign.proofs.manifests.lasts.Given as goal

abbrev pub invariant-loop-half : goal.invariant-loop-half
invariant-loop-half l = record {
  left : drop (length l.steps.items) l.fn.halves.items ≡ into_iter_items l.half-iterator;
  count : into_iter_len l.half-iterator ≡ length (into_iter_items l.half-iterator);
  few : length l.steps.items + length (into_iter_items l.half-iterator) ≡ length l.manifests;
  issuers : Pairs (λ d st. st.issuer.now ≡ d.issuer.row.now) l.manifests l.steps.items;
  made : All (λ st. is_content st.pending ≡ false) l.steps.items;
  lasts : (b : SignInputValue) (lists : List (List ListedFile)) → IsSignInput l.sign_input b → AreManifests b l.manifests l.next lists
      → Triples (λ d h st. IsLastOf (input_of l.sign_input.input.now) b (manifest_of d) h st.pending)
      l.manifests l.fn.halves.items l.steps.items;
}
