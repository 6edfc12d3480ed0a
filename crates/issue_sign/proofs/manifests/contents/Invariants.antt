use Rattle.std.proofs.Common.{◌≡◌, ◌+◌, true, length, drop, map}
use Rattle.std.specs.Prelude.{All}
use Rattle.std.specs.Vec.Iter.{into_iter_items, into_iter_len}
use Rattle.payloads.specs.ManifestFormats.{file_view}
use Rattle.issue_drafts.specs.IssueInput.{input_of}
use Rattle.issue_sign.specs.inner.Steps.{is_content, IsTextOf, Pairs, Triples}
use Rattle.issue_sign.proofs.manifests.contents.Given as goal

abbrev pub invariant-loop-list : goal.invariant-loop-list
invariant-loop-list l = record {
  left : drop (length l.steps.items) l.fn.files.items ≡ into_iter_items l.list-iterator;
  count : into_iter_len l.list-iterator ≡ length (into_iter_items l.list-iterator);
  few : length l.steps.items + length (into_iter_items l.list-iterator) ≡ length l.manifests;
  issuers : Pairs (λ d st. st.issuer.now ≡ d.issuer.row.now) l.manifests l.steps.items;
  kinds : All (λ st. is_content st.pending ≡ true) l.steps.items;
  texts : Triples (λ d list st. IsTextOf (input_of l.sign_input.input.now) d.issuer.row.now (map file_view list) st.pending)
      l.manifests l.fn.files.items l.steps.items;
}
