use Rattle.std.proofs.Common.{map, refl, sym, ap, ◌∙◌}
use Rattle.issue_drafts.specs.IssueInput.{input_of}
use Rattle.issue_drafts.specs.Views.{draft_of, manifest_of}
use Rattle.issue_make.proofs.outcomes.outcome.Goals as goal

pub returns : goal.returns
returns c = λ trace is keys. record {
  rising = (c.in_ok-published.ensures trace is).rising;
  changes = (c.in_ok-published.ensures trace is).changes;
  listed = (c.in_ok-published.ensures trace is).listed;
  count = (c.in_ok-published.ensures trace is).count;
  issued = (c.in_ok-published.ensures trace is).issued;
  after = c.in_ok-rows.ensures.rows (input_of c.args.input.now) trace
      (record {
        at = refl;
        pointed = c.deref-3.ensures.value ∙ keys.points;
        behind = c.deref-4.ensures.value ∙ keys.next;
        entries = keys.entries;
      });
  sorted = c.in_ok-rows.ensures.sorted;
  stable = c.in_ok-rows.ensures.stable (input_of c.args.input.now) trace
      (record {
        at = refl;
        pointed = c.deref-3.ensures.value ∙ keys.points;
        behind = c.deref-4.ensures.value ∙ keys.next;
        entries = keys.entries;
      });
  signatures = c.signatures-signatures.ensures trace (is.drafts ∙ ap (map draft_of) (sym c.deref.ensures.value))
      (is.manifests ∙ ap (map manifest_of) (sym c.deref-2.ensures.value));
}
