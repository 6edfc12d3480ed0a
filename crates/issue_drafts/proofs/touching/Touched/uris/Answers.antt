use Rattle.std.proofs.Common.{sym, subst, ◌∙◌}
use Rattle.issue_drafts.specs.Touching.{AreByUri}
use Rattle.issue_drafts.proofs.touching.Touched.uris.Goals as goal

pub returns : goal.returns
returns c = record {
  are = c.deref.ensures.value ∙ c.self.view_is;
  rising = subst AreByUri (sym c.deref.ensures.value) c.self.invariant;
}
