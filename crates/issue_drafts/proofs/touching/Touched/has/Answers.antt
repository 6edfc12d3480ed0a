use Rattle.std.proofs.Common.{rules, sym, ap, subst, ◌∙◌}
use Rattle.std.proofs.lemmas.Fn.{always_returns_same}
use Rattle.pub_set.specs.Objects.{uri_cmp}
use Rattle.issue_drafts.specs.Touching.{has_uri, AreByUri}
use Rattle.issue_drafts.proofs.Uris.{found-there}
use Rattle.issue_drafts.proofs.touching.Touched.has.Goals as goal

pub returns : goal.returns
returns c =
    let uri = c.args.uri.now in
    c.is_ok.ensures.value
    ∙ (found-there c.deref.result.now uri c.binary_search_by.result
    (subst AreByUri (sym c.deref.ensures.value) c.self.invariant) c.binary_search_by.ensures.bound
    (c.binary_search_by.ensures.position (λ o. uri_cmp o uri)
    (always_returns_same _ _ _ (λ a r f called. search rules)))
    ∙ ap (has_uri uri) (c.deref.ensures.value ∙ c.self.view_is))
