use Rattle.std.proofs.Common.{rules}
use Rattle.std.proofs.lemmas.Fn.{always_returns_same}
use Rattle.key_roll.specs.declared.issued.IssuedRow.{IssuedRow}
use Rattle.pub_set.specs.Objects.{uri_cmp}
use Rattle.issue_drafts.proofs.revoking.search.Goals as goal

pub returns-clause-found : goal.returns-clause-found
returns-clause-found c =
    c.binary_search_by.ensures.position (λ (row : IssuedRow). uri_cmp row.uri c.args.uri.now)
    (always_returns_same _ _ _ (λ a r f called. search rules))
