use Rattle.key_roll.specs.declared.issued.IssuedRow.{IssuedRow}
use Rattle.issue_drafts.specs.laws.UriOrder.{search-found, search-missing}
use Rattle.issue_make.proofs.standing.hash_at.Goals as goal

pub returns-in-Ok : goal.returns-in-Ok
returns-in-Ok c =
    search-found (λ (row : IssuedRow). row.uri) (λ (row : IssuedRow). row.hash) c.args.issued.now c.args.uri.now
    c.in-Ok.position c.index-issued-position.result c.requires c.in-Ok.ensures.bound c.in-Ok.ensures.found

pub returns-in-Err : goal.returns-in-Err
returns-in-Err c =
    search-missing (λ (row : IssuedRow). row.uri) (λ (row : IssuedRow). row.hash) c.args.issued.now c.args.uri.now
    c.in-Err.field-0 c.requires c.in-Err.ensures.found
