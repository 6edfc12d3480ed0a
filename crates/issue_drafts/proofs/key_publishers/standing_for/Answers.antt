use Rattle.std.proofs.Common.{◌<◌, ℕ, List, Some, None, length, sym, ap, ◌∙◌, arith}
use Rattle.std.specs.Option.{option_map}
use Rattle.key_roll.specs.declared.issued.IssuedRow.{IssuedRow}
use Rattle.issue_drafts.specs.Publishers.{certified_key}
use Rattle.issue_drafts.proofs.NamedKeys.{at-key, found-at}
use Rattle.issue_drafts.proofs.key_publishers.standing_for.Goals as goal

pub offset_bounds-issued-position : goal.offset_bounds-issued-position
offset_bounds-issued-position c =
    let lt : c.in-Some.position < length c.args.issued.now =
    (at-key (λ (r : IssuedRow). certified_key r.what) c.args.issued.now c.args.index.now c.args.key.now.row.now c.args.key.now.id (Some c.in-Some.position)
    c.requires c.args.key.now.identified c.in-Some.ensures).1 in
    omega arith

pub bounds-issued-position : goal.bounds-issued-position
bounds-issued-position c =
    (at-key (λ (r : IssuedRow). certified_key r.what) c.args.issued.now c.args.index.now c.args.key.now.row.now c.args.key.now.id (Some c.in-Some.position)
    c.requires c.args.key.now.identified c.in-Some.ensures).1

pub returns-in-Some : goal.returns-in-Some
returns-in-Some c =
    ap (λ (uri : List ℕ). Some uri) c.as_str.ensures
    ∙ ap (option_map (λ (r : IssuedRow). r.uri))
    (sym (found-at (λ (r : IssuedRow). certified_key r.what) c.args.issued.now c.args.index.now c.args.key.now.row.now
    c.args.key.now.id c.in-Some.position c.index-issued-position.result c.requires c.args.key.now.identified c.in-Some.ensures))

pub returns-in-None : goal.returns-in-None
returns-in-None c =
    ap (option_map (λ (r : IssuedRow). r.uri))
    (sym (at-key (λ (r : IssuedRow). certified_key r.what) c.args.issued.now c.args.index.now c.args.key.now.row.now c.args.key.now.id None
    c.requires c.args.key.now.identified c.in-None.ensures))
