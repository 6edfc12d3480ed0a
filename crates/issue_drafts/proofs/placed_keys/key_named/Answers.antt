use Rattle.std.proofs.Common.{sym}
use Rattle.issue_drafts.specs.WorkKeys.{keys_at}
use Rattle.issue_drafts.proofs.NamedKeys.{named, key-there}
use Rattle.issue_drafts.proofs.placed_keys.key_named.Goals as goal

pub key_there-requires-clause-inside : goal.key_there-requires-clause-inside
key_there-requires-clause-inside c =
    named c.args.rows.now c.args.finder.now.first_fresh c.args.name.now c.in-Some.position
    (c.in-Some.ensures (keys_at c.args.rows.now c.args.finder.now.first_fresh) c.requires)

pub returns-in-Some-clause-key : goal.returns-in-Some-clause-key
returns-in-Some-clause-key c =
    key-there c.args.rows.now c.args.finder.now.first_fresh c.args.name.now c.in-Some.position
    c.key_there.result.position c.key_there.result.row.now c.key_there.ensures.position c.key_there.ensures.positioned
    (c.in-Some.ensures (keys_at c.args.rows.now c.args.finder.now.first_fresh) c.requires)

pub returns-in-None-clause-key : goal.returns-in-None-clause-key
returns-in-None-clause-key c = sym (c.in-None.ensures (keys_at c.args.rows.now c.args.finder.now.first_fresh) c.requires)
