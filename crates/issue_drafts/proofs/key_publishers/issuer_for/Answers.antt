use Rattle.std.proofs.Common.{◌<◌, Some, None, length, sym, ap, ◌∙◌, arith}
use Rattle.std.specs.Option.{option_and_then}
use Rattle.key_roll.specs.declared.work.CertWork.{CertWork}
use Rattle.issue_drafts.specs.WorkKeys.{keys_at, key_named}
use Rattle.issue_drafts.specs.Publishers.{subject_key}
use Rattle.issue_drafts.proofs.NamedKeys.{at-key, found-at}
use Rattle.issue_drafts.proofs.key_publishers.issuer_for.Goals as goal

pub offset_bounds-certs-position : goal.offset_bounds-certs-position
offset_bounds-certs-position c =
    let lt : c.in-Some.position < length c.args.certs.now =
    (at-key (subject_key (keys_at c.args.rows.now c.args.finder.now.first_fresh)) c.args.certs.now c.args.index.now c.args.key.now.row.now c.args.key.now.id (Some c.in-Some.position)
    c.requires.index c.args.key.now.identified c.in-Some.ensures).1 in
    omega arith

pub bounds-certs-position : goal.bounds-certs-position
bounds-certs-position c =
    (at-key (subject_key (keys_at c.args.rows.now c.args.finder.now.first_fresh)) c.args.certs.now c.args.index.now c.args.key.now.row.now c.args.key.now.id (Some c.in-Some.position)
    c.requires.index c.args.key.now.identified c.in-Some.ensures).1

pub returns-in-Some : goal.returns-in-Some
returns-in-Some c =
    c.key_named.ensures.key
    ∙ ap (option_and_then (λ (cert : CertWork). key_named (keys_at c.args.rows.now c.args.finder.now.first_fresh) cert.issuer))
    (sym (found-at (subject_key (keys_at c.args.rows.now c.args.finder.now.first_fresh)) c.args.certs.now c.args.index.now c.args.key.now.row.now c.args.key.now.id c.in-Some.position c.index-certs-position.result
    c.requires.index c.args.key.now.identified c.in-Some.ensures))

pub returns-in-None : goal.returns-in-None
returns-in-None c =
    ap (option_and_then (λ (cert : CertWork). key_named (keys_at c.args.rows.now c.args.finder.now.first_fresh) cert.issuer))
    (sym (at-key (subject_key (keys_at c.args.rows.now c.args.finder.now.first_fresh)) c.args.certs.now c.args.index.now c.args.key.now.row.now c.args.key.now.id None
    c.requires.index c.args.key.now.identified c.in-None.ensures))
