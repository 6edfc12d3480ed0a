use Rattle.std.proofs.Common.{◌<◌, length}
use Rattle.key_roll.specs.declared.rows.KeyRow.{KeyRow}
use Rattle.issue_drafts.proofs.Standing.{issuer-holds}
use Rattle.issue_drafts.proofs.key_publishers.certificate_uri.Goals as goal

pub made_uri-requires : goal.made_uri-requires
made_uri-requires c =
    issuer-holds (λ (row : KeyRow). row.desk < length c.args.at.now.names.now)
    c.args.rows.now c.args.finder.now.first_fresh c.as_slice-certs.result.now c.args.key.now.row.now
    c.in-Some.issuer.row.now c.requires.names c.in-Some.ensures
