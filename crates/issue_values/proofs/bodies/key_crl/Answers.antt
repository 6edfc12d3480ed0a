use Rattle.std.proofs.Common.{◌<◌, ◌^◌, arith}
use Rattle.issue_values.proofs.Leaves.{crl-spelled}
use Rattle.issue_values.proofs.bodies.key_crl.Goals as goal

pub returns-clause-spelled : goal.returns-clause-spelled
returns-clause-spelled c =
    let small : c.args.number < 2 ^ 64 = omega arith in
    crl-spelled c.args.moment c.args.publisher.now.id.bytes c.args.number c.args.revoked.now c.in_ok-crl_entries.field-0.items
    c.requires.moment c.requires.revoked (c.is_identifier.ensures.length, c.is_identifier.ensures.bytes) small
    c.in_ok-crl_entries.ensures.entries c.in_ok-crl_entries.ensures.serials
