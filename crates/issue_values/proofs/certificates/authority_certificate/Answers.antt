use Rattle.std.proofs.Common.{◌<◌, ◌^◌, subst, sym, arith}
use Rattle.cert_obj.specs.Values.{IsCert}
use Rattle.issue_values.specs.Publishers.{publishing}
use Rattle.issue_values.proofs.Leaves.{authority-spelled}
use Rattle.issue_values.proofs.certificates.authority_certificate.Goals as goal

pub returns-clause-spelled : goal.returns-clause-spelled
returns-clause-spelled c =
    let small : c.args.serial < 2 ^ 64 = omega arith in
    subst IsCert (sym c.in_ok-cert.ensures)
    (authority-spelled c.args.site.now c.args.moment (publishing c.args.issuer.now) (publishing c.args.subject.now) c.args.held.now c.args.serial
    c.can_publish.ensures c.requires.certified c.can_publish-2.ensures c.requires.moment c.are_sets.ensures small)
