use Rattle.std.proofs.Common.{get_or, ap}
use Rattle.issue_values.specs.declared.publishers.Publisher.{Publisher}
use Rattle.issue_sign.proofs.Said.{crl-made}
use Rattle.issue_sign.proofs.values.crl.Goals as goal

pub returns-clause-value : goal.returns-clause-value
returns-clause-value c =
    let all = c.args.sign_input.now.publishers.now in
    let i = c.args.issuer.now.position in
    crl-made c.args.sign_input.now c.args.issuer.now (get_or all i c.index-sign_input-issuer.result) c.index-sign_input-issuer-2.result c.as_slice-entries.result.now
    c.key_crl.result c.requires.issuer.inside (ap (λ (p : Publisher). get_or all i p) c.index-sign_input-issuer.is) c.as_slice-entries.ensures c.key_crl.ensures.value
