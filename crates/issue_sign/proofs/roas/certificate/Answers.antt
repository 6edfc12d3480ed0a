use Rattle.std.proofs.Common.{get_or, ap}
use Rattle.issue_values.specs.declared.publishers.Publisher.{Publisher}
use Rattle.issue_sign.proofs.Said.{roa-made}
use Rattle.issue_sign.proofs.roas.certificate.Goals as goal

pub returns-clause-value : goal.returns-clause-value
returns-clause-value c =
    let all = c.args.sign_input.now.publishers.now in
    let i = c.args.draft.now.issuer.position in
    roa-made c.args.sign_input.now c.args.draft.now c.as_str.result.now c.args.origin.now c.args.key.now.bytes c.args.serial
    (get_or all i c.index-sign_input-draft.result) c.roa_certificate.result c.requires.issuer.inside
    (ap (λ (p : Publisher). get_or all i p) c.index-sign_input-draft.is) c.as_str.ensures c.roa_certificate.ensures.value
