use Rattle.std.proofs.Common.{get_or, ap, sym, ◌∙◌}
use Rattle.issue_values.specs.declared.publishers.Publisher.{Publisher}
use Rattle.issue_sign.proofs.Said.{anchor-made, authority-made}
use Rattle.issue_sign.proofs.values.certificate.Goals as goal

pub returns-then-eq-clause-value : goal.returns-then-eq-clause-value
returns-then-eq-clause-value c =
    let all = c.args.sign_input.now.publishers.now in
    let i = c.args.issuer.now.position in
    let j = c.args.subject.now.position in
    anchor-made c.args.sign_input.now c.args.issuer.now c.args.subject.now c.args.held.now c.args.serial
    (get_or all i c.index-sign_input-issuer.result) (get_or all j c.index-sign_input-subject.result)
    c.anchor_certificate.result c.requires.issuer.inside c.requires.subject
    (ap (λ (p : Publisher). get_or all i p) c.index-sign_input-issuer.is) (ap (λ (p : Publisher). get_or all j p) c.index-sign_input-subject.is)
    (sym c.eq.ensures ∙ c.if-eq.true) c.anchor_certificate.ensures.value

pub returns-else-eq-clause-value : goal.returns-else-eq-clause-value
returns-else-eq-clause-value c =
    let all = c.args.sign_input.now.publishers.now in
    let i = c.args.issuer.now.position in
    let j = c.args.subject.now.position in
    authority-made c.args.sign_input.now c.args.issuer.now c.args.subject.now c.args.held.now c.args.serial
    (get_or all i c.index-sign_input-issuer.result) (get_or all j c.index-sign_input-subject.result)
    c.authority_certificate.result c.requires.issuer.inside c.requires.subject
    (ap (λ (p : Publisher). get_or all i p) c.index-sign_input-issuer.is) (ap (λ (p : Publisher). get_or all j p) c.index-sign_input-subject.is)
    (sym c.eq.ensures ∙ c.if-eq.false) c.authority_certificate.ensures.value
