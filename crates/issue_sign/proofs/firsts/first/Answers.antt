use Rattle.cert_obj.specs.Values.{cert_value}
use Rattle.crl_obj.specs.Values.{crl_value}
use Rattle.issue_drafts.specs.IssueInput.{input_of}
use Rattle.issue_sign.proofs.Said.{subject-positioned}
use Rattle.issue_sign.proofs.Drafted.{certificate-first, crl-first, route-first}
use Rattle.issue_sign.proofs.firsts.first.Goals as goal

pub returns-in_ok-tbs-in-Authority-clause-first : goal.returns-in_ok-tbs-in-Authority-clause-first
returns-in_ok-tbs-in-Authority-clause-first c =
    let draft = c.args.draft.now in
    let to = c.in-Authority in
    let cert = cert_value c.in_ok-cert-in-Authority.cert in
    λ b basis is.
    certificate-first (input_of c.args.sign_input.now.input.now) b draft c.args.serial to.subject to.held cert c.in_ok-tbs-in-Authority.tbs to.is is
    (c.in_ok-cert-in-Authority.ensures.value b basis is.issuer (subject-positioned b draft to.subject to.held c.args.serial to.is is))
    c.in_ok-cert-in-Authority.ensures.spelled c.in_ok-tbs-in-Authority.ensures

pub returns-in_ok-tbs-in-Crl-clause-first : goal.returns-in_ok-tbs-in-Crl-clause-first
returns-in_ok-tbs-in-Crl-clause-first c =
    λ b basis is.
    crl-first (input_of c.args.sign_input.now.input.now) b c.args.draft.now (crl_value c.in_ok-crl-in-Crl.crl) c.in_ok-tbs-in-Crl.tbs c.in-Crl.is
    (c.in_ok-crl-in-Crl.ensures.value b basis is.issuer) c.in_ok-crl-in-Crl.ensures.spelled c.in_ok-tbs-in-Crl.ensures

pub returns-in_ok-content-in-Route-clause-first : goal.returns-in_ok-content-in-Route-clause-first
returns-in_ok-content-in-Route-clause-first c =
    λ b basis is.
    route-first (input_of c.args.sign_input.now.input.now) b c.args.draft.now c.in-Route.origin c.in_ok-content-in-Route.content c.in-Route.is
    c.in_ok-content-in-Route.ensures.spelled c.in_ok-content-in-Route.ensures.content
