use Rattle.std.proofs.Common.{get_or, ap}
use Rattle.issue_values.specs.declared.publishers.Publisher.{Publisher}
use Rattle.issue_sign.proofs.Said.{manifest-certificate-made}
use Rattle.issue_sign.proofs.manifests.certificate.Goals as goal

pub returns-clause-value : goal.returns-clause-value
returns-clause-value c =
    let all = c.args.sign_input.now.publishers.now in
    let i = c.args.manifest.now.issuer.position in
    manifest-certificate-made c.args.sign_input.now c.args.manifest.now c.args.key.now.bytes c.args.serial (get_or all i c.index-sign_input-manifest.result)
    c.manifest_certificate.result c.requires.issuer.inside (ap (λ (p : Publisher). get_or all i p) c.index-sign_input-manifest.is) c.manifest_certificate.ensures.value
