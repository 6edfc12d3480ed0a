use Rattle.std.proofs.Common.{◌≡◌, refl, sym, ap, subst, ◌∙◌}
use Rattle.signer_api.specs.declared.values.OneUse.{OneUse}
use Rattle.cert_obj.specs.Values.{cert_value}
use Rattle.issue_drafts.specs.IssueInput.{input_of}
use Rattle.issue_drafts.specs.Views.{manifest_of}
use Rattle.issue_sign.specs.Objects.{manifest_certificate}
use Rattle.issue_sign.proofs.Manifested.{last-entity}
use Rattle.issue_sign.proofs.manifests.last.Goals as goal

pub returns-clause-last : goal.returns-clause-last
returns-clause-last c =
    let s = input_of c.args.sign_input.now.input.now in
    let d = manifest_of c.args.manifest.now in
    λ b basis positioned serial.
    last-entity s b d c.args.half c.in-Begun.content (cert_value c.in_ok-cert.cert) c.in_ok-tbs.tbs c.in-Begun.is
    (c.in_ok-cert.ensures.value b basis positioned serial
    ∙ ap (λ (once : OneUse). manifest_certificate s b.keys b.all d once.key.bytes) c.get.ensures)
    c.in_ok-cert.ensures.spelled c.in_ok-tbs.ensures
