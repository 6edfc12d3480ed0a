use Rattle.std.proofs.Common.{◌≡◌, ◌<◌, ◌^◌, Some, subst, sym, arith, ◌∙◌}
use Rattle.std.specs.Prelude.{string_bytes}
use Rattle.cert_obj.specs.Values.{IsCert, cert_value, held_value}
use Rattle.issue_values.specs.Publishers.{publishing}
use Rattle.issue_values.specs.Certificates.{certificate_life, roa_certificate, prefix_sets}
use Rattle.issue_values.proofs.Leaves.{entity-same, roa-spelled}
use Rattle.issue_values.proofs.certificates.roa_certificate.Goals as goal

pub returns-clause-value : goal.returns-clause-value
returns-clause-value c =
    let e = c.in_ok-entity.entity in
    c.in_ok-cert.ensures
    ∙ entity-same c.args.site.now c.args.moment certificate_life (publishing c.args.issuer.now) c.args.serial
    e.key.bytes c.args.key.now.bytes (held_value e.held) (Some (prefix_sets c.args.prefix.now)) (string_bytes e.object) c.args.object.now
    c.in_ok-entity.ensures.key c.in_ok-entity.ensures.prefix c.in_ok-entity.ensures.object

pub returns-clause-spelled : goal.returns-clause-spelled
returns-clause-spelled c =
    let small : c.args.serial < 2 ^ 64 = omega arith in
    let e = c.in_ok-entity.entity in
    let value : cert_value c.in_ok-cert.cert ≡ roa_certificate c.args.site.now c.args.moment (publishing c.args.issuer.now) c.args.key.now.bytes c.args.prefix.now c.args.object.now c.args.serial =
    c.in_ok-cert.ensures
    ∙ entity-same c.args.site.now c.args.moment certificate_life (publishing c.args.issuer.now) c.args.serial
    e.key.bytes c.args.key.now.bytes (held_value e.held) (Some (prefix_sets c.args.prefix.now)) (string_bytes e.object) c.args.object.now
    c.in_ok-entity.ensures.key c.in_ok-entity.ensures.prefix c.in_ok-entity.ensures.object in
    subst IsCert (sym value)
    (roa-spelled c.args.site.now c.args.moment (publishing c.args.issuer.now) c.args.key.now.bytes c.args.prefix.now (held_value e.held) c.args.object.now c.args.serial
    c.can_publish.ensures c.requires.certified c.requires.moment c.args.key.now.spelled c.in_ok-entity.ensures.prefix c.in_ok-entity.ensures.held c.requires.object small)
