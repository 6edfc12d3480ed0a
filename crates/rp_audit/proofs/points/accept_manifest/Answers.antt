use Rattle.std.proofs.Common.{◌≡◌, ℕ, List, [], ◌∷◌, ◌++◌, Ok, sym, ap, subst, ◌∙◌}
use Rattle.std.proofs.lemmas.Result.{err_from_is_err_and}
use Rattle.std.specs.Prelude.{◌&&◌}
use Rattle.payloads.specs.ManifestFormats.{name_of, file_view}
use Rattle.crl_obj.specs.Values.{crl_value}
use Rattle.rp_rules.specs.Checks.{Checked}
use Rattle.rp_rules.specs.Points.{accepted_manifest}
use Rattle.rp_audit.specs.inner.Told.{Gives, IsAnswer}
use Rattle.rp_audit.specs.inner.Views.{context_of, held_in, authority_value, manifest_value}
use Rattle.rp_audit.proofs.ByKind.{both_of, manifest_unread, manifest_broken, manifest_given}
use Rattle.rp_audit.specs.Vouching.{vouched_in}
use Rattle.rp_audit.proofs.Answering.{object_unasked}
use Rattle.rp_audit.proofs.points.accept_manifest.Goals as goal

pub returns-in_err-m : goal.returns-in_err-m
returns-in_err-m g c = λ visited sees.
    let e = err_from_is_err_and c.from_residual.result c.from_residual.ensures.1 in
    rw (e.1, e.2) (manifest_unread (Gives manifest_value) c.args.scene.now (authority_value c.args.authority.now) visited c.as_str-uri.result.now
    c.args.ring.now c.in_err-m.field-0.0 c.as_str-uri.ensures.value c.in_err-m.ensures)

pub returns-in_err-keep_all : goal.returns-in_err-keep_all
returns-in_err-keep_all g c = λ visited sees.
    let e = err_from_is_err_and c.from_residual-in_err-keep_all.result c.from_residual-in_err-keep_all.ensures.1 in
    rw (e.1, e.2) (manifest_broken (Gives manifest_value) c.args.scene.now (authority_value c.args.authority.now) visited c.as_str-uri.result.now
    c.args.ring.now c.are_vouched.new.ring c.in_ok-m.m c.in_ok-signed.signed c.in_ok-tests.tests c.in_err-keep_all.field-0.0 c.as_str-uri.ensures.value
    c.in_ok-m.ensures c.in_ok-signed.ensures.0 c.in_ok-signed.ensures.1 (c.in_ok-tests.ensures visited sees) c.in_err-keep_all.ensures)

pub returns : goal.returns
returns g c = λ visited sees. (
  c.in_ok-signed.ensures.0,
  manifest_given c.args.scene.now (authority_value c.args.authority.now) visited c.as_str-uri.result.now
      c.args.ring.now c.in_ok-m.m c.in_ok-signed.signed c.in_ok-tests.tests c.as_str-uri.ensures.value
      c.in_ok-m.ensures c.in_ok-signed.ensures.1 (c.in_ok-tests.ensures visited sees) c.in_ok-keep_all.ensures,
)

pub returns-in_err-signed : goal.returns-in_err-signed
returns-in_err-signed g c = λ visited sees.
    let e = err_from_is_err_and c.from_residual-in_err-signed.result c.from_residual-in_err-signed.ensures.1 in
    rw (e.1, e.2) (object_unasked (Gives manifest_value) (λ s. accepted_manifest (context_of c.args.scene.now s) (held_in c.args.scene.now) (authority_value c.args.authority.now) visited)
    (λ s. vouched_in s c.args.authority.now.cert.key.bytes c.in_ok-m.m.certificate.digest.bytes c.in_ok-m.m.certificate.signature.bytes
    && vouched_in s c.in_ok-m.m.certificate.cert.key.bytes c.in_ok-m.m.object.digest.bytes c.in_ok-m.m.object.signature.bytes)
    c.args.ring.now c.args.ring.now c.are_vouched.new.ring c.in_err-signed.field-0.0 c.in_err-signed.ensures)
