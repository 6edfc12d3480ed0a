use Rattle.std.proofs.Common.{◌≡◌, ℕ, List, [], ◌∷◌, ◌++◌, Ok, sym, ap, subst, ◌∙◌}
use Rattle.std.proofs.lemmas.Result.{err_from_is_err_and}
use Rattle.std.specs.Prelude.{◌&&◌}
use Rattle.payloads.specs.ManifestFormats.{name_of, file_view}
use Rattle.crl_obj.specs.Values.{crl_value}
use Rattle.rp_rules.specs.Checks.{Checked}
use Rattle.rp_rules.specs.Points.{accepted_roa}
use Rattle.rp_rules.specs.Authorities.{Authority, listed_uri}
use Rattle.rp_audit.specs.inner.Told.{Gives, IsAnswer}
use Rattle.rp_audit.specs.inner.Views.{context_of, held_in, authority_value, roa_value}
use Rattle.rp_audit.proofs.ByKind.{both_of, roa_unread, roa_broken, roa_given}
use Rattle.rp_audit.specs.Vouching.{vouched_in}
use Rattle.rp_audit.proofs.Answering.{object_unasked}
use Rattle.rp_audit.proofs.roas.accept_roa.Goals as goal

pub returns-in_err-roa : goal.returns-in_err-roa
returns-in_err-roa g c = λ p visited above entries sees.
    let e = err_from_is_err_and c.from_residual-in_err-roa.result c.from_residual-in_err-roa.ensures.1 in
    rw (e.1, e.2) (roa_unread (Gives roa_value) c.args.scene.now p visited (file_view c.args.file.now) c.as_str-uri.result.now
    c.args.ring.now c.in_err-roa.field-0.0 (c.as_str-uri.ensures.value ∙ (c.in_ok-place.ensures ∙ (ap (λ (n : List ℕ). listed_uri (authority_value c.args.issuer.now) n) c.as_str.ensures.value ∙ ap (λ (a : Authority). listed_uri a (name_of c.args.file.now)) (sym above)))) c.in_err-roa.ensures)

pub returns-in_err-keep_all : goal.returns-in_err-keep_all
returns-in_err-keep_all g c = λ p visited above entries sees.
    let e = err_from_is_err_and c.from_residual-in_err-keep_all.result c.from_residual-in_err-keep_all.ensures.1 in
    rw (e.1, e.2) (roa_broken (Gives roa_value) c.args.scene.now p visited (file_view c.args.file.now) c.as_str-uri.result.now
    c.args.ring.now c.are_vouched.new.ring c.in_ok-roa.roa c.in_ok-signed.signed c.in_ok-tests.tests c.in_err-keep_all.field-0.0 (c.as_str-uri.ensures.value ∙ (c.in_ok-place.ensures ∙ (ap (λ (n : List ℕ). listed_uri (authority_value c.args.issuer.now) n) c.as_str.ensures.value ∙ ap (λ (a : Authority). listed_uri a (name_of c.args.file.now)) (sym above))))
    c.in_ok-roa.ensures c.in_ok-signed.ensures.0 (subst (λ (a : Authority). IsAnswer c.args.ring.now c.in_ok-signed.signed (Ok (both_of c.args.ring.now a.cert.key c.in_ok-roa.roa.certificate.digest.bytes c.in_ok-roa.roa.certificate.signature.bytes c.in_ok-roa.roa.certificate.cert.key.bytes c.in_ok-roa.roa.object.digest.bytes c.in_ok-roa.roa.object.signature.bytes))) (sym above) c.in_ok-signed.ensures.1) (c.in_ok-tests.ensures p visited above entries sees) c.in_err-keep_all.ensures)

pub returns : goal.returns
returns g c = λ p visited above entries sees. (
  c.in_ok-signed.ensures.0,
  roa_given c.args.scene.now p visited (file_view c.args.file.now) c.as_str-uri.result.now
      c.args.ring.now c.in_ok-roa.roa c.in_ok-signed.signed c.in_ok-tests.tests (c.as_str-uri.ensures.value ∙ (c.in_ok-place.ensures ∙ (ap (λ (n : List ℕ). listed_uri (authority_value c.args.issuer.now) n) c.as_str.ensures.value ∙ ap (λ (a : Authority). listed_uri a (name_of c.args.file.now)) (sym above))))
      c.in_ok-roa.ensures (subst (λ (a : Authority). IsAnswer c.args.ring.now c.in_ok-signed.signed (Ok (both_of c.args.ring.now a.cert.key c.in_ok-roa.roa.certificate.digest.bytes c.in_ok-roa.roa.certificate.signature.bytes c.in_ok-roa.roa.certificate.cert.key.bytes c.in_ok-roa.roa.object.digest.bytes c.in_ok-roa.roa.object.signature.bytes))) (sym above) c.in_ok-signed.ensures.1) (c.in_ok-tests.ensures p visited above entries sees) c.in_ok-keep_all.ensures,
)

pub returns-in_err-signed : goal.returns-in_err-signed
returns-in_err-signed g c = λ p visited above entries sees.
    let e = err_from_is_err_and c.from_residual-in_err-signed.result c.from_residual-in_err-signed.ensures.1 in
    rw (e.1, e.2) (object_unasked (Gives roa_value) (λ s. accepted_roa (context_of c.args.scene.now s) (held_in c.args.scene.now) p visited (file_view c.args.file.now))
    (λ s. vouched_in s c.args.issuer.now.cert.key.bytes c.in_ok-roa.roa.certificate.digest.bytes c.in_ok-roa.roa.certificate.signature.bytes
    && vouched_in s c.in_ok-roa.roa.certificate.cert.key.bytes c.in_ok-roa.roa.object.digest.bytes c.in_ok-roa.roa.object.signature.bytes)
    c.args.ring.now c.args.ring.now c.are_vouched.new.ring c.in_err-signed.field-0.0 c.in_err-signed.ensures)
