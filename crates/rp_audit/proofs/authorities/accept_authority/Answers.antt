use Rattle.std.proofs.Common.{◌≡◌, ℕ, List, [], ◌∷◌, ◌++◌, Ok, sym, ap, subst, ◌∙◌}
use Rattle.std.proofs.lemmas.Result.{err_from_is_err_and}
use Rattle.payloads.specs.ManifestFormats.{name_of, file_view}
use Rattle.crl_obj.specs.Values.{crl_value}
use Rattle.rp_rules.specs.Checks.{Checked}
use Rattle.rp_rules.specs.Authorities.{Authority, listed_uri}
use Rattle.rp_rules.specs.Certificates.{accepted_authority}
use Rattle.rp_audit.specs.inner.Told.{Gives, IsAnswer}
use Rattle.rp_audit.specs.inner.Views.{context_of, held_in, authority_value}
use Rattle.rp_audit.proofs.ByKind.{both_of, authority_unread, authority_broken, authority_given}
use Rattle.rp_audit.specs.Vouching.{vouched_in}
use Rattle.rp_audit.proofs.Answering.{object_unasked}
use Rattle.rp_audit.proofs.authorities.accept_authority.Goals as goal

pub returns-in_err-read : goal.returns-in_err-read
returns-in_err-read g c = λ visited sees.
    let e = err_from_is_err_and c.from_residual-in_err-read.result c.from_residual-in_err-read.ensures.1 in
    rw (e.1, e.2) (authority_unread (Gives authority_value) c.args.scene.now (authority_value c.args.issuer.now) c.args.revoked.now visited (file_view c.args.file.now) c.as_str-uri.result.now
    c.args.ring.now c.in_err-read.field-0.0 (c.as_str-uri.ensures.value ∙ (c.in_ok-place.ensures ∙ ap (λ (n : List ℕ). listed_uri (authority_value c.args.issuer.now) n) c.as_str.ensures.value)) c.in_err-read.ensures)

pub returns-in_err-keep_all : goal.returns-in_err-keep_all
returns-in_err-keep_all g c = λ visited sees.
    let e = err_from_is_err_and c.from_residual-in_err-keep_all.result c.from_residual-in_err-keep_all.ensures.1 in
    rw (e.1, e.2) (authority_broken (Gives authority_value) c.args.scene.now (authority_value c.args.issuer.now) c.args.revoked.now visited (file_view c.args.file.now) c.as_str-uri.result.now
    c.args.ring.now c.is_vouched.new.ring c.in_ok-read.read c.in_ok-signed.signed c.in_ok-tests.tests c.in_err-keep_all.field-0.0 (c.as_str-uri.ensures.value ∙ (c.in_ok-place.ensures ∙ ap (λ (n : List ℕ). listed_uri (authority_value c.args.issuer.now) n) c.as_str.ensures.value))
    c.in_ok-read.ensures c.in_ok-signed.ensures.0 c.in_ok-signed.ensures.1 (c.in_ok-tests.ensures visited sees) c.in_err-keep_all.ensures)

pub returns : goal.returns
returns g c = λ visited sees. (
  c.in_ok-signed.ensures.0,
  authority_given c.args.scene.now (authority_value c.args.issuer.now) c.args.revoked.now visited (file_view c.args.file.now) c.as_str-uri.result.now
      c.args.ring.now c.in_ok-read.read c.in_ok-signed.signed c.in_ok-tests.tests (c.as_str-uri.ensures.value ∙ (c.in_ok-place.ensures ∙ ap (λ (n : List ℕ). listed_uri (authority_value c.args.issuer.now) n) c.as_str.ensures.value))
      c.in_ok-read.ensures c.in_ok-signed.ensures.1 (c.in_ok-tests.ensures visited sees) c.in_ok-keep_all.ensures ∙ ap (λ (a : Authority). let r : Checked Authority = Ok a in r) (sym c.in_ok-child.ensures),
)

pub returns-in_err-signed : goal.returns-in_err-signed
returns-in_err-signed g c = λ visited sees.
    let e = err_from_is_err_and c.from_residual-in_err-signed.result c.from_residual-in_err-signed.ensures.1 in
    rw (e.1, e.2) (object_unasked (Gives authority_value)
    (λ s. accepted_authority (context_of c.args.scene.now s) (held_in c.args.scene.now) (authority_value c.args.issuer.now) c.args.revoked.now visited (file_view c.args.file.now))
    (λ s. vouched_in s c.args.issuer.now.cert.key.bytes c.in_ok-read.read.digest.bytes c.in_ok-read.read.signature.bytes)
    c.args.ring.now c.args.ring.now c.is_vouched.new.ring c.in_err-signed.field-0.0 c.in_err-signed.ensures)
