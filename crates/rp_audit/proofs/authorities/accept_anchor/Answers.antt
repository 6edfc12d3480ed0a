use Rattle.std.proofs.Common.{◌≡◌, ℕ, List, [], ◌∷◌, ◌++◌, Ok, sym, ap, subst, ◌∙◌}
use Rattle.std.proofs.lemmas.Result.{err_from_is_err_and}
use Rattle.payloads.specs.ManifestFormats.{name_of, file_view}
use Rattle.crl_obj.specs.Values.{crl_value}
use Rattle.rp_rules.specs.Checks.{Checked}
use Rattle.rp_rules.specs.Authorities.{Authority}
use Rattle.rp_rules.specs.Certificates.{accepted_anchor}
use Rattle.rp_audit.specs.inner.Told.{Gives, IsAnswer}
use Rattle.rp_audit.specs.inner.Views.{context_of, held_in, authority_value}
use Rattle.rp_audit.proofs.ByKind.{both_of, anchor_unread, anchor_broken, anchor_given}
use Rattle.rp_audit.specs.Vouching.{vouched_in}
use Rattle.rp_audit.proofs.Answering.{object_unasked}
use Rattle.rp_audit.proofs.authorities.accept_anchor.Goals as goal

pub returns-in_err-read : goal.returns-in_err-read
returns-in_err-read g c =
    let e = err_from_is_err_and c.from_residual-in_err-read.result c.from_residual-in_err-read.ensures.1 in
    rw (e.1, e.2) (anchor_unread (Gives authority_value) c.args.scene.now c.as_str-uri.result.now
    c.args.ring.now c.in_err-read.field-0.0 (c.as_str-uri.ensures.value ∙ c.in_ok-place.ensures) c.in_err-read.ensures)

pub returns-in_err-keep_all : goal.returns-in_err-keep_all
returns-in_err-keep_all g c =
    let e = err_from_is_err_and c.from_residual-in_err-keep_all.result c.from_residual-in_err-keep_all.ensures.1 in
    rw (e.1, e.2) (anchor_broken (Gives authority_value) c.args.scene.now c.as_str-uri.result.now
    c.args.ring.now c.is_vouched.new.ring c.in_ok-read.read c.in_ok-signed.signed c.in_ok-tests.tests c.in_err-keep_all.field-0.0 (c.as_str-uri.ensures.value ∙ c.in_ok-place.ensures)
    c.in_ok-read.ensures c.in_ok-signed.ensures.0 c.in_ok-signed.ensures.1 c.in_ok-tests.ensures c.in_err-keep_all.ensures)

pub returns : goal.returns
returns g c = (
  c.in_ok-signed.ensures.0,
  anchor_given c.args.scene.now c.as_str-uri.result.now
      c.args.ring.now c.in_ok-read.read c.in_ok-signed.signed c.in_ok-tests.tests (c.as_str-uri.ensures.value ∙ c.in_ok-place.ensures)
      c.in_ok-read.ensures c.in_ok-signed.ensures.1 c.in_ok-tests.ensures c.in_ok-keep_all.ensures ∙ ap (λ (a : Authority). let r : Checked Authority = Ok a in r) (sym c.in_ok-anchor.ensures),
)

pub returns-in_err-signed : goal.returns-in_err-signed
returns-in_err-signed g c =
    let e = err_from_is_err_and c.from_residual-in_err-signed.result c.from_residual-in_err-signed.ensures.1 in
    rw (e.1, e.2) (object_unasked (Gives authority_value) (λ s. accepted_anchor (context_of c.args.scene.now s) (held_in c.args.scene.now))
    (λ s. vouched_in s c.args.scene.now.anchor.now.bytes c.in_ok-read.read.digest.bytes c.in_ok-read.read.signature.bytes)
    c.args.ring.now c.args.ring.now c.is_vouched.new.ring c.in_err-signed.field-0.0 c.in_err-signed.ensures)
