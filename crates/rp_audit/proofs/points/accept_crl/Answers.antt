use Rattle.std.proofs.Common.{◌≡◌, ℕ, List, [], ◌∷◌, ◌++◌, Ok, sym, ap, subst, ◌∙◌}
use Rattle.std.proofs.lemmas.Result.{err_from_is_err_and}
use Rattle.payloads.specs.ManifestFormats.{name_of, file_view}
use Rattle.crl_obj.specs.Values.{crl_value}
use Rattle.rp_rules.specs.Checks.{Checked}
use Rattle.rp_rules.specs.Authorities.{listed_uri, manifest_place}
use Rattle.rp_audit.specs.inner.Told.{Gives, IsAnswer}
use Rattle.rp_audit.specs.inner.Views.{authority_value, manifest_value, roa_value}
use Rattle.rp_audit.proofs.ByKind.{both_of, crl_unread, crl_broken, crl_given}
use Rattle.rp_audit.proofs.points.accept_crl.Goals as goal

pub returns-in_err-read-clause-told : goal.returns-in_err-read-clause-told
returns-in_err-read-clause-told g c = λ visited sees.
    let e = err_from_is_err_and c.from_residual-in_err-read.result c.from_residual-in_err-read.ensures.1 in
    rw (e.1, e.2) (crl_unread (Gives crl_value) c.args.scene.now (authority_value c.args.authority.now) (visited ++ manifest_place (authority_value c.args.authority.now) ∷ []) (file_view c.args.file.now) c.as_str-uri.result.now
    c.args.ring.now c.in_err-read.field-0.0 (c.as_str-uri.ensures.value ∙ (c.in_ok-place.ensures ∙ ap (λ (n : List ℕ). listed_uri (authority_value c.args.authority.now) n) c.as_str.ensures.value)) c.in_err-read.ensures.told)

pub returns-in_err-keep_all-clause-told : goal.returns-in_err-keep_all-clause-told
returns-in_err-keep_all-clause-told g c = λ visited sees.
    let e = err_from_is_err_and c.from_residual-in_err-keep_all.result c.from_residual-in_err-keep_all.ensures.1 in
    rw (e.1, e.2) (crl_broken (Gives crl_value) c.args.scene.now (authority_value c.args.authority.now) (visited ++ manifest_place (authority_value c.args.authority.now) ∷ []) (file_view c.args.file.now) c.as_str-uri.result.now
    c.args.ring.now c.is_vouched.new.ring c.in_ok-read.read c.in_ok-signed.signed c.in_ok-tests.tests c.in_err-keep_all.field-0.0 (c.as_str-uri.ensures.value ∙ (c.in_ok-place.ensures ∙ ap (λ (n : List ℕ). listed_uri (authority_value c.args.authority.now) n) c.as_str.ensures.value))
    c.in_ok-read.ensures.told c.in_ok-signed.ensures.0 c.in_ok-signed.ensures.1 (c.in_ok-tests.ensures visited sees) c.in_err-keep_all.ensures)

pub returns-clause-told : goal.returns-clause-told
returns-clause-told g c = λ visited sees. (
  c.in_ok-signed.ensures.0,
  crl_given c.args.scene.now (authority_value c.args.authority.now) (visited ++ manifest_place (authority_value c.args.authority.now) ∷ []) (file_view c.args.file.now) c.as_str-uri.result.now
      c.args.ring.now c.in_ok-read.read c.in_ok-signed.signed c.in_ok-tests.tests (c.as_str-uri.ensures.value ∙ (c.in_ok-place.ensures ∙ ap (λ (n : List ℕ). listed_uri (authority_value c.args.authority.now) n) c.as_str.ensures.value))
      c.in_ok-read.ensures.told c.in_ok-signed.ensures.1 (c.in_ok-tests.ensures visited sees) c.in_ok-keep_all.ensures,
)
