use Rattle.std.proofs.Common.{Bor, ◌≡◌, ◌++◌, ◌∷◌, [], ℕ, List, Option, Ok, Err, Result, map, sym, ap, subst, ◌∙◌}
use Rattle.std.proofs.lemmas.Result.{err_from_is_err_and}
use Rattle.std.specs.List.{filter}
use Rattle.crl_obj.specs.Values.{crl_value}
use Rattle.payloads.specs.declared.values.ListedFile.{ListedFile}
use Rattle.payloads.specs.ManifestFormats.{file_view}
use Rattle.rp_rules.specs.declared.rules.Rule.TheVariants as rule
use Rattle.rp_rules.specs.Checks.{Checked, Test, found}
use Rattle.rp_rules.specs.Authorities.{manifest_place}
use Rattle.rp_rules.specs.Certificates.{File}
use Rattle.rp_rules.specs.Points.{is_crl_file, first_of, accepted_crl}
use Rattle.rp_audit.specs.inner.Told.{Gives, Tells, kept}
use Rattle.rp_audit.specs.inner.Views.{context_of, held_in, authority_value, manifest_value, point_value}
use Rattle.rp_audit.proofs.Checking.{found_tells}
use Rattle.rp_audit.proofs.Answering.{answers_behind}
use Rattle.rp_audit.proofs.PointSteps.{no_manifest, no_file, no_crl, not_both, point_given}
use Rattle.rp_audit.proofs.points.accept_point.Goals as goal

pub returns-in_err-manifest : goal.returns-in_err-manifest
returns-in_err-manifest g c = λ visited sees.
    let e = err_from_is_err_and c.from_residual.result c.from_residual.ensures.1 in
    rw (e.1, e.2) (no_manifest (Gives (point_value c.args.authority.now)) c.args.scene.now (authority_value c.args.authority.now) visited c.args.ring.now c.accept_manifest.new.ring c.in_err-manifest.field-0.0 (c.in_err-manifest.ensures visited sees))

pub returns-in_err-file : goal.returns-in_err-file
returns-in_err-file g c = λ visited sees.
    let e = err_from_is_err_and c.from_residual-in_err-file.result c.from_residual-in_err-file.ensures.1 in
    rw (e.1, e.2) (no_file (Gives (point_value c.args.authority.now)) (λ (f : Bor ListedFile). file_view f.now) c.args.scene.now (authority_value c.args.authority.now) visited c.as_str-uri.result.now c.args.ring.now c.accept_manifest.new.ring (manifest_value c.in_ok-manifest.manifest) c.in_err-file.field-0.0 c.as_str-uri.ensures.value
    (c.in_ok-manifest.ensures visited sees).1 (c.in_ok-manifest.ensures visited sees).0
    (subst (λ (o : Option File). Tells (λ (f : Bor ListedFile). file_view f.now) (found c.as_str-uri.result.now rule.List o) (Err c.in_err-file.field-0.0)) (c.first_crl.ensures ∙ ap (λ (fs : List ListedFile). first_of (filter is_crl_file (map file_view fs))) c.deref.ensures.value) (found_tells (λ (f : Bor ListedFile). file_view f.now) c.as_str-uri.result.now rule.List c.first_crl.result (Err c.in_err-file.field-0.0) c.in_err-file.ensures)))

pub returns-in_err-crl : goal.returns-in_err-crl
returns-in_err-crl g c = λ visited sees.
    let e = err_from_is_err_and c.from_residual-in_err-crl.result c.from_residual-in_err-crl.ensures.1 in
    rw (e.1, e.2) (no_crl (Gives (point_value c.args.authority.now)) c.args.scene.now (authority_value c.args.authority.now) visited c.as_str-uri.result.now c.args.ring.now c.accept_manifest.new.ring c.accept_crl.new.ring (manifest_value c.in_ok-manifest.manifest) (file_view c.in_ok-file.file.now) c.in_err-crl.field-0.0 c.as_str-uri.ensures.value
    (c.in_ok-manifest.ensures visited sees).1 (c.in_ok-manifest.ensures visited sees).0
    (subst (λ (o : Option File). Tells (λ (f : Bor ListedFile). file_view f.now) (found c.as_str-uri.result.now rule.List o) (Ok c.in_ok-file.file)) (c.first_crl.ensures ∙ ap (λ (fs : List ListedFile). first_of (filter is_crl_file (map file_view fs))) c.deref.ensures.value) (found_tells (λ (f : Bor ListedFile). file_view f.now) c.as_str-uri.result.now rule.List c.first_crl.result (Ok c.in_ok-file.file) c.in_ok-file.ensures))
    (c.in_err-crl.ensures.told visited sees))

pub returns-in_err-keep_all : goal.returns-in_err-keep_all
returns-in_err-keep_all g c = λ visited sees.
    let e = err_from_is_err_and c.from_residual-in_err-keep_all.result c.from_residual-in_err-keep_all.ensures.1 in
    rw (e.1, e.2) (let crl = (answers_behind (Gives crl_value) (λ s. accepted_crl (context_of c.args.scene.now s) (held_in c.args.scene.now) (authority_value c.args.authority.now) (visited ++ manifest_place (authority_value c.args.authority.now) ∷ []) (file_view c.in_ok-file.file.now)) (Ok c.in_ok-crl.crl) c.args.ring.now c.accept_manifest.new.ring c.accept_crl.new.ring (c.in_ok-manifest.ensures visited sees).0 (c.in_ok-crl.ensures.told visited sees)) in
    not_both (Gives (point_value c.args.authority.now)) c.args.scene.now (authority_value c.args.authority.now) visited c.as_str-uri.result.now c.args.ring.now c.accept_crl.new.ring (manifest_value c.in_ok-manifest.manifest) (file_view c.in_ok-file.file.now) (crl_value c.in_ok-crl.crl) c.in_err-keep_all.field-0.0 c.as_str-uri.ensures.value
    (c.in_ok-manifest.ensures visited sees).1
    (subst (λ (o : Option File). Tells (λ (f : Bor ListedFile). file_view f.now) (found c.as_str-uri.result.now rule.List o) (Ok c.in_ok-file.file)) (c.first_crl.ensures ∙ ap (λ (fs : List ListedFile). first_of (filter is_crl_file (map file_view fs))) c.deref.ensures.value) (found_tells (λ (f : Bor ListedFile). file_view f.now) c.as_str-uri.result.now rule.List c.first_crl.result (Ok c.in_ok-file.file) c.in_ok-file.ensures))
    crl.1 crl.0
    (subst (λ (ts : List Test). Tells (λ u. u) (kept c.as_str-uri.result.now ts) (Err c.in_err-keep_all.field-0.0)) c.point_tests.ensures c.in_err-keep_all.ensures))

pub returns : goal.returns
returns g c = λ visited sees.
    let crl = (answers_behind (Gives crl_value) (λ s. accepted_crl (context_of c.args.scene.now s) (held_in c.args.scene.now) (authority_value c.args.authority.now) (visited ++ manifest_place (authority_value c.args.authority.now) ∷ []) (file_view c.in_ok-file.file.now)) (Ok c.in_ok-crl.crl) c.args.ring.now c.accept_manifest.new.ring c.accept_crl.new.ring (c.in_ok-manifest.ensures visited sees).0 (c.in_ok-crl.ensures.told visited sees)) in (
      crl.0,
      point_given c.args.scene.now (authority_value c.args.authority.now) visited c.as_str-uri.result.now c.args.ring.now (manifest_value c.in_ok-manifest.manifest) (file_view c.in_ok-file.file.now) (crl_value c.in_ok-crl.crl) c.as_str-uri.ensures.value
          (c.in_ok-manifest.ensures visited sees).1
          (subst (λ (o : Option File). Tells (λ (f : Bor ListedFile). file_view f.now) (found c.as_str-uri.result.now rule.List o) (Ok c.in_ok-file.file)) (c.first_crl.ensures ∙ ap (λ (fs : List ListedFile). first_of (filter is_crl_file (map file_view fs))) c.deref.ensures.value) (found_tells (λ (f : Bor ListedFile). file_view f.now) c.as_str-uri.result.now rule.List c.first_crl.result (Ok c.in_ok-file.file) c.in_ok-file.ensures))
          crl.1
          (subst (λ (ts : List Test). kept c.as_str-uri.result.now ts ≡ Ok c.in_ok-keep_all.field-0) c.point_tests.ensures c.in_ok-keep_all.ensures),
    )
