use Rattle.std.proofs.Common.{Bor, ◌≡◌, ℕ, List, sym, ap, ◌∙◌}
use Rattle.std.proofs.lemmas.Result.{err_from_is_err_and}
use Rattle.std.specs.Str.{bytes_eq}
use Rattle.payloads.specs.ManifestFormats.{file_view}
use Rattle.rp_audit.specs.inner.Views.{held_in}
use Rattle.rp_audit.proofs.Checking.{listed_unfound, listed_other, listed_same}
use Rattle.rp_audit.proofs.scene.listed_bytes.Goals as goal

pub returns-in_err-bytes : goal.returns-in_err-bytes
returns-in_err-bytes c =
    let e = err_from_is_err_and c.from_residual.result c.from_residual.ensures.1 in
    rw (e.1, e.2) (listed_unfound (λ (bytes : Bor (List ℕ)). bytes.now) (λ (bytes : Bor (List ℕ)). bytes.now) (held_in c.args.scene.now) c.args.uri.now (file_view c.args.file.now) c.in_err-bytes.field-0.0 c.in_err-bytes.ensures)

pub returns-then-not-are_same : goal.returns-then-not-are_same
returns-then-not-are_same c =
    listed_other (λ (bytes : Bor (List ℕ)). bytes.now) (held_in c.args.scene.now) c.args.uri.now (file_view c.args.file.now) c.in_ok-bytes.bytes.now c.refusal.result c.in_ok-bytes.ensures
    (ap (λ (h : List ℕ). bytes_eq h c.args.file.now.hash) (sym c.digest-hash.ensures) ∙ (sym c.are_same.ensures ∙ c.if-not-are_same.true)) c.refusal.ensures

pub returns : goal.returns
returns c =
    listed_same (held_in c.args.scene.now) c.args.uri.now (file_view c.args.file.now) c.in_ok-bytes.bytes.now c.in_ok-bytes.ensures
    (ap (λ (h : List ℕ). bytes_eq h c.args.file.now.hash) (sym c.digest-hash.ensures) ∙ (sym c.are_same.ensures ∙ c.if-not-are_same.false))
