use Rattle.std.proofs.Common.{◌≡◌, refl, sym, ap, subst, ◌∙◌}
use Rattle.signer_api.specs.declared.values.OneUse.{OneUse}
use Rattle.cert_obj.specs.Values.{cert_value}
use Rattle.issue_drafts.specs.IssueInput.{input_of}
use Rattle.issue_drafts.specs.Views.{draft_of, kind_of}
use Rattle.issue_drafts.specs.declared.draft.DraftKind.{DraftKind}
use Rattle.issue_sign.specs.Objects.{roa_certificate}
use Rattle.issue_sign.proofs.Drafted.{second-whole, second-entity}
use Rattle.issue_sign.proofs.roas.second.Goals as goal

pub returns-in-Made-clause-second : goal.returns-in-Made-clause-second
returns-in-Made-clause-second c =
    λ b basis is.
    second-whole (input_of c.args.sign_input.now.input.now) b (draft_of c.args.draft.now) (kind_of c.args.draft.now.kind) c.args.half c.in-Made.object
    c.in-Made.is

pub returns-in_ok-tbs-in-Begun-clause-second : goal.returns-in_ok-tbs-in-Begun-clause-second
returns-in_ok-tbs-in-Begun-clause-second c =
    let kind = ap (λ (k : DraftKind). kind_of k) c.in-Route.is in
    let s = input_of c.args.sign_input.now.input.now in
    let d = draft_of c.args.draft.now in
    λ b basis is.
    second-entity s b d (kind_of c.args.draft.now.kind) c.args.half c.in-Begun.content c.in-Route.origin (cert_value c.in_ok-cert-in-Begun.cert)
    c.in_ok-tbs-in-Begun.tbs c.in-Begun.is kind
    (c.in_ok-cert-in-Begun.ensures.value b basis is kind
    ∙ ap (λ (once : OneUse). roa_certificate s b.keys b.all d c.in-Route.origin once.key.bytes) c.get.ensures)
    c.in_ok-cert-in-Begun.ensures.spelled c.in_ok-tbs-in-Begun.ensures
