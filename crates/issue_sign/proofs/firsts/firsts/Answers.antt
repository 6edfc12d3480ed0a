use Rattle.std.proofs.Common.{◌≡◌, ℕ, ◌+◌, ◌<◌, List, [], ◌∷◌, ◌++◌, length, refl, sym, ap, subst, ◌∙◌, arith}
use Rattle.std.proofs.lemmas.List.{length_push}
use Rattle.issue_drafts.specs.IssueInput.{input_of}
use Rattle.issue_drafts.specs.Views.{draft_of, kind_of}
use Rattle.issue_drafts.specs.declared.draft.Draft as code
use Rattle.issue_sign.specs.declared.steps.Step.{Step}
use Rattle.issue_sign.specs.inner.Steps.{IsFirstOf, IsStepOf, Pairs}
use Rattle.issue_sign.proofs.Lists.{pairs-nil, pairs-next}
use Rattle.issue_sign.proofs.Positions.{read-draft}
use Rattle.issue_sign.proofs.firsts.firsts.Goals as goal

pub loop-draft-init : goal.loop-draft-init
loop-draft-init c =
    let s = input_of c.args.sign_input.now.input.now in
    let drafts = c.args.drafts.now in
    let none = c.in_ok-steps.ensures.items in
    record {
      long = ap length none;
      steps = subst (λ (l : List Step). Pairs IsStepOf drafts l) (sym none) (pairs-nil IsStepOf drafts);
      firsts = λ b basis are. subst (λ (l : List Step). Pairs (λ d st. IsFirstOf s b (draft_of d) (kind_of d.kind) st.pending) drafts l) (sym none)
          (pairs-nil (λ (d : code.Draft) (st : Step). IsFirstOf s b (draft_of d) (kind_of d.kind) st.pending) drafts);
    }

pub loop-draft-preserved : goal.loop-draft-preserved
loop-draft-preserved c =
    let s = input_of c.args.sign_input.now.input.now in
    let drafts = c.args.drafts.now in
    let steps = c.loop-draft.steps.items in
    let draft = c.draft-item.result in
    let same : c.len-position.result ≡ c.loop-draft.draft-index = omega arith in
    let st : Step = record { issuer = draft.issuer.row; pending = c.in_ok-pending.pending } in
    let items = c.in_ok-push.ensures.items in
    let was = c.loop-draft.invariant in
    record {
      long = ap length items ∙ (length_push steps st ∙ ap (λ (m : ℕ). m + 1) was.long);
      steps = subst (λ (l : List Step). Pairs IsStepOf drafts l) (sym items)
          (pairs-next IsStepOf drafts steps c.loop-draft.draft-index draft st was.long c.loop-draft-test.true c.draft-item.is was.steps
          (record { issuer = refl; kind = c.in_ok-pending.ensures.kind }));
      firsts = λ b basis are.
          let d = read-draft b drafts c.args.serials.now c.loop-draft.draft-index c.len-position.result draft same are c.loop-draft-test.true c.draft-item.is in
          subst (λ (l : List Step). Pairs (λ d st. IsFirstOf s b (draft_of d) (kind_of d.kind) st.pending) drafts l) (sym items)
          (pairs-next (λ (e : code.Draft) (x : Step). IsFirstOf s b (draft_of e) (kind_of e.kind) x.pending) drafts steps c.loop-draft.draft-index draft st
          was.long c.loop-draft-test.true c.draft-item.is (was.firsts b basis are) (c.in_ok-pending.ensures.first b basis d));
    }
