use Rattle.std.proofs.Common.{◌≡◌, ℕ, ◌+◌, ◌<◌, true, false, List, [], ◌∷◌, ◌++◌, length, drop, refl, sym, ap, subst, ◌∙◌, arith}
use Rattle.std.specs.Prelude.{All}
use Rattle.std.specs.Vec.Iter.{into_iter_items}
use Rattle.std.proofs.lemmas.List.{length_push}
use Rattle.std.proofs.lemmas.List.Elements.{All-nil, All-push}
use Rattle.issue_drafts.specs.IssueInput.{input_of}
use Rattle.issue_drafts.specs.Drafts.{serial_behind}
use Rattle.issue_drafts.specs.Views.{manifest_of, IsPositioned}
use Rattle.issue_drafts.specs.declared.draft.ManifestDraft.{ManifestDraft}
use Rattle.issue_sign.specs.declared.steps.Step.{Step}
use Rattle.issue_sign.specs.declared.steps.Half.{Half}
use Rattle.issue_sign.specs.inner.Steps.{is_content, is_begun, IsLastOf, Pairs, Triples}
use Rattle.issue_sign.proofs.Lists.{pairs-nil, pairs-next, triples-nil, triples-next, read, left-next}
use Rattle.issue_sign.proofs.Positions.{all-at, mapped-at}
use Rattle.issue_sign.proofs.manifests.lasts.Goals as goal

pub loop-half-init : goal.loop-half-init
loop-half-init c =
    let given = c.into_iter-half-iterator.ensures.into_iter_gives in
    let s = input_of c.args.sign_input.now.input.now in
    let drafts = c.args.manifests.now in
    let none = c.in_ok-steps.ensures.items in
    record {
      left = ap (λ (l : List Step). drop (length l) c.args.halves.items) none ∙ sym given.0;
      count = given.1 ∙ (c.args.halves.ok.0 ∙ sym (ap length given.0));
      few =
          let long : length c.in_ok-steps.steps.items ≡ 0 = ap length none in
          let all = ap length given.0 ∙ c.requires.each in
          omega (arith, long, all);
      issuers = subst (λ (l : List Step). Pairs (λ d st. st.issuer.now ≡ d.issuer.row.now) drafts l) (sym none)
          (pairs-nil (λ (d : ManifestDraft) (st : Step). st.issuer.now ≡ d.issuer.row.now) drafts);
      made = subst (λ (l : List Step). All (λ st. is_content st.pending ≡ false) l) (sym none) (All-nil (λ (st : Step). is_content st.pending ≡ false));
      lasts = λ b lists basis are.
          subst (λ (l : List Step). Triples (λ d h st. IsLastOf s b (manifest_of d) h st.pending) drafts c.args.halves.items l) (sym none)
          (triples-nil (λ (d : ManifestDraft) (h : Half) (st : Step). IsLastOf s b (manifest_of d) h st.pending) drafts c.args.halves.items);
    }

pub last-requires-clause-begun : goal.last-requires-clause-begun
last-requires-clause-begun c =
    let halves = c.args.halves.items in
    let k = length c.loop-half.steps.items in
    let at = read halves k c.in-Some.half (into_iter_items c.next.new.self) (into_iter_items c.loop-half.half-iterator) c.loop-half.invariant.left
    c.in-Some.ensures.steps.0 in
    all-at (λ (h : Half). is_begun h ≡ true) halves k c.in-Some.half c.requires.begun at.some (sym at.here)

pub loop-half-preserved : goal.loop-half-preserved
loop-half-preserved c =
    let s = input_of c.args.sign_input.now.input.now in
    let drafts = c.args.manifests.now in
    let halves = c.args.halves.items in
    let steps = c.loop-half.steps.items in
    let rest = into_iter_items c.next.new.self in
    let draft = c.index-manifests-position.result in
    let half = c.in-Some.half in
    let next = c.in-Some.ensures.steps.0 in
    let was = c.loop-half.invariant in
    let st : Step = record { issuer = draft.issuer.row; pending = c.in_ok-pending.pending } in
    let items = c.in_ok-push.ensures.items in
    let at = read halves (length steps) half rest (into_iter_items c.loop-half.half-iterator) was.left next in
    let same : length steps ≡ c.len-position.result = omega arith in
    let some = at.some in
    let lt : c.len-position.result < length drafts = omega arith in
    record {
      left = left-next halves steps _ st half rest items at;
      count =
          let old = was.count in
          let gone = c.in-Some.ensures.steps.1 in
          let short = ap length next in
          omega arith;
      few =
          let old = was.few in
          let short = ap length next in
          let grown = ap length items in
          let longer = length_push steps st in
          omega arith;
      issuers = subst (λ (l : List Step). Pairs (λ d x. x.issuer.now ≡ d.issuer.row.now) drafts l) (sym items)
          (pairs-next (λ (d : ManifestDraft) (x : Step). x.issuer.now ≡ d.issuer.row.now) drafts steps c.len-position.result draft st same lt
          c.index-manifests-position.is was.issuers refl);
      made = subst (λ (l : List Step). All (λ x. is_content x.pending ≡ false) l) (sym items)
          (All-push (λ (x : Step). is_content x.pending ≡ false) steps st was.made c.in_ok-pending.ensures.made);
      lasts = λ b lists basis are.
          subst (λ (l : List Step). Triples (λ d h x. IsLastOf s b (manifest_of d) h x.pending) drafts halves l) (sym items)
          (triples-next (λ (d : ManifestDraft) (h : Half) (x : Step). IsLastOf s b (manifest_of d) h x.pending) drafts halves steps
          c.len-position.result draft half st rest same lt c.index-manifests-position.is at (was.lasts b lists basis are)
          (c.in_ok-pending.ensures.last b basis
          (all-at (λ (d : ManifestDraft). IsPositioned b.rows d.issuer) drafts c.len-position.result draft are.issuers lt c.index-manifests-position.is)
          (mapped-at (serial_behind b.all) b.rows c.args.next.now draft.issuer.position draft.issuer.row.now 0 are.serials
          (all-at (λ (d : ManifestDraft). IsPositioned b.rows d.issuer) drafts c.len-position.result draft are.issuers lt c.index-manifests-position.is))));
    }
