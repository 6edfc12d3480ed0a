use Rattle.std.proofs.Common.{◌≡◌, ℕ, ◌+◌, ◌<◌, true, List, [], ◌∷◌, ◌++◌, length, drop, map, refl, sym, ap, subst, ◌∙◌, arith}
use Rattle.std.specs.Prelude.{All}
use Rattle.std.specs.Vec.Iter.{into_iter_items}
use Rattle.std.proofs.lemmas.List.{length_push}
use Rattle.std.proofs.lemmas.List.Elements.{All-nil, All-push}
use Rattle.payloads.specs.ManifestFormats.{file_view}
use Rattle.payloads.specs.declared.values.ListedFile.{ListedFile}
use Rattle.issue_drafts.specs.IssueInput.{input_of}
use Rattle.issue_drafts.specs.declared.draft.ManifestDraft.{ManifestDraft}
use Rattle.cms_obj.specs.declared.values.ObjectKind.TheVariants as ObjectKinds
use Rattle.issue_sign.specs.declared.steps.Pending.TheVariants as pending
use Rattle.issue_sign.specs.declared.steps.Step.{Step}
use Rattle.issue_sign.specs.inner.Steps.{is_content, IsTextOf, Pairs, Triples}
use Rattle.issue_sign.proofs.Lists.{pairs-nil, pairs-next, triples-nil, triples-next, read, left-next}
use Rattle.issue_sign.proofs.manifests.contents.Goals as goal

pub loop-list-init : goal.loop-list-init
loop-list-init c =
    let given = c.into_iter-list-iterator.ensures.into_iter_gives in
    let s = input_of c.args.sign_input.now.input.now in
    let drafts = c.args.manifests.now in
    let none = c.in_ok-steps.ensures.items in
    record {
      left = ap (λ (l : List Step). drop (length l) c.args.files.items) none ∙ sym given.0;
      count = given.1 ∙ (c.args.files.ok.0 ∙ sym (ap length given.0));
      few =
          let long : length c.in_ok-steps.steps.items ≡ 0 = ap length none in
          let all = ap length given.0 ∙ c.requires.each in
          omega (arith, long, all);
      issuers = subst (λ (l : List Step). Pairs (λ d st. st.issuer.now ≡ d.issuer.row.now) drafts l) (sym none)
          (pairs-nil (λ (d : ManifestDraft) (st : Step). st.issuer.now ≡ d.issuer.row.now) drafts);
      kinds = subst (λ (l : List Step). All (λ st. is_content st.pending ≡ true) l) (sym none) (All-nil (λ (st : Step). is_content st.pending ≡ true));
      texts = subst (λ (l : List Step). Triples (λ d list st. IsTextOf s d.issuer.row.now (map file_view list) st.pending) drafts c.args.files.items l)
          (sym none)
          (triples-nil (λ (d : ManifestDraft) (list : List ListedFile) (st : Step). IsTextOf s d.issuer.row.now (map file_view list) st.pending) drafts
          c.args.files.items);
    }

pub loop-list-preserved : goal.loop-list-preserved
loop-list-preserved c =
    let s = input_of c.args.sign_input.now.input.now in
    let drafts = c.args.manifests.now in
    let lists = c.args.files.items in
    let steps = c.loop-list.steps.items in
    let rest = into_iter_items c.next.new.self in
    let draft = c.index-manifests-position.result in
    let list = c.in-Some.list in
    let next = c.in-Some.ensures.steps.0 in
    let was = c.loop-list.invariant in
    let text = c.in_ok-content.content in
    let st : Step = record { issuer = draft.issuer.row; pending = pending.Content ObjectKinds.Manifest text } in
    let items = c.in_ok-push.ensures.items in
    let at = read lists (length steps) list rest (into_iter_items c.loop-list.list-iterator) was.left next in
    let same : length steps ≡ c.len-position.result = omega arith in
    let some = at.some in
    let lt : c.len-position.result < length drafts = omega arith in
    record {
      left = left-next lists steps _ st list rest items at;
      count =
          let old = was.count in
          let gone = c.in-Some.ensures.steps.1 in
          let short = ap length next in
          omega arith;
      few =
          let old = was.few in
          let short = ap length next in
          let grown = ap length items in
          let longer = length_push steps st in
          omega arith;
      issuers = subst (λ (l : List Step). Pairs (λ d x. x.issuer.now ≡ d.issuer.row.now) drafts l) (sym items)
          (pairs-next (λ (d : ManifestDraft) (x : Step). x.issuer.now ≡ d.issuer.row.now) drafts steps c.len-position.result draft st same lt
          c.index-manifests-position.is was.issuers refl);
      kinds = subst (λ (l : List Step). All (λ x. is_content x.pending ≡ true) l) (sym items)
          (All-push (λ (x : Step). is_content x.pending ≡ true) steps st was.kinds refl);
      texts = subst (λ (l : List Step). Triples (λ d ls x. IsTextOf s d.issuer.row.now (map file_view ls) x.pending) drafts lists l) (sym items)
          (triples-next (λ (d : ManifestDraft) (ls : List ListedFile) (x : Step). IsTextOf s d.issuer.row.now (map file_view ls) x.pending) drafts lists steps
          c.len-position.result draft list st rest same lt c.index-manifests-position.is at was.texts
          (record {
            step = record { content = text; is = refl; bytes = c.in_ok-content.ensures.bytes };
            spelled = c.in_ok-content.ensures.spelled;
          }));
    }
