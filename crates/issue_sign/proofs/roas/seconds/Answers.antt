use Rattle.std.proofs.Common.{◌≡◌, ℕ, ◌+◌, ◌<◌, false, List, [], ◌∷◌, ◌++◌, length, drop, refl, sym, ap, subst, ◌∙◌, arith}
use Rattle.std.specs.Prelude.{All}
use Rattle.std.specs.Vec.Iter.{into_iter_items}
use Rattle.std.proofs.lemmas.List.{length_push}
use Rattle.std.proofs.lemmas.List.Elements.{All-nil, All-push}
use Rattle.issue_drafts.specs.IssueInput.{input_of}
use Rattle.issue_drafts.specs.Views.{draft_of, kind_of}
use Rattle.issue_drafts.specs.declared.draft.Draft as code
use Rattle.issue_sign.specs.declared.steps.Step.{Step}
use Rattle.issue_sign.specs.declared.steps.Half.{Half}
use Rattle.issue_sign.specs.inner.Steps.{is_content, is_begun, is_route, IsSecondOf, Pairs, Triples}
use Rattle.issue_sign.proofs.Lists.{pairs-nil, pairs-next, triples-nil, triples-next, read, left-next}
use Rattle.issue_sign.proofs.Positions.{is-draft, turn-at, at-turn}
use Rattle.issue_sign.proofs.roas.seconds.Goals as goal

pub loop-half-init : goal.loop-half-init
loop-half-init c =
    let given = c.into_iter-half-iterator.ensures.into_iter_gives in
    let s = input_of c.args.sign_input.now.input.now in
    let drafts = c.args.drafts.now in
    let none = c.in_ok-steps.ensures.items in
    record {
      left = ap (λ (l : List Step). drop (length l) c.args.halves.items) none ∙ sym given.0;
      count = given.1 ∙ (c.args.halves.ok.0 ∙ sym (ap length given.0));
      few =
          let long : length c.in_ok-steps.steps.items ≡ 0 = ap length none in
          let all = ap length given.0 ∙ c.requires.each in
          omega (arith, long, all);
      issuers = subst (λ (l : List Step). Pairs (λ d st. st.issuer.now ≡ d.issuer.row.now) drafts l) (sym none)
          (pairs-nil (λ (d : code.Draft) (st : Step). st.issuer.now ≡ d.issuer.row.now) drafts);
      made = subst (λ (l : List Step). All (λ st. is_content st.pending ≡ false) l) (sym none) (All-nil (λ (st : Step). is_content st.pending ≡ false));
      seconds = λ b basis are.
          subst (λ (l : List Step). Triples (λ d h st. IsSecondOf s b (draft_of d) (kind_of d.kind) h st.pending) drafts c.args.halves.items l) (sym none)
          (triples-nil (λ (d : code.Draft) (h : Half) (st : Step). IsSecondOf s b (draft_of d) (kind_of d.kind) h st.pending) drafts c.args.halves.items);
    }

pub second-requires-clause-kind : goal.second-requires-clause-kind
second-requires-clause-kind c =
    let same : c.len-position.result ≡ length c.loop-half.steps.items = omega arith in
    let t = turn-at c.args.drafts.now c.args.halves.items (length c.loop-half.steps.items) (into_iter_items c.loop-half.half-iterator)
    (into_iter_items c.next.new.self)
    c.index-drafts-position.result c.in-Some.half c.len-position.result same c.requires.each c.loop-half.invariant.left c.in-Some.ensures.steps.0
    c.index-drafts-position.is in
    at-turn (λ (d : code.Draft) (h : Half). is_begun h ≡ is_route d.kind) c.args.drafts.now c.args.halves.items (length c.loop-half.steps.items)
    (into_iter_items c.next.new.self)
    c.index-drafts-position.result c.in-Some.half t c.requires.kinds

pub loop-half-preserved : goal.loop-half-preserved
loop-half-preserved c =
    let s = input_of c.args.sign_input.now.input.now in
    let drafts = c.args.drafts.now in
    let halves = c.args.halves.items in
    let steps = c.loop-half.steps.items in
    let rest = into_iter_items c.next.new.self in
    let draft = c.index-drafts-position.result in
    let half = c.in-Some.half in
    let next = c.in-Some.ensures.steps.0 in
    let was = c.loop-half.invariant in
    let st : Step = record { issuer = draft.issuer.row; pending = c.in_ok-pending.pending } in
    let items = c.in_ok-push.ensures.items in
    let at = read halves (length steps) half rest (into_iter_items c.loop-half.half-iterator) was.left next in
    let same : length steps ≡ c.len-position.result = omega arith in
    let some = at.some in
    let lt : c.len-position.result < length drafts = omega arith in
    record {
      left = left-next halves steps _ st half rest items at;
      count =
          let old = was.count in
          let gone = c.in-Some.ensures.steps.1 in
          let short = ap length next in
          omega arith;
      few =
          let old = was.few in
          let short = ap length next in
          let grown = ap length items in
          let longer = length_push steps st in
          omega arith;
      issuers = subst (λ (l : List Step). Pairs (λ d x. x.issuer.now ≡ d.issuer.row.now) drafts l) (sym items)
          (pairs-next (λ (d : code.Draft) (x : Step). x.issuer.now ≡ d.issuer.row.now) drafts steps c.len-position.result draft st same lt
          c.index-drafts-position.is was.issuers refl);
      made = subst (λ (l : List Step). All (λ x. is_content x.pending ≡ false) l) (sym items)
          (All-push (λ (x : Step). is_content x.pending ≡ false) steps st was.made c.in_ok-pending.ensures.made);
      seconds = λ b basis are.
          subst (λ (l : List Step). Triples (λ d h x. IsSecondOf s b (draft_of d) (kind_of d.kind) h x.pending) drafts halves l) (sym items)
          (triples-next (λ (d : code.Draft) (h : Half) (x : Step). IsSecondOf s b (draft_of d) (kind_of d.kind) h x.pending) drafts halves steps
          c.len-position.result draft half st rest same lt c.index-drafts-position.is at (was.seconds b basis are)
          (c.in_ok-pending.ensures.second b basis (is-draft b drafts c.args.serials.now c.len-position.result draft are lt c.index-drafts-position.is)));
    }
