use Rattle.std.proofs.Common.{◌≡◌, ℕ, ◌+◌, ◌<◌, Bool, cond, List, [], ◌∷◌, ◌++◌, length, drop, refl, sym, ap, subst, ◌∙◌, arith}
use Rattle.std.specs.List.{filter_map}
use Rattle.std.specs.Vec.Iter.{into_iter_items}
use Rattle.std.proofs.lemmas.List.{nil_from_length}
use Rattle.signer_ring.specs.Jobs.{AreAnswers}
use Rattle.issue_sign.specs.declared.steps.Half.{Half}
use Rattle.issue_sign.specs.declared.steps.Step.{Step}
use Rattle.issue_sign.specs.inner.Steps.{job_of}
use Rattle.issue_sign.proofs.Answered.{answered-first}
use Rattle.issue_sign.proofs.PhaseEnds.{AreHalved, halved-none, halved-more, halved-all, halved-long}
use Rattle.issue_sign.proofs.halves.halves.Goals as goal

pub loop-step-init : goal.loop-step-init
loop-step-init c =
    let given = c.into_iter-step-iterator.ensures.into_iter_gives in
    record {
      count = given.1 ∙ (c.args.steps.ok.0 ∙ sym (ap length given.0));
      halved = halved-none c.args.moment c.args.steps.items c.args.answers.now c.in_ok-halves.halves.items (into_iter_items c.into_iter-step-iterator.result)
          c.in_ok-halves.ensures.items given.0 c.requires.answers;
    }

pub half-requires-clause-answer : goal.half-requires-clause-answer
half-requires-clause-answer c =
    let st = c.in-Some.step in
    let m = c.args.moment in
    let rest = into_iter_items c.next.new.self in
    answered-first m st.issuer.now st.pending (filter_map (job_of m) rest) c.loop-step.left.now
    (subst (λ (r : List Step). AreAnswers (filter_map (job_of m) r) c.loop-step.left.now) c.in-Some.ensures.steps.0 c.loop-step.invariant.halved.fit)

pub loop-step-preserved : goal.loop-step-preserved
loop-step-preserved c =
    let m = c.args.moment in
    let steps = c.args.steps.items in
    let given = c.args.answers.now in
    let halves = c.loop-step.halves.items in
    let left = c.loop-step.left.now in
    let rest = into_iter_items c.next.new.self in
    let st = c.in-Some.step in
    let h = c.in_ok-half.half in
    let next = c.in-Some.ensures.steps.0 in
    let items = c.in_ok-push.ensures.items in
    let was = c.loop-step.invariant in
    record {
      count =
          let old = was.count in
          let gone = c.in-Some.ensures.steps.1 in
          let short = ap length next in
          omega arith;
      halved = subst (λ (hs : List Half). AreHalved m steps given hs rest c.behind-left.result.now) (sym items)
          (halved-more m steps given halves (into_iter_items c.loop-step.step-iterator) rest left c.behind-left.result.now st h next
          (c.behind-left.ensures ∙ ap (λ (b : Bool). cond b (drop 1 left) left) c.is_asked-asked.ensures) was.halved c.in_ok-half.ensures.outcome
          c.in_ok-half.ensures.answers);
    }

pub returns-clause-each : goal.returns-clause-each
returns-clause-each c =
    let none : into_iter_items c.loop-step.step-iterator ≡ [] = nil_from_length (into_iter_items c.loop-step.step-iterator)
    (sym c.loop-step.invariant.count ∙ c.in-None.ensures.steps.0) in
    halved-long c.args.steps.items c.args.answers.now c.loop-step.halves.items
    (halved-all c.args.moment c.args.steps.items c.args.answers.now c.loop-step.halves.items (into_iter_items c.loop-step.step-iterator) c.loop-step.left.now none
    c.loop-step.invariant.halved)

pub returns-clause-outcomes : goal.returns-clause-outcomes
returns-clause-outcomes c = c.loop-step.invariant.halved.outcomes

pub returns-clause-answers : goal.returns-clause-answers
returns-clause-answers c =
    let none : into_iter_items c.loop-step.step-iterator ≡ [] = nil_from_length (into_iter_items c.loop-step.step-iterator)
    (sym c.loop-step.invariant.count ∙ c.in-None.ensures.steps.0) in
    halved-all c.args.moment c.args.steps.items c.args.answers.now c.loop-step.halves.items (into_iter_items c.loop-step.step-iterator) c.loop-step.left.now none
    c.loop-step.invariant.halved
