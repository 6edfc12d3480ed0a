use Rattle.std.proofs.Common.{◌≡◌, List, [], ◌∷◌, ◌∙◌, length, sym, ap, arith, rules}
use Rattle.std.specs.Prelude.{Option, None}
use Rattle.std.specs.Vec.Iter.{into_iter_items}
use Rattle.std.proofs.lemmas.List.{nil_from_length}
use Rattle.session_lines.specs.Keeping.{KeptValue, nothing_kept}
use Rattle.session_lines.specs.declared.running.SessionOutcome.{SessionOutcome}
use Rattle.krill_top.specs.declared.faults.RunFault.{RunFault}
use Rattle.krill_top.specs.Statuses.{graver}
use Rattle.krill_top.specs.SharedRuns.{ended_fault, gravest_from, kept_from}
use Rattle.krill_top.proofs.sharing.sum_up.Goals as goal

pub loop-outcome-init : goal.loop-outcome-init
loop-outcome-init g c =
    let Outcome : Type 0 = SessionOutcome g.row.D.Denot g.row.O.Denot in
    let all = c.into_iter-outcome-iterator.ensures.into_iter_gives in
    record {
      fault = ap (λ (l : List Outcome). gravest_from None l) all.0;
      kept = ap (λ (k : KeptValue). kept_from k (into_iter_items c.into_iter-outcome-iterator.result)) c.new-kept.ensures ∙ ap (λ (l : List Outcome). kept_from nothing_kept l) all.0;
      left = search (rules, all.1);
    }

pub loop-outcome-preserved : goal.loop-outcome-preserved
loop-outcome-preserved g c =
    let before = c.loop-outcome.invariant in
    let outcome = c.in-Some.outcome in
    let rest = into_iter_items c.next.new.self in
    let step : into_iter_items c.loop-outcome.outcome-iterator ≡ outcome ∷ rest = c.in-Some.ensures.steps.0 in
    let shorter = ap length step in
    let fault : c.graver-fault.result ≡ graver c.loop-outcome.fault (ended_fault outcome.ended) =
    c.graver-fault.ensures ∙ ap (λ (f : Option RunFault). graver c.loop-outcome.fault f) c.ended_fault.ensures in
    record {
      fault = ap (λ (f : Option RunFault). gravest_from f rest) fault ∙ (sym (ap (gravest_from c.loop-outcome.fault) step) ∙ before.fault);
      kept = ap (λ (k : KeptValue). kept_from k rest) c.merge-kept.ensures ∙ (sym (ap (kept_from c.loop-outcome.kept) step) ∙ before.kept);
      left = omega (arith, c.in-Some.ensures.steps.1, shorter, before.left);
    }

pub returns-clause-fault : goal.returns-clause-fault
returns-clause-fault g c =
    let still = into_iter_items c.loop-outcome.outcome-iterator in
    let none : still ≡ [] = nil_from_length still (sym c.loop-outcome.invariant.left ∙ c.in-None.ensures.steps.0) in
    sym (ap (gravest_from c.loop-outcome.fault) none) ∙ c.loop-outcome.invariant.fault

pub returns-clause-kept : goal.returns-clause-kept
returns-clause-kept g c =
    let still = into_iter_items c.loop-outcome.outcome-iterator in
    let none : still ≡ [] = nil_from_length still (sym c.loop-outcome.invariant.left ∙ c.in-None.ensures.steps.0) in
    sym (ap (kept_from c.loop-outcome.kept) none) ∙ c.loop-outcome.invariant.kept
