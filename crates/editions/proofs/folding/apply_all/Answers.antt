use Rattle.std.proofs.Common.{◌≡◌, ◌∷◌, ◌∙◌, refl, sym, ap, subst, length, arith, rules}
use Rattle.std.specs.Vec.Iter.{into_iter_items}
use Rattle.authority_book.specs.Settings.{Settings}
use Rattle.authority_book.specs.Verdict.{IsAccepted}
use Rattle.authority_book.specs.Fold.{after, after_all, AcceptedInTurn}
use Rattle.editions.proofs.folding.apply_all.Goals as goal

pub loop-command-init : goal.loop-command-init
loop-command-init c =
    let all = c.into_iter-command-iterator.ensures.into_iter_gives in
    rw (all.0) (record { rest = refl; accepted = c.requires; left = search (rules, all.1) })

pub apply-requires-clause-accepted : goal.apply-requires-clause-accepted
apply-requires-clause-accepted c =
    let command = c.in-Some.command in
    let both = subst (AcceptedInTurn c.loop-command.config.settings) c.in-Some.ensures.steps.0 c.loop-command.invariant.accepted in
    subst (λ (s : Settings). IsAccepted s command) (sym c.in_ok-reserve.ensures.settings) both.0

pub loop-command-preserved : goal.loop-command-preserved
loop-command-preserved c =
    let before = c.loop-command.invariant in
    let command = c.in-Some.command in
    let rest = into_iter_items c.next.new.self in
    let step : into_iter_items c.loop-command.command-iterator ≡ command ∷ rest = c.in-Some.ensures.steps.0 in
    let both = subst (AcceptedInTurn c.loop-command.config.settings) step before.accepted in
    let next : c.apply.new.self.settings ≡ after c.loop-command.config.settings command =
    c.apply.ensures.settings ∙ ap (λ (s : Settings). after s command) c.in_ok-reserve.ensures.settings in
    record {
      rest = ap (λ (s : Settings). after_all s rest) next ∙ (sym (ap (after_all c.loop-command.config.settings) step) ∙ before.rest);
      accepted = subst (λ (s : Settings). AcceptedInTurn s rest) (sym next) both.1;
      left = let shorter = ap length step in omega (arith, c.in-Some.ensures.steps.1);
    }
