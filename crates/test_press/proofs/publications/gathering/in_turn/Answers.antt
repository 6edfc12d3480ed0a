use Rattle.std.proofs.Common.{◌≡◌, ◌∷◌, [], ◌++◌, sym, ap, subst, ◌∙◌, rules}
use Rattle.authority_book.specs.Settings.{Settings}
use Rattle.authority_book.specs.Verdict.{IsAccepted}
use Rattle.authority_book.specs.Fold.{after, after_all, AcceptedInTurn}
use Rattle.test_press.proofs.Turns.{after-more, accepted-more}
use Rattle.test_press.proofs.publications.gathering.in_turn.Goals as goal

pub loop-command-preserved : goal.loop-command-preserved
loop-command-preserved c =
    let before = c.loop-command.invariant in
    let settings = c.args.config.now.settings in
    let taken = c.loop-command.taken.items in
    let command = c.command-item.result in
    let accepted : IsAccepted c.loop-command.after.settings command = search rules in
    let put : c.push.new.self.items ≡ taken ++ command ∷ [] = c.in_ok-push.ensures.items ∙ ap (λ x. taken ++ x ∷ []) c.in_ok-copy-2.ensures in
    let next : c.apply.new.self.settings ≡ after c.loop-command.after.settings command =
    c.apply.ensures.settings
    ∙ (ap (λ (s : Settings). after s c.in_ok-copy.field-0) c.in_ok-reserve.ensures.settings
    ∙ ap (after c.loop-command.after.settings) c.in_ok-copy.ensures) in
    record {
      is = next ∙ (ap (λ (s : Settings). after s command) before.is ∙ (sym (after-more settings taken command) ∙ sym (ap (after_all settings) put)));
      accepted = subst (AcceptedInTurn settings) (sym put)
          (accepted-more settings taken command before.accepted (subst (λ (s : Settings). IsAccepted s command) before.is accepted));
    }
