use Rattle.std.proofs.Common.{List, sym, subst, ap, ◌∙◌}
use Rattle.authority_book.specs.Settings.{Settings, ConfigValue}
use Rattle.entitle.specs.Certified.{settings_of, AreCertified}
use Rattle.entitle.specs.Owed.{AreOwed}
use Rattle.editions.specs.PublishedState.{PublishedStateValue, AreFirstConfigs}
use Rattle.press_core.specs.Resuming.{AreConfigsOf}
use Rattle.press_core.proofs.Configured.{come-to}
use Rattle.press_core.proofs.opening.owing_at.Goals as goal

pub returns : goal.returns
returns c =
    let firsts = c.args.firsts.items in
    let old = settings_of c.as_slice.result.now in
    let first : AreFirstConfigs old =
    subst AreFirstConfigs (sym (ap settings_of c.as_slice.ensures ∙ ap (λ (at : PublishedStateValue). at.configs) c.parts.ensures.parts)) c.in_ok-first.ensures.configs in
    record {
      come = subst (λ (configs : List Settings). AreConfigsOf firsts configs) (sym c.in_ok-configs.ensures) (come-to old firsts first);
      certified = subst (λ (configs : List ConfigValue). AreCertified (settings_of configs) c.in_ok-tree.tree.sets.items) c.deref.ensures.value c.in_ok-tree.ensures;
      owes = subst (λ (configs : List ConfigValue). AreOwed (settings_of configs) c.in_ok-owed.owed.items) c.deref-2.ensures.value c.in_ok-owed.ensures;
    }
