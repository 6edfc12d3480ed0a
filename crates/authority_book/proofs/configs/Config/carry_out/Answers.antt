use Rattle.std.proofs.Common.{◌≡◌, subst, rules}
use Rattle.authority_book.specs.Settings.{ConfigValue}
use Rattle.authority_book.specs.Fold.{after}
use Rattle.authority_book.specs.inner.Limits.{AreKept}
use Rattle.authority_book.proofs.Limits.{kept-after}
use Rattle.authority_book.proofs.configs.Config.carry_out.Goals as goal

pub invariant_of-self : goal.invariant_of-self
invariant_of-self c =
    let old = c.args.self.now.settings in
    let was : AreKept old.names old.children old.origins =
    subst (λ (v : ConfigValue). AreKept v.settings.names v.settings.children v.settings.origins) c.self.view_is c.self.invariant in
    let kept = kept-after old c.args.command was c.requires.named c.requires.accepted in
    let new = c.match-command.self-inside in
    let names : new.names.items ≡ (after old c.args.command).names = search (rules) in
    let children : new.children.items ≡ (after old c.args.command).children = search (rules) in
    let origins : new.origins.items ≡ (after old c.args.command).origins = search (rules) in
    search (rules, kept, names, children, origins)
