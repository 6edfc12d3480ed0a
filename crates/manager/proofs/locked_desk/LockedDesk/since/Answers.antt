use Rattle.std.proofs.Common.{◌≡◌, ◌∙◌, ◌≤◌, List, length, sym, ap, subst, drop}
use Rattle.std.specs.Prelude.{IfOk}
use Rattle.authority_book.specs.declared.commands.Command.{Command}
use Rattle.desk_core.specs.View.{View}
use Rattle.desk_core.specs.Commands.{HasCommands}
use Rattle.desk_core.specs.Counted.{CountedView}
use Rattle.manager.proofs.locked_desk.LockedDesk.since.Goals as goal

pub since-requires : goal.since-requires
since-requires g c =
    subst (λ (v : View _). c.args.from ≤ length v.records) (sym (c.desk.ensures ∙ ap (λ (v : CountedView _). v.desk) c.self.view_is)) c.requires

pub returns : goal.returns
returns g c =
    subst (λ (v : View _). IfOk c.since.result (λ found. (commands : List Command) → HasCommands v commands → found.items ≡ drop c.args.from commands))
    (c.desk.ensures ∙ ap (λ (v : CountedView _). v.desk) c.self.view_is) c.since.ensures
