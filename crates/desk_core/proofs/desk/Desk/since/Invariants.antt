use Rattle.std.proofs.Common.{◌≡◌, ◌-◌, List, take, drop}
use Rattle.authority_book.specs.declared.commands.Command.{Command}
use Rattle.desk_core.specs.Commands.{HasCommands}
use Rattle.desk_core.proofs.desk.Desk.since.Given as goal

abbrev pub invariant-loop-index : goal.invariant-loop-index
invariant-loop-index g l = (commands : List Command) → HasCommands l.self commands → l.commands.items ≡ take (l.index - l.from) (drop l.from commands)
