use Rattle.std.proofs.Common.{◌≡◌, ◌++◌, take}
use Rattle.json_api.specs.Texts.{commas, history_lines}
use Rattle.json_api.proofs.Commas.{between}
use Rattle.json_api.proofs.history.push_commands.Given as goal

abbrev pub invariant-loop-command : goal.invariant-loop-command
invariant-loop-command l =
    (l.out.items ≡ l.initial.out.items ++ commas (history_lines l.authority 0 (take l.command-index l.commands)))
    × (l.between ≡ between (take l.command-index l.commands))
    × (l.count ≡ l.command-index)
