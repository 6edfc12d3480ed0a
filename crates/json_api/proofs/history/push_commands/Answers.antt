use Rattle.std.proofs.Common.{◌≡◌, ◌+◌, ◌∷◌, [], ◌++◌, length, take, length-take-le, ap, sym, ◌∙◌, arith}
use Rattle.std.proofs.lemmas.List.{take_more}
use Rattle.authority_book.specs.declared.commands.Command.{Command}
use Rattle.json_api.proofs.Commas.{history-turn}
use Rattle.json_api.proofs.history.push_commands.Goals as goal

pub loop-command-preserved : goal.loop-command-preserved
loop-command-preserved c =
    let i = c.loop-command.command-index in
    let list = c.args.commands.now in
    let x = c.command-item.result in
    let so = c.loop-command.invariant in
    let longer : take (i + 1) list ≡ take i list ++ x ∷ []
    = take_more list i x (omega arith) ∙ ap (λ (w : Command). take i list ++ w ∷ []) (sym c.command-item.is) in
    let long : length (take i list) ≡ c.loop-command.count = length-take-le i list (omega arith) ∙ sym so.2 in
    let turned = history-turn c.args.authority.now list i c.loop-command.count x c.args.out.now.items c.loop-command.out.items c.loop-command.between.now
    c.extend_from_slice.new.self.items c.push_command.new.out.items long longer so.0 so.1 c.in_ok-extend_from_slice.ensures.items c.in_ok-push_command.ensures in
    (turned.0, turned.1, omega (arith, so.2))
