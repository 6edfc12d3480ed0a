use Rattle.std.proofs.Common.{◌≡◌, sym, rules, subst}
use Rattle.authority_book.specs.declared.commands.Command.{Command}
use Rattle.authority_book.specs.Settings.{Settings}
use Rattle.authority_book.specs.Fold.{fold_of}
use Rattle.authority_book.specs.Verdict.{IsAccepted}
use Rattle.desk_core.proofs.Recorded.{refused, loaded_push}
use Rattle.desk_core.proofs.opening.take_in.Goals as goal

pub returns-then-is_err-clause-bad : goal.returns-then-is_err-clause-bad
returns-then-is_err-clause-bad c is number commands stands command recordable spelled accepted =
    let only = c.in-Ok.ensures.only command recordable spelled in
    let same : c.in-Ok.command ≡ command = cc in
    let settings = c.args.config.now.settings in
    refused settings (fold_of number commands) c.in-Ok.command c.verdict_unasked.result c.verdict_unasked.ensures.verdict stands (search rules)
    (subst (λ (x : Command). IsAccepted (fold_of number commands) x) (sym same) accepted)

pub returns-clause-loaded : goal.returns-clause-loaded
returns-clause-loaded c is number records loaded =
    let was : c.reserve.new.self.settings ≡ c.args.config.now.settings = c.reserve.ensures.settings in
    let found = c.in-Ok.ensures.found in
    loaded_push number c.args.config.now.settings c.apply.new.self.settings records c.args.payload.now c.in-Ok.command found.0 found.1
    (λ desk commands is. c.apply.ensures.fold desk commands (subst (λ (s : Settings). s ≡ fold_of desk commands) (sym was) is))
    (λ desk commands is taken. c.apply.ensures.taken desk commands (subst (λ (s : Settings). s ≡ fold_of desk commands) (sym was) is) taken) loaded
