use Rattle.std.proofs.Common.{rules}
use Rattle.authority_book.proofs.Folds.{fold-push, taken-push}
use Rattle.authority_book.proofs.configs.Config.apply.Goals as goal

pub returns-clause-taken : goal.returns-clause-taken
returns-clause-taken c = λ desk commands stands taken. taken-push c.args.self.now.settings desk commands c.args.command stands taken c.requires.accepted

pub returns-clause-fold : goal.returns-clause-fold
returns-clause-fold c = λ desk commands stands.
    fold-push c.args.self.now.settings _ desk commands c.args.command (search rules) stands
