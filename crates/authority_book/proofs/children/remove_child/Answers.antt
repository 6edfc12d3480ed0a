use Rattle.std.proofs.Common.{rules}
use Rattle.std.specs.Prelude.{not}
use Rattle.std.specs.Str.{bytes_eq}
use Rattle.std.proofs.lemmas.Fn.{filter_same}
use borrow.Author.Tests.{tests}
use Rattle.authority_book.proofs.children.remove_child.Goals as goal

pub returns-clause-items : goal.returns-clause-items
returns-clause-items c =
    filter_same _ (λ child. not (bytes_eq child.name c.args.name.now)) _ (λ x b q k. search (rules, tests)) _ _ c.retain.ensures.filtered
