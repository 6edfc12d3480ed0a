use Rattle.std.proofs.Common.{◌∙◌, rules}
use Rattle.std.specs.Prelude.{not, ◌&&◌}
use Rattle.std.proofs.lemmas.Iterator.{YieldsList-from_slice}
use Rattle.std.proofs.lemmas.Iterator.Search.{find_from_yields_List}
use borrow.Author.Tests.{tests}
use Rattle.authority_book.specs.Origins.{is_there}
use Rattle.authority_book.proofs.verdicts.first_there.Goals as goal

pub returns : goal.returns
returns c = c.copied.ensures
    ∙ find_from_yields_List (λ o. is_there c.args.config.now.settings.origins o && not (is_there c.args.removed.now o)) _ _ c.find.result c.find.ensures.ran
    (YieldsList-from_slice c.args.added.now cc) (λ x b q k. search (rules, tests))
