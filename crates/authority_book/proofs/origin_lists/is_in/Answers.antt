use Rattle.std.proofs.Common.{rules}
use Rattle.std.proofs.lemmas.Iterator.{YieldsList-from_slice}
use Rattle.std.proofs.lemmas.Iterator.Search.{any_from_yields_List}
use borrow.Author.Tests.{tests}
use Rattle.authority_book.specs.Origins.{origin_cmp, is_same}
use Rattle.authority_book.proofs.origin_lists.is_in.Goals as goal

pub returns : goal.returns
unfolding origin_cmp
returns c = any_from_yields_List (λ o. is_same c.args.origin.now o) _ _ c.any.result c.any.ensures.ran
    (YieldsList-from_slice c.args.list.now cc) (λ x b q k. search (rules, tests))
