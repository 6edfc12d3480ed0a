use Rattle.std.proofs.Common.{◌∙◌, ap}
use Rattle.authority_book.specs.Origins.{origin_cmp, is_there}
use Rattle.authority_book.proofs.OriginOrder.{found}
use Rattle.authority_book.proofs.configs.Config.contains.Goals as goal

pub returns : goal.returns
unfolding origin_cmp
returns c =
    let is = found c.origins.result.now c.args.origin.now c.binary_search.result c.origins.ensures.ascending c.binary_search.ensures.bound c.binary_search.ensures.position in
    c.is_ok.ensures.value ∙ is ∙ ap (λ xs. is_there xs c.args.origin.now) c.origins.ensures.origins
