use Rattle.std.proofs.Common.{rules}
use Rattle.std.proofs.lemmas.Fn.{always_returns_same}
use Rattle.pub_set.specs.Objects.{uri_cmp}
use Rattle.editions.proofs.StateLemmas.InPlace.{place_found}
use Rattle.editions.proofs.in_place.place_of.Goals as goal

pub returns : goal.returns
returns c =
    place_found c.args.rows.now c.args.uri.now c.binary_search_by.result c.requires c.binary_search_by.ensures.bound
    (c.binary_search_by.ensures.position (λ row. uri_cmp row.uri c.args.uri.now) (always_returns_same _ _ _ (λ a r f called. search rules)))
