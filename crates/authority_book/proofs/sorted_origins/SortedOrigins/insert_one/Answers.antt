use Rattle.std.proofs.Common.{◌≡◌, true, false, refl, ◌∙◌}
use Rattle.std.specs.Result.{is_ok}
use Rattle.authority_book.specs.Origins.{origin_cmp, is_there, IsAscending}
use Rattle.authority_book.proofs.OriginOrder.{found, parted}
use Rattle.authority_book.proofs.Placed.{inserted_is}
use Rattle.authority_book.proofs.sorted_origins.SortedOrigins.insert_one.Goals as goal

pub unreachable-requires : goal.unreachable-requires
unfolding origin_cmp
unreachable-requires c =
    let xs = c.as_slice.result.now in
    let up : IsAscending xs = rw c.as_slice.ensures c.requires.ascending in
    let absent : is_there xs c.args.origin ≡ false = rw c.as_slice.ensures c.requires.absent in
    let is = found xs c.args.origin c.binary_search.result up c.binary_search.ensures.bound c.binary_search.ensures.position in
    let here : is_ok c.binary_search.result ≡ true = rw c.in-Ok.is refl in
    cc

pub returns-clause-items : goal.returns-clause-items
unfolding origin_cmp
returns-clause-items c =
    let xs = c.args.self.now.items in
    let same = c.as_slice.ensures in
    let parts = parted c.as_slice.result.now c.args.origin c.in-Err.place (rw same c.requires.ascending) c.in-Err.ensures.position in
    c.insert_at.ensures.items
    ∙ inserted_is xs c.in-Err.place c.args.origin c.requires.ascending c.requires.absent (rw same at c.in-Err.ensures.bound) (rw same at parts)
