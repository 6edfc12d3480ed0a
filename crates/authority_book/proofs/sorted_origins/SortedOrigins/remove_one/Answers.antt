use Rattle.std.proofs.Common.{◌≡◌, false, refl, sym, ◌∙◌, ap, get_or}
use Rattle.std.specs.Result.{is_ok}
use Rattle.authority_book.specs.Origins.{origin_cmp, is_there, IsAscending}
use Rattle.authority_book.proofs.OriginOrder.{found}
use Rattle.origins.specs.laws.Ordered.{exact_origin}
use Rattle.authority_book.proofs.Changes.{distinct_from_ascending}
use Rattle.authority_book.proofs.Removed.{without_at, without_absent}
use Rattle.authority_book.proofs.sorted_origins.SortedOrigins.remove_one.Goals as goal

pub returns-in-Ok-clause-items : goal.returns-in-Ok-clause-items
unfolding origin_cmp
returns-in-Ok-clause-items c =
    let xs = c.args.self.now.items in
    let o = c.args.origin.now in
    let same = c.as_slice.ensures in
    let is : get_or xs c.in-Ok.place o ≡ o = exact_origin (get_or xs c.in-Ok.place o) o (rw same at (c.in-Ok.ensures.position o)) in
    c.remove_at.ensures.items
    ∙ without_at xs c.in-Ok.place o (distinct_from_ascending xs c.requires.ascending) (rw same at c.in-Ok.ensures.bound) is

pub returns-in_default-clause-items : goal.returns-in_default-clause-items
unfolding origin_cmp
returns-in_default-clause-items c =
    let xs = c.args.self.now.items in
    let o = c.args.origin.now in
    let same = c.as_slice.ensures in
    let up : IsAscending c.as_slice.result.now = rw same c.requires.ascending in
    let is = found c.as_slice.result.now o c.binary_search.result up c.binary_search.ensures.bound c.binary_search.ensures.position in
    let err : is_ok c.binary_search.result ≡ false = rw c.in_default.is refl in
    sym (without_absent xs o (ap (λ l. is_there l o) (sym same) ∙ (sym is ∙ err)))
