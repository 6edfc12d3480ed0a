use Rattle.std.proofs.Common.{◌≡◌, ◌++◌, true, refl, sym, ◌∙◌, ap, drop, List}
use Rattle.std.specs.Result.{is_ok}
use Rattle.origins.specs.declared.Origin.{Origin}
use Rattle.authority_book.specs.inner.Kept.{KeptOrigins}
use Rattle.authority_book.specs.Origins.{origin_cmp}
use Rattle.authority_book.proofs.Placed.{sorted_is}
use Rattle.authority_book.proofs.sorted_origins.SortedOrigins.sort_in.Goals as goal

pub returns-clause-items : goal.returns-clause-items
unfolding origin_cmp
returns-clause-items c =
    let xs = c.self.inside.items.items in
    let added = c.args.added.now in
    let sorted = c.sort_unstable.new.self.items in
    let first : c.self.inside.start ≡ 0 = ap (λ (v : KeptOrigins). v.gap) c.self.view_is ∙ c.close_gap.ensures.gap in
    let same : xs ≡ c.args.self.now.items =
    ap (λ n. drop n xs) (sym first) ∙ ap (λ (v : KeptOrigins). v.items) c.self.view_is ∙ c.close_gap.ensures.items in
    let ok : is_ok c.extend_from_slice.result ≡ true = rw c.unwrap.ensures refl in
    let put : c.extend_from_slice.new.self.items ≡ xs ++ added = rw ok at c.extend_from_slice.ensures.items in
    let joined = put ∙ ap (λ (l : List Origin). l ++ added) same in
    ap (λ n. drop n sorted) first
    ∙ sorted_is c.args.self.now.items added sorted c.requires.ascending c.requires.distinct
    (rw joined at c.sort_unstable.ensures.permutation) c.sort_unstable.ensures.sorted
