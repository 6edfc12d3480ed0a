use Rattle.std.proofs.Common.{◌≡◌, ◌∙◌, ap, subst, Option, Box, Global, rules}
use Rattle.std.specs.Prelude.{IfSome}
use Rattle.std.specs.List.Sorted.{IsSorted}
use Rattle.authority_book.specs.Origins.{origin_cmp, is_there}
use Rattle.authority_book.specs.inner.Index.{IsIndexed}
use Rattle.authority_book.specs.declared.origin_lists.Index.{Index}
use Rattle.authority_book.proofs.OriginOrder.{found_sorted}
use Rattle.authority_book.proofs.origin_lists.OriginList.contains.Goals as goal

pub returns-in-Some : goal.returns-in-Some
unfolding origin_cmp
returns-in-Some c =
    let Kept : Option (Box Index Global) → Type 0 = λ index. IfSome index (λ i. IsIndexed c.self.inside.items.items i.value) in
    let indexed : IsIndexed c.self.inside.items.items c.in-Some.index.value = subst Kept c.in-Some.is c.self.invariant.1 in
    let o = c.args.origin.now in
    let same : c.deref-in-Some.result.now ≡ c.in-Some.index.value.sorted.items = search rules in
    let up : IsSorted origin_cmp c.deref-in-Some.result.now = rw same indexed.sorted in
    c.is_ok.ensures.value
    ∙ found_sorted c.deref-in-Some.result.now o c.binary_search.result up c.binary_search.ensures.bound c.binary_search.ensures.position
    ∙ ap (λ xs. is_there xs o) same
    ∙ indexed.members o
    ∙ ap (λ xs. is_there xs o) c.self.view_is
