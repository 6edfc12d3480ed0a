use Rattle.std.proofs.Common.{◌≡◌, List, ap, sym, ◌∙◌, rules}
use Rattle.std.specs.List.Sorted.{IsPermutation}
use Rattle.std.proofs.lemmas.List.Sorted.{list_any-IsPermutation, IsPermutation-refl}
use Rattle.authority_book.specs.Origins.{origin_cmp, is_same, is_there, first_repeated, IsAscending}
use Rattle.origins.specs.declared.Origin.{Origin}
use Rattle.authority_book.proofs.OriginOrder.{sorted_from_ascending}
use Rattle.authority_book.proofs.Indexed.{none_from_ascending}
use Rattle.authority_book.proofs.origin_lists.index_many.Goals as goal
use Rattle.authority_book.proofs.origin_lists.index_many.Goals.{then-is_ascending, else-is_ascending+in_ok-repeated}

pub is_ascending-requires : goal.is_ascending-requires
unfolding origin_cmp
is_ascending-requires c = rw c.deref.ensures.value c.sort_unstable.ensures.sorted

pub returns-then-is_rising : goal.returns-then-is_rising
returns-then-is_rising c =
    let items = c.args.items.now in
    let same : c.in_ok-sorted.sorted.items ≡ items = search rules in
    let up : IsAscending items = c.is_rising.ensures (search rules) in
    record {
      sorted = rw same (sorted_from_ascending items up);
      members = λ o. ap (λ (l : List Origin). is_there l o) same;
      first = sym (none_from_ascending items items (IsPermutation-refl items) up);
    }

pub returns : goal.returns
unfolding origin_cmp
returns c =
    let items = c.args.items.now in
    let sorted = c.sort_unstable.new.self.items in
    let same : c.in_ok-sorted.sorted.items ≡ items = search rules in
    let moved : IsPermutation items sorted = rw same at c.sort_unstable.ensures.permutation in
    let first : c.if-is_ascending.repeated ≡ first_repeated items = elim c.if-is_ascending.branch [
      | then-is_ascending w ↦ w.repeated-is ∙ sym (none_from_ascending items sorted moved (rw c.deref.ensures.value at (c.is_ascending.ensures (search rules))))
      | else-is_ascending+in_ok-repeated w ↦ search rules
    ] in
    record {
      sorted = c.sort_unstable.ensures.sorted;
      members = λ o. sym (list_any-IsPermutation (is_same o) items sorted moved);
      first = first;
    }
