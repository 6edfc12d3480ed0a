use Rattle.std.proofs.Common.{ℕ, List, ◌++◌, ◌∙◌, sym, ap, subst, append_assoc}
use Rattle.std.specs.declared.cmp.Ordering.TheVariants.{Less, Equal}
use Rattle.key_roll.specs.declared.issued.IssuedRow.{IssuedRow}
use Rattle.pub_set.specs.Objects.{AllBelow}
use Rattle.editions.specs.Standing.{next_uri}
use Rattle.editions.specs.inner.RowPlaces.{StartsElse, PopsIf}
use Rattle.editions.proofs.StateLemmas.InPlace.{merged_next, below_later}
use Rattle.editions.proofs.StateLemmas.Tabled.{row_uri}
use Rattle.editions.proofs.row_merging.merge_one.Goals as goal

pub returns-clause-joined : goal.returns-clause-joined
returns-clause-joined c =
    let old = c.args.rows.now.items ++ c.args.rest.now.items in
    let xs = c.move_below.new.rows.items in
    let ys = c.move_below.new.rest.items in
    let zs = c.pop_if.new.rest.items in
    let below : AllBelow row_uri xs (next_uri c.args.next) = subst (λ (u : List ℕ). AllBelow row_uri xs u) c.uri.ensures c.in_ok-move_below.ensures.behind in
    let starts : StartsElse ys (next_uri c.args.next) Less = subst (λ (u : List ℕ). StartsElse ys u Less) c.uri.ensures c.in_ok-move_below.ensures.rest in
    let popped : PopsIf ys (next_uri c.args.next) Equal c.pop_if.result zs = subst (λ (u : List ℕ). PopsIf ys u Equal c.pop_if.result zs) c.uri-2.ensures c.pop_if.ensures in
    merged_next old xs ys zs (c.push_next.new.rows.items ++ zs) c.pop_if.result c.args.next c.requires.rising c.in_ok-move_below.ensures.items below starts popped
    (ap (λ (l : List IssuedRow). l ++ zs) c.in_ok-push_next.ensures ∙ append_assoc xs _ zs)

pub returns-clause-behind : goal.returns-clause-behind
returns-clause-behind c = λ later less.
    let xs = c.move_below.new.rows.items in
    let below : AllBelow row_uri xs (next_uri c.args.next) = subst (λ (u : List ℕ). AllBelow row_uri xs u) c.uri.ensures c.in_ok-move_below.ensures.behind in
    subst (λ (l : List IssuedRow). AllBelow row_uri l later) (sym c.in_ok-push_next.ensures) (below_later xs c.args.next later below less)
