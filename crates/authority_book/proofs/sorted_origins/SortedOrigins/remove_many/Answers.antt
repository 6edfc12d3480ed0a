use Rattle.std.proofs.Common.{◌≡◌, sym, ◌∙◌, ap, drop, rules, List}
use Rattle.std.specs.Prelude.{not}
use Rattle.std.proofs.lemmas.Fn.{filter_same}
use borrow.Author.Tests.{tests}
use Rattle.origins.specs.declared.Origin.{Origin}
use Rattle.authority_book.specs.inner.Kept.{KeptOrigins}
use Rattle.authority_book.specs.Origins.{is_there, without}
use Rattle.authority_book.proofs.sorted_origins.SortedOrigins.remove_many.Goals as goal

pub returns-clause-items : goal.returns-clause-items
returns-clause-items c =
    let xs = c.self.inside.items.items in
    let first : c.self.inside.start ≡ 0 = ap (λ (v : KeptOrigins). v.gap) c.self.view_is ∙ c.close_gap.ensures.gap in
    let same : xs ≡ c.args.self.now.items =
    ap (λ n. drop n xs) (sym first) ∙ ap (λ (v : KeptOrigins). v.items) c.self.view_is ∙ c.close_gap.ensures.items in
    let kept : c.retain.new.self.items ≡ without xs c.args.removed.now =
    filter_same _ (λ o. not (is_there c.args.removed.now o)) _ (λ x b q k. search (rules, tests)) _ _ c.retain.ensures.filtered in
    ap (λ n. drop n c.retain.new.self.items) first ∙ kept ∙ ap (λ (l : List Origin). without l c.args.removed.now) same
