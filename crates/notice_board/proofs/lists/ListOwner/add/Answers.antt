use Rattle.std.proofs.Common.{◌≡◌, List, [], ◌∷◌, ◌++◌, sym, ap, ◌∙◌, subst}
use Rattle.notice_board.specs.declared.sheets.Sheet.{Sheet}
use Rattle.notice_board.specs.declared.lists.Entry.{Entry}
use Rattle.notice_board.specs.declared.lists.Known.{Known}
use Rattle.notice_board.specs.Lists.{shown_of}
use Rattle.notice_board.specs.Rule.{EndsAt}
use Rattle.notice_board.specs.inner.Known.{entry, head_of}
use Rattle.notice_board.proofs.Owning.{adds_entry, ends_push, same_book}
use Rattle.notice_board.proofs.lists.ListOwner.add.Goals as goal

pub compare_exchange-requires : goal.compare_exchange-requires
compare_exchange-requires g c =
    let kept = c.self.invariant in
    let offer = c.plain-offer.ensures in
    let book : c.self.inside.seen.book ≡ c.self.inside.head.book = sym (ap (λ w. w.book) kept.0) in (
      ap (λ w. w.tracked) kept.0,
      book,
      kept.1 ∙ book,
      offer.0,
      rw (ap (λ w. w.key) kept.0, offer.1, offer.3) (adds_entry c.self.inside.seen.log c.self.inside.pen.nib _ kept.2 kept.3),
    )

pub invariant_of-self : goal.invariant_of-self
invariant_of-self g c =
    let kept = c.self.invariant in
    let step = c.compare_exchange.ensures in
    let log : List Entry = c.self.inside.seen.log in
    let key = c.cut-next.result.nib.key in
    let same : c.cut-next.result.book ≡ c.self.inside.seen.book = same_book _ _ (c.cut-next.ensures.list ∙ ap (λ (k : Known). k.list) (sym c.self.view_is)) in (
      kept.0 ∙ ap head_of (sym step.0),
      same ∙ sym step.0,
      c.cut-next.ensures.right,
      subst (EndsAt key) (sym (step.7 ∙ ap (λ (e : Entry). log ++ e ∷ []) c.plain-offer.ensures.1)) (ends_push log (entry (shown_of c.of-sheet.result.value g.E.Numbers.numbers) key)),
    )

pub returns-clause-added : goal.returns-clause-added
returns-clause-added g c =
    let step = c.compare_exchange.ensures in
    let log : List Entry = c.self.inside.seen.log in
    let key = c.cut-next.result.nib.key in (
      key,
      step.7
          ∙ (ap (λ (e : Entry). log ++ e ∷ []) c.plain-offer.ensures.1
          ∙ (ap (λ (s : Sheet). log ++ entry (shown_of s g.E.Numbers.numbers) key ∷ []) c.of-sheet.ensures
          ∙ ap (λ (k : Known). k.log ++ entry (shown_of c.args.sheet.now g.E.Numbers.numbers) key ∷ []) c.self.view_is)),
    )
