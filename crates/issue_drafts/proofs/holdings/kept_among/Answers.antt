use Rattle.std.proofs.Common.{◌≡◌, ℕ, ◌+◌, ◌<◌, Bool, true, false, cond, List, [], ◌∷◌, ◌++◌}
use Rattle.std.proofs.Common.{length, get_or, map, take, filter, Vec, Global, sym, ap, ◌∙◌}
use denote.Ref.{Bor}
use Rattle.std.proofs.lemmas.List.{take_more, map-append, append-nil}
use Rattle.std.proofs.lemmas.List.Elements.{filter-append}
use Rattle.key_roll.specs.declared.issued.IssuedRow.{IssuedRow}
use Rattle.issue_drafts.specs.inner.Holdings.{is_kept_under}
use Rattle.issue_drafts.proofs.holdings.kept_among.Goals as goal
use Rattle.issue_drafts.proofs.holdings.kept_among.Goals.{then-is_kept+in_ok-push, else-is_kept}

-- One row more.
more : (p : IssuedRow → Bool) (rows : List IssuedRow) (i : ℕ) (row : IssuedRow) → i < length rows
    → row ≡ get_or rows i row → filter p (take (i + 1) rows) ≡ filter p (take i rows) ++ filter p (row ∷ [])
more p rows i row inside is =
    ap (filter p) (take_more rows i row inside ∙ ap (λ (r : IssuedRow). take i rows ++ r ∷ []) (sym is))
    ∙ filter-append p (take i rows) (row ∷ [])

pub loop-row-preserved : goal.loop-row-preserved
loop-row-preserved c =
    let now : Bor IssuedRow → IssuedRow = λ row. row.now in
    let all : Vec (Bor IssuedRow) Global → List IssuedRow = λ v. map now v.items in
    let p : IssuedRow → Bool = is_kept_under c.args.id.now.bytes c.args.anchor.now c.args.touched.now in
    let rows = c.args.rows.now in
    let i = c.loop-row.row-index in
    let row = c.row-item.result in
    let before = filter p (take i rows) in
    let next : filter p (take (i + 1) rows) ≡ before ++ filter p (row ∷ []) =
    more p rows i row c.loop-row-test.true c.row-item.is in
    elim c.if-is_kept.branch as (λ _. map now c.if-is_kept.kept.items ≡ filter p (take (i + 1) rows)) [
      | then-is_kept+in_ok-push w ↦
          let is : p row ≡ true = sym c.is_kept.ensures ∙ w.if-is_kept.true in
          ap all w.kept-is
          ∙ (ap (map now) w.in_ok-push.ensures.items
          ∙ (map-append now c.loop-row.kept.items _
          ∙ (ap (λ l. l ++ row ∷ []) c.loop-row.invariant
          ∙ (ap (λ b. before ++ cond b (row ∷ []) []) (sym is) ∙ sym next))))
      | else-is_kept w ↦
          let gone : p row ≡ false = sym c.is_kept.ensures ∙ w.if-is_kept.false in
          ap all w.kept-is
          ∙ (c.loop-row.invariant
          ∙ (sym (append-nil before)
          ∙ (ap (λ b. before ++ cond b (row ∷ []) []) (sym gone) ∙ sym next)))
    ]
