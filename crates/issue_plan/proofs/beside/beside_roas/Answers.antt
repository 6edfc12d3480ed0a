use Rattle.std.proofs.Common.{◌≡◌, ℕ, ◌+◌, ◌<◌, Bool, true, false, not, cond, List, [], ◌∷◌, ◌++◌, length, get_or, map, take, filter, Vec, Global, refl, sym, ap, ◌∙◌}
use denote.Ref.{Bor}
use Rattle.std.proofs.lemmas.List.{take_more, map-append, append-nil}
use Rattle.std.proofs.lemmas.List.Elements.{filter-append}
use Rattle.key_roll.specs.declared.issued.IssuedRow.{IssuedRow}
use Rattle.issue_plan.specs.inner.Beside.{is_roa, beside_roas}
use Rattle.issue_plan.proofs.beside.beside_roas.Goals as goal
use Rattle.issue_plan.proofs.beside.beside_roas.Goals.{then-not-is_roa+in_ok-push, else-not-is_roa}

-- One row more.
more : (issued : List IssuedRow) (i : ℕ) (row : IssuedRow) → i < length issued → row ≡ get_or issued i row
    → beside_roas (take (i + 1) issued) ≡ beside_roas (take i issued) ++ beside_roas (row ∷ [])
more issued i row inside is =
    ap beside_roas (take_more issued i row inside ∙ ap (λ (r : IssuedRow). take i issued ++ r ∷ []) (sym is))
    ∙ filter-append (λ (r : IssuedRow). not (is_roa r.what)) (take i issued) (row ∷ [])

pub loop-row-preserved : goal.loop-row-preserved
loop-row-preserved c =
    let now : Bor IssuedRow → IssuedRow = λ row. row.now in
    let all : Vec (Bor IssuedRow) Global → List IssuedRow = λ v. map now v.items in
    let issued = c.args.issued.now in
    let i = c.loop-row.row-index in
    let row = c.row-item.result in
    let before = beside_roas (take i issued) in
    let next : beside_roas (take (i + 1) issued) ≡ before ++ beside_roas (row ∷ []) =
    more issued i row c.loop-row-test.true c.row-item.is in
    elim c.if-not-is_roa.branch as (λ _. map now c.if-not-is_roa.beside.items ≡ beside_roas (take (i + 1) issued)) [
      | then-not-is_roa+in_ok-push w ↦
          let kept : not (is_roa row.what) ≡ true = ap not (sym c.is_roa.ensures ∙ w.if-not-is_roa.true) in
          ap all w.beside-is
          ∙ (ap (map now) w.in_ok-push.ensures.items
          ∙ (map-append now c.loop-row.beside.items _
          ∙ (ap (λ l. l ++ row ∷ []) c.loop-row.invariant
          ∙ (ap (λ b. before ++ cond b (row ∷ []) []) (sym kept) ∙ sym next))))
      | else-not-is_roa w ↦
          let gone : not (is_roa row.what) ≡ false = ap not (sym c.is_roa.ensures ∙ w.if-not-is_roa.false) in
          ap all w.beside-is
          ∙ (c.loop-row.invariant
          ∙ (sym (append-nil before)
          ∙ (ap (λ b. before ++ cond b (row ∷ []) []) (sym gone) ∙ sym next)))
    ]
