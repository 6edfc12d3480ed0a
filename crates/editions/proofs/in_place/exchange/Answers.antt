use Rattle.std.proofs.Common.{List, subst, arith}
use Rattle.std.specs.Prelude.{Ok, Err}
use Rattle.std.proofs.lemmas.Bool.Decides.{nat_tests}
use Rattle.key_roll.specs.declared.issued.IssuedRow.{IssuedRow}
use Rattle.editions.specs.inner.RowPlaces.{IsRowPlace, IsExchanged}
use Rattle.editions.proofs.StateLemmas.Exchanged.{exchanged_up, exchanged_down}
use Rattle.editions.proofs.in_place.exchange.Goals as goal
use Rattle.editions.proofs.in_place.exchange.Goals.{then-from-to, else-from-to}

pub returns-in-Ok-Err : goal.returns-in-Ok-Err
returns-in-Ok-Err c =
    let rows = c.args.rows.now.items in
    let from = c.in-Ok-Err.from in
    let to = c.in-Ok-Err.to in
    let there : IsRowPlace rows c.args.gone (Ok from) = subst (λ (l : List IssuedRow). IsRowPlace l c.args.gone (Ok from)) c.deref.ensures.value c.in-Ok-Err.ensures in
    let place : IsRowPlace rows c.args.row.uri (Err to) = subst (λ (l : List IssuedRow). IsRowPlace l c.args.row.uri (Err to)) c.deref-2.ensures.value c.in-Ok-Err.ensures' in
    elim c.if-from-to.branch as (λ _. IsExchanged rows c.args.gone c.args.row c.if-from-to.rows.items) [
      | then-from-to w ↦
          exchanged_up rows c.if-from-to.rows.items from to c.args.gone c.args.row c.requires there place
          (grind (arith, nat_tests, w.if-from-to.true)) (rw w.rows-is w.shift_up.ensures)
      | else-from-to w ↦
          exchanged_down rows c.if-from-to.rows.items from to c.args.gone c.args.row c.requires there place
          (grind (arith, nat_tests, w.if-from-to.false)) (rw w.rows-is w.shift_down.ensures)
    ]
