use Rattle.std.proofs.Common.{List, [], ◌∷◌, sym, subst}
use Rattle.std.specs.Prelude.{Ok, Err}
use Rattle.key_roll.specs.declared.issued.IssuedRow.{IssuedRow}
use Rattle.editions.specs.declared.standing.NextRow.TheVariants.{Issued}
use Rattle.editions.specs.inner.RowPlaces.{IsRowPlace}
use Rattle.editions.proofs.StateLemmas.InPlace.{row_put, row_in}
use Rattle.editions.proofs.StateLemmas.Tabled.{IsComing}
use Rattle.editions.proofs.in_place.put_row.Goals as goal

pub returns-in-Ok : goal.returns-in-Ok
returns-in-Ok c =
    let rows = c.args.rows.now.items in
    let place = subst (λ (l : List IssuedRow). IsRowPlace l c.args.row.uri (Ok c.in-Ok.place)) c.deref.ensures.value c.in-Ok.ensures in
    row_put rows c.in-Ok.place c.args.row c.args.row c.requires place

pub returns-in_ok-insert-in-Err : goal.returns-in_ok-insert-in-Err
returns-in_ok-insert-in-Err c =
    let rows = c.args.rows.now.items in
    let place = subst (λ (l : List IssuedRow). IsRowPlace l c.args.row.uri (Err c.in-Err.place)) c.deref.ensures.value c.in-Err.ensures in
    subst (λ (l : List IssuedRow). IsComing rows (Issued c.args.row ∷ []) l) (sym c.in_ok-insert-in-Err.ensures.items)
    (row_in rows c.in-Err.place c.args.row c.requires place)
