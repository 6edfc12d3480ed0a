use Rattle.std.proofs.Common.{List, [], ◌∷◌, sym, subst}
use Rattle.std.specs.Prelude.{Ok, Err}
use Rattle.key_roll.specs.declared.issued.IssuedRow.{IssuedRow}
use Rattle.editions.specs.declared.standing.NextRow.TheVariants.{Gone}
use Rattle.editions.specs.inner.RowPlaces.{IsRowPlace}
use Rattle.editions.proofs.StateLemmas.InPlace.{row_out, row_none}
use Rattle.editions.proofs.StateLemmas.Tabled.{IsComing}
use Rattle.editions.proofs.in_place.take_row.Goals as goal

pub returns-in-Ok : goal.returns-in-Ok
returns-in-Ok c =
    let rows = c.args.rows.now.items in
    let place = subst (λ (l : List IssuedRow). IsRowPlace l c.args.uri (Ok c.in-Ok.place)) c.deref.ensures.value c.in-Ok.ensures in
    subst (λ (l : List IssuedRow). IsComing rows (Gone c.args.uri ∷ []) l) (sym c.remove.ensures.items)
    (row_out rows c.in-Ok.place c.remove.result c.args.uri c.requires place)

pub returns : goal.returns
returns c =
    let rows = c.args.rows.now.items in
    let place = subst (λ (l : List IssuedRow). IsRowPlace l c.args.uri (Err c.in_default.field-0)) c.deref.ensures.value c.in_default.ensures in
    row_none rows c.in_default.field-0 c.args.uri c.requires place
