use Rattle.std.proofs.Common.{ℕ, List, map, refl, rules}
use Rattle.der.specs.Grammar.{AreBytes}
use Rattle.key_roll.specs.declared.issued.IssuedRow.{IssuedRow}
use Rattle.press_core.specs.inner.Rows.{home_value}
use Rattle.press_core.proofs.Telling.{row-for}
use Rattle.press_core.proofs.tables.row_of.Goals as goal

pub returns : goal.returns
returns c =
    let bytes : List ℕ = c.as_slice-bytes.result.now in
    let fits : AreBytes bytes = search rules in
    let told = c.in_ok-told.told in
    let row : IssuedRow = record {
      uri = c.in_ok-copy.field-0;
      issuer = told.issuer;
      serial = told.serial;
      not_after = told.not_after;
      hash = c.digest.result;
      what = told.what;
    } in
    row-for (map home_value c.args.homes.now) c.args.object.now bytes told row c.as_slice-bytes.ensures fits c.in_ok-copy.ensures c.digest.ensures refl refl refl refl c.in_ok-told.ensures
