-- What contracts see of editions and of what stands.
use Rattle.std.specs.Prelude.{ℕ, List, map}
use Rattle.pub_set.specs.declared.objects.Object.{Object}
use Rattle.pub_set.specs.Objects.{content_at}
use Rattle.press_records.specs.declared.edition.Standing.{Standing}
use Rattle.press_records.specs.declared.edition.ReadEdition.{ReadEdition}
use Rattle.press_records.specs.declared.edition.GivenEdition.{GivenEdition}
use Rattle.press_records.specs.declared.recovered.RecoveredParts.{RecoveredParts}
use Rattle.press_records.specs.Rows.{RowValue, row_value}
use Rattle.press_records.specs.Edition.{EditionValue, StandingValue, Fields}

abbrev pub standing_value : Standing → StandingValue
standing_value standing = record {
  serial = standing.serial;
  moment = standing.moment;
  cut = standing.cut.now;
  rows = map row_value standing.rows.now;
  set = content_at standing.set.now;
}

abbrev pub edition_value : ReadEdition → EditionValue
edition_value edition = record {
  serial = edition.serial;
  moment = edition.moment;
  cut = edition.cut;
  rows = map row_value edition.rows;
  changes = edition.changes;
}

abbrev pub fields_value : ReadEdition → Fields
fields_value edition =
    (edition.serial, (edition.moment, (edition.cut, (map row_value edition.rows, edition.changes))))

abbrev pub given_value : GivenEdition → EditionValue
given_value given = record {
  serial = given.serial;
  moment = given.moment;
  cut = given.cut.now;
  rows = map row_value given.rows.now;
  changes = given.changes.now;
}

-- What stands, with the list of its objects.
pub record RecoveredValue : Type 0 where
  pub serial : ℕ
  pub moment : ℕ
  pub cut : List ℕ
  pub rows : List RowValue
  pub objects : List Object

abbrev pub recovered_standing : RecoveredValue → StandingValue
recovered_standing left = record {
  serial = left.serial;
  moment = left.moment;
  cut = left.cut;
  rows = left.rows;
  set = content_at left.objects;
}

abbrev pub parts_value : RecoveredParts → RecoveredValue
parts_value parts = record {
  serial = parts.serial;
  moment = parts.moment;
  cut = parts.cut;
  rows = map row_value parts.rows;
  objects = parts.set;
}
