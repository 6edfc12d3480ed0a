-- Editions, and what they leave, as the records of a press's journal have them.
use Rattle.std.specs.Prelude.{map}
use Rattle.pub_set.specs.Objects.{content_at}
use Rattle.press_records.specs.Rows.{row_value}
use Rattle.press_records.specs.Edition.{EditionValue, StandingValue}
use Rattle.editions.specs.Edition.{Edition, State}
use Rattle.editions.specs.PublishedState.{PublishedStateValue}

-- An edition as its record tells it.
abbrev pub edition_value : Edition → EditionValue
edition_value edition = record {
  serial = edition.serial;
  moment = edition.moment;
  cut = edition.cut;
  rows = map row_value edition.rows;
  changes = edition.changes;
}

-- What editions leave, over which the record of the next one is read.
abbrev pub standing_at : State → StandingValue
standing_at state = record {
  serial = state.serial;
  moment = state.moment;
  cut = state.cut;
  rows = map row_value state.rows;
  set = state.set;
}

-- The same of what stands.
abbrev pub standing_of : PublishedStateValue → StandingValue
standing_of published_state = record {
  serial = published_state.serial;
  moment = published_state.moment;
  cut = published_state.cut;
  rows = map row_value published_state.rows;
  set = content_at published_state.set;
}
