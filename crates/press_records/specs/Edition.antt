-- The record of an edition, over what stood before it.
use Rattle.std.specs.Prelude.{◌≡◌, ℕ, ◌+◌, ◌^◌, ◌==◌, Bool, true, not, ◌&&◌, nat_le, nat_lt, List, [], ◌∷◌, map, length, get_or}
use Rattle.std.specs.Prelude.{Option, Some, None, if◌then◌else◌}
use Rattle.std.specs.List.{list_all, list_any}
use Rattle.std.specs.Str.{bytes_eq}
use Rattle.sha1.specs.Sha1.{sha1}
use Rattle.pub_set.specs.declared.steps.Change.{Change}
use Rattle.pub_set.specs.Changes.{Contents, after_all}
use Rattle.record_forms.specs.Form.{Form}
use Rattle.record_forms.specs.Forms.{both, through, marked, number_64, counted}
use Rattle.press_records.specs.Rows.{RowValue, key_rows}
use Rattle.press_records.specs.Changes.{changes, uris_rise}
use Rattle.press_records.specs.Stages.{are_staged}

-- One publication: its serial, its moment in seconds since 1970, how many commands of each desk it
-- takes in, its live keys, and what it changes.
pub record EditionValue : Type 0 where
  pub serial : ℕ
  pub moment : ℕ
  pub cut : List ℕ
  pub rows : List RowValue
  pub changes : List Change

-- What stands after an edition.
pub record StandingValue : Type 0 where
  pub serial : ℕ
  pub moment : ℕ
  pub cut : List ℕ
  pub rows : List RowValue
  pub set : Contents

abbrev pub nothing_stands : StandingValue
nothing_stands = record { serial = 0; moment = 0; cut = []; rows = []; set = λ uri. None }

abbrev pub after_edition : StandingValue → EditionValue → StandingValue
after_edition before edition = record {
  serial = edition.serial;
  moment = edition.moment;
  cut = edition.cut;
  rows = edition.rows;
  set = after_all before.set edition.changes;
}

-- The same where an edition's changes are carried out and nothing else of it, and where all else is.
abbrev pub carried_out : StandingValue → EditionValue → StandingValue
carried_out before edition = record before { set = after_all before.set edition.changes }

abbrev pub settled : StandingValue → EditionValue → StandingValue
settled before edition = record {
  serial = edition.serial;
  moment = edition.moment;
  cut = edition.cut;
  rows = edition.rows;
  set = before.set;
}

-- The same stands: the cuts agree desk by desk, where one that is missing is 0, and the sets URI by
-- URI.
pub record IsAlike (one other : StandingValue) : Type 0 where
  pub serial : one.serial ≡ other.serial
  pub moment : one.moment ≡ other.moment
  pub cut : (desk : ℕ) → get_or one.cut desk 0 ≡ get_or other.cut desk 0
  pub rows : one.rows ≡ other.rows
  pub set : (uri : List ℕ) → one.set uri ≡ other.set uri

-- ---- which editions may follow, as far as a record tells

-- One more, and within the limit of counters.
abbrev pub is_next : ℕ → ℕ → Bool
is_next before serial = (serial == before + 1) && nat_le serial (2 ^ 63)

-- From the year 2000 on, and so early that what is issued ends by the year 9999.
abbrev pub first_moment : ℕ
first_moment = 946_684_800

abbrev pub last_moment : ℕ
last_moment = 253_370_764_799

abbrev pub is_dated : ℕ → ℕ → Bool
is_dated before moment =
    nat_lt before moment && nat_le first_moment moment && nat_le moment last_moment

-- No number is less than before, and one that is missing is 0.
abbrev pub grows : List ℕ → List ℕ → Bool
grows [] cut = true
grows (n ∷ before) [] = nat_le n 0 && grows before []
grows (n ∷ before) (m ∷ cut) = nat_le n m && grows before cut

-- A number for each of the 64 desks.
abbrev pub is_cut : List ℕ → List ℕ → Bool
is_cut before cut = (length cut == 64) && grows before cut

-- Counters are within their limit.
abbrev pub is_counted : RowValue → Bool
is_counted row = nat_le row.number (2 ^ 63) && nat_le row.next_serial (2 ^ 63)

-- The entries of the key's CRL were revoked at moments that had come.
abbrev pub are_past : ℕ → RowValue → Bool
are_past moment row =
    list_all (λ entry. nat_le first_moment entry.revoked_at && nat_le entry.revoked_at moment)
    row.revoked

abbrev pub is_settled : ℕ → RowValue → Bool
is_settled moment row = is_counted row && are_past moment row

abbrev pub id_of : RowValue → List ℕ
id_of row = sha1 row.key

-- No two identifiers are the same.
abbrev pub are_apart : List (List ℕ) → Bool
are_apart [] = true
are_apart (id ∷ ids) = not (list_any (bytes_eq id) ids) && are_apart ids

-- The keys are in stages, counted, and apart, and what was revoked is past.
abbrev pub are_live : ℕ → List RowValue → Bool
are_live moment rows =
    are_staged rows && list_all (is_settled moment) rows && are_apart (map id_of rows)

abbrev pub may_follow : StandingValue → EditionValue → Bool
may_follow before edition =
    is_next before.serial edition.serial && is_dated before.moment edition.moment
    && is_cut before.cut edition.cut && are_live edition.moment edition.rows && uris_rise edition.changes

-- ---- its record

-- The fields of an edition in their order.
abbrev pub Fields : Type 0
Fields = ℕ × (ℕ × (List ℕ × (List RowValue × List Change)))

-- 1; the serial, the moment, the cut, the rows, and the changes.
abbrev pub edition_fields : StandingValue → Form Fields
edition_fields before =
    marked 1 (both number_64 (both number_64 (both (counted number_64)
    (both (counted (key_rows before.rows)) (counted (changes before.set))))))

abbrev pub edition_of : Fields → EditionValue
edition_of x = record {
  serial = x.0;
  moment = x.1.0;
  cut = x.1.1.0;
  rows = x.1.1.1.0;
  changes = x.1.1.1.1;
}

abbrev pub fields_of : EditionValue → Fields
fields_of edition =
    (edition.serial, (edition.moment, (edition.cut, (edition.rows, edition.changes))))

abbrev pub edition_told : StandingValue → Fields → Option EditionValue
edition_told before x = if may_follow before (edition_of x) then Some (edition_of x) else None

-- The record of an edition.
unfoldable pub editions : StandingValue → Form EditionValue
editions before = through (edition_fields before) (edition_told before) fields_of
