-- Views of what is read of a row and what is written.
use Rattle.std.specs.Prelude.{ℕ, List, ◌∷◌, ◌++◌, length, map, Option, Some}
use Rattle.std.specs.List.{flat_map}
use Rattle.pub_set.specs.declared.steps.Change.{Change}
use Rattle.pub_set.specs.Changes.{Contents}
use Rattle.record_forms.specs.Form.{Form}
use Rattle.record_forms.specs.Forms.{◌>>=◌, both, counted, sized, number_64, bytes_32, bytes_64}
use Rattle.press_records.specs.Changes.{texts, raw_changes, change_raw, changes, put_over, withdrawn_over}
use Rattle.press_records.specs.Rows.{RowName, RowCounts, RawRow, RowValue, row_value, raw_rows, key_rows}
use Rattle.press_records.specs.Edition.{StandingValue}
use Rattle.press_records.specs.declared.edition.Lists.{Lists}
use Rattle.press_records.specs.declared.rows.RowName as names
use Rattle.press_records.specs.declared.rows.RowCounts as counters
use Rattle.press_records.specs.declared.rows.RawRow as code

abbrev pub name_value : names.RowName → RowName
name_value name = (name.desk, (name.signer, (name.role, name.key.bytes)))

abbrev pub counts_value : counters.RowCounts → RowCounts
counts_value counts =
    (counts.next_serial, (counts.number, (counts.this_update, (counts.since, counts.done))))

abbrev pub raw_value : code.RawRow → RawRow
raw_value raw = (name_value raw.name, (counts_value raw.counts, raw.added))

-- What is written of an edition.
abbrev pub spelled_raw : code.RawRow → List ℕ
spelled_raw raw = raw_rows.spelling (raw_value raw)

abbrev pub spelled_change : Change → List ℕ
spelled_change change = raw_changes.spelling (change_raw change)

abbrev pub spelled_lists : List ℕ → List code.RawRow → List Change → List ℕ
spelled_lists cut rows changes =
    (bytes_32 (length cut) ++ flat_map bytes_64 cut)
    ++ ((bytes_32 (length rows) ++ flat_map spelled_raw rows)
    ++ (bytes_32 (length changes) ++ flat_map spelled_change changes))

abbrev pub written : ℕ → ℕ → List ℕ → List code.RawRow → List Change → List ℕ
written serial moment cut rows changes =
    1 ∷ (bytes_64 serial ++ (bytes_64 moment ++ spelled_lists cut rows changes))

-- The lists of an edition.
abbrev pub edition_lists : StandingValue → Form (List ℕ × (List RowValue × List Change))
edition_lists before =
    both (counted number_64) (both (counted (key_rows before.rows)) (counted (changes before.set)))

abbrev pub lists_value : Lists → List ℕ × (List RowValue × List Change)
lists_value lists = (lists.cut, (map row_value lists.rows, lists.changes))

-- What is read behind the kind of a change.
abbrev pub read_put : Contents → List ℕ → Option (Change × List ℕ)
read_put held bytes = (both texts sized).read bytes >>= (λ x. Some (put_over held x.0, x.1))

abbrev pub read_withdrawal : Contents → List ℕ → Option (Change × List ℕ)
read_withdrawal held bytes =
    texts.read bytes >>= (λ x. withdrawn_over held x.0 >>= (λ y. Some (y, x.1)))
