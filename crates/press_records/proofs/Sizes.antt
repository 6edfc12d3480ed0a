-- How many bytes the parts of records take.
use Rattle.std.proofs.Common.{◌≡◌, ℕ, ◌+◌, List, [], ◌∷◌, ◌++◌, length, arith}
use Rattle.std.specs.List.{flat_map}
use Rattle.std.proofs.lemmas.List.{length-append}
use Rattle.key_roll.specs.declared.rows.RevokedRow.{RevokedRow}
use Rattle.pub_set.specs.declared.steps.Change.{Change}
use Rattle.record_forms.specs.Forms.{bytes_32, bytes_64, sized, counted}
use Rattle.record_forms.specs.laws.ByteLaws.{length-bytes_32, length-bytes_64}
use Rattle.press_records.specs.declared.rows.RawRow as code
use Rattle.press_records.specs.Rows.{revoked_rows, role_byte, row_names, row_counts, raw_rows}
use Rattle.press_records.specs.inner.Raw.{name_value, counts_value, raw_value, spelled_raw, spelled_change, written}

pub number_size : (n : ℕ) → length (bytes_64 n) ≡ 8
number_size n = length-bytes_64 n

pub entry_size : (row : RevokedRow) → length (revoked_rows.spelling row) ≡ 24
entry_size row =
    let a = bytes_64 row.serial in
    let b = bytes_64 row.not_after in
    let d = bytes_64 row.revoked_at in
    omega (arith, length-append a (b ++ d), length-append b d, length-bytes_64 row.serial, length-bytes_64 row.not_after, length-bytes_64 row.revoked_at)

pub sized_size : (bytes : List ℕ) → length (sized.spelling bytes) ≡ 4 + length bytes
sized_size bytes = omega (arith, length-append (bytes_32 (length bytes)) bytes, length-bytes_32 (length bytes))

pub put_size : (uri bytes : List ℕ) → length (1 ∷ sized.spelling uri ++ sized.spelling bytes) ≡ 1 + length (sized.spelling uri) + length (sized.spelling bytes)
put_size uri bytes = omega (arith, length-append (sized.spelling uri) (sized.spelling bytes))

pub withdrawal_size : (uri : List ℕ) → length (2 ∷ sized.spelling uri) ≡ 1 + length (sized.spelling uri)
withdrawal_size uri = omega arith

name_size : (raw : code.RawRow) → length (row_names.spelling (name_value raw.name)) ≡ 279
name_size raw =
    let n = raw.name in
    let a = bytes_32 n.desk in
    let b = bytes_32 n.signer in
    let d = role_byte n.role ∷ [] in
    omega (arith, length-append a (b ++ (d ++ n.key.bytes)), length-append b (d ++ n.key.bytes), length-append d n.key.bytes, length-bytes_32 n.desk, length-bytes_32 n.signer, n.key.spelled.whole)

counts_size : (raw : code.RawRow) → length (row_counts.spelling (counts_value raw.counts)) ≡ 36
counts_size raw =
    let k = raw.counts in
    let a = bytes_64 k.next_serial in
    let b = bytes_64 k.number in
    let d = bytes_64 k.this_update in
    let e = bytes_64 k.since in
    let f = bytes_32 k.done in
    omega (
      arith,
      length-append a (b ++ (d ++ (e ++ f))),
      length-append b (d ++ (e ++ f)),
      length-append d (e ++ f),
      length-append e f,
      length-bytes_64 k.next_serial,
      length-bytes_64 k.number,
      length-bytes_64 k.this_update,
      length-bytes_64 k.since,
      length-bytes_32 k.done,
    )

pub raw_size : (raw : code.RawRow) → length (raw_rows.spelling (raw_value raw)) ≡ 315 + length (bytes_32 (length raw.added) ++ flat_map revoked_rows.spelling raw.added)
raw_size raw =
    let a = row_names.spelling (name_value raw.name) in
    let b = row_counts.spelling (counts_value raw.counts) in
    let d = (counted revoked_rows).spelling raw.added in
    omega (arith, length-append a (b ++ d), length-append b d, name_size raw, counts_size raw)

pub written_size : (serial moment : ℕ) (cut : List ℕ) (rows : List code.RawRow) (changes : List Change)
    → length (written serial moment cut rows changes)
    ≡ 17 + length (bytes_32 (length cut) ++ flat_map bytes_64 cut) + length (bytes_32 (length rows) ++ flat_map spelled_raw rows)
    + length (bytes_32 (length changes) ++ flat_map spelled_change changes)
written_size serial moment cut rows changes =
    let s = bytes_64 serial in
    let m = bytes_64 moment in
    let a = bytes_32 (length cut) ++ flat_map bytes_64 cut in
    let b = bytes_32 (length rows) ++ flat_map spelled_raw rows in
    let d = bytes_32 (length changes) ++ flat_map spelled_change changes in
    omega (arith, length-append s (m ++ (a ++ (b ++ d))), length-append m (a ++ (b ++ d)), length-append a (b ++ d), length-append b d, length-bytes_64 serial, length-bytes_64 moment)
