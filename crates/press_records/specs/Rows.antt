-- The row of a key in the record of an edition, over the keys of the edition before it.
use Rattle.std.specs.Prelude.{◌≡◌, ◌⊎◌, ⊤, ℕ, ◌==◌, Bool, true, ◌&&◌, nat_le, nat_lt, List, [], ◌∷◌, filter, find}
use Rattle.std.specs.Prelude.{take, drop, slice_index}
use Rattle.std.specs.Prelude.{Option, Some, None, if◌then◌else◌}
use Rattle.std.specs.Str.{bytes_eq}
use Rattle.key_roll.specs.declared.rows.Role.{Role}
use Rattle.key_roll.specs.declared.rows.Role.TheVariants.{New, Current, Old}
use Rattle.key_roll.specs.declared.rows.KeyRow.{KeyRow}
use Rattle.key_roll.specs.declared.rows.RevokedRow.{RevokedRow}
use Rattle.record_forms.specs.Form.{Form}
use Rattle.signer_api.specs.PublicKey.{key_header, key_exponent}
use Rattle.record_forms.specs.Forms.{◌>>=◌, both, through, plain, number_8, number_32, number_64, counted}

-- ---- a key, as a record has it

-- What a row says, with the bytes of its key.
pub record RowValue : Type 0 where
  pub desk : ℕ
  pub signer : ℕ
  pub role : Role
  pub key : List ℕ
  pub next_serial : ℕ
  pub number : ℕ
  pub this_update : ℕ
  pub since : ℕ
  pub done : ℕ
  pub revoked : List RevokedRow

abbrev pub row_value : KeyRow → RowValue
row_value row = record {
  desk = row.desk;
  signer = row.signer;
  role = row.role;
  key = row.key.bytes;
  next_serial = row.next_serial;
  number = row.number;
  this_update = row.this_update;
  since = row.since;
  done = row.done;
  revoked = row.revoked;
}

-- ---- the entries of its CRL

abbrev pub row_of_key : List RowValue → List ℕ → Option RowValue
row_of_key rows key = find (λ row. bytes_eq row.key key) rows

-- The entries of certificates that hadn't ended by that time.
abbrev pub lasting : ℕ → List RevokedRow → List RevokedRow
lasting time entries = filter (λ entry. nat_le time entry.not_after) entries

-- The entries of a key's CRL that its next one, of that time, has too: all of them where no CRL was
-- issued since, and else those of certificates that hadn't ended by the last one.
abbrev pub carried : Option RowValue → ℕ → List RevokedRow
carried None this_update = []
carried (Some old) this_update =
    if this_update == old.this_update then old.revoked
    else lasting old.this_update old.revoked

-- The entries without those carried on, which are among them in their order.
abbrev pub added : List RevokedRow → List RevokedRow → List RevokedRow
added [] carried = []
added (entry ∷ entries) [] = entry ∷ added entries []
added (entry ∷ entries) (known ∷ carried) =
    if known.serial == entry.serial then added entries carried
    else entry ∷ added entries (known ∷ carried)

-- Two lists by serial as one: an entry stands behind those of the others that aren't above it.
abbrev pub put_in : RevokedRow → (List RevokedRow → List RevokedRow) → List RevokedRow
    → List RevokedRow
put_in entry rest [] = entry ∷ rest []
put_in entry rest (other ∷ others) =
    if nat_le other.serial entry.serial then other ∷ put_in entry rest others
    else entry ∷ rest (other ∷ others)

abbrev pub merged : List RevokedRow → List RevokedRow → List RevokedRow
merged [] others = others
merged (entry ∷ entries) others = put_in entry (merged entries) others

-- Each serial is above the one before it.
abbrev pub rise_behind : ℕ → List RevokedRow → Bool
rise_behind serial [] = true
rise_behind serial (entry ∷ entries) = nat_lt serial entry.serial && rise_behind entry.serial entries

abbrev pub rise : List RevokedRow → Bool
rise [] = true
rise (entry ∷ entries) = rise_behind entry.serial entries

-- The first entries are among the others, in their order.
abbrev pub IsPart : List RevokedRow → List RevokedRow → Type 0
IsPart [] entries = ⊤
IsPart (known ∷ carried) [] = ⊥
IsPart (known ∷ carried) (entry ∷ entries) =
    ((known ≡ entry) × IsPart carried entries) ⊎ IsPart (known ∷ carried) entries

-- ---- its form

-- The role as a byte.
abbrev pub role_byte : Role → ℕ
role_byte New = 0
role_byte Current = 1
role_byte Old = 2

abbrev pub role_of : ℕ → Option Role
role_of n =
    if n == 0 then Some New
    else if n == 1 then Some Current
    else if n == 2 then Some Old
    else None

abbrev pub roles : Form Role
roles = through number_8 role_of role_byte

-- An RSA key of 2,048 bits with the exponent 65,537 (RFC 7935 section 3).
abbrev pub is_key : List ℕ → Bool
is_key bytes =
    bytes_eq (take 9 bytes) key_header && nat_le 128 (slice_index bytes 9)
    && bytes_eq (drop 265 bytes) key_exponent

abbrev pub key_in : List ℕ → Option (List ℕ)
key_in bytes = if is_key bytes then Some bytes else None

abbrev pub keys : Form (List ℕ)
keys = through (plain 270) key_in (λ bytes. bytes)

-- An entry of a CRL: its serial, its notAfter, and when it was revoked.
abbrev pub entry_of : ℕ × (ℕ × ℕ) → Option RevokedRow
entry_of x = Some (record { serial = x.0; not_after = x.1.0; revoked_at = x.1.1 })

abbrev pub numbers_of : RevokedRow → ℕ × (ℕ × ℕ)
numbers_of entry = (entry.serial, (entry.not_after, entry.revoked_at))

abbrev pub revoked_rows : Form RevokedRow
revoked_rows = through (both number_64 (both number_64 number_64)) entry_of numbers_of

-- Whose key it is: the desk, the signer, the role, the key.
abbrev pub RowName : Type 0
RowName = ℕ × (ℕ × (Role × List ℕ))

abbrev pub row_names : Form RowName
row_names = both number_32 (both number_32 (both roles keys))

-- The next serial, the number, the thisUpdate, and the stage: since and done.
abbrev pub RowCounts : Type 0
RowCounts = ℕ × (ℕ × (ℕ × (ℕ × ℕ)))

abbrev pub row_counts : Form RowCounts
row_counts = both number_64 (both number_64 (both number_64 (both number_64 number_32)))

-- What a record tells of a key: its name, its counts, and the entries of its CRL that were added.
abbrev pub RawRow : Type 0
RawRow = RowName × (RowCounts × List RevokedRow)

abbrev pub raw_rows : Form RawRow
raw_rows = both row_names (both row_counts (counted revoked_rows))

abbrev pub key_told : RawRow → List ℕ
key_told raw = raw.0.1.1.1

abbrev pub this_update_told : RawRow → ℕ
this_update_told raw = raw.1.0.1.1.0

abbrev pub added_told : RawRow → List RevokedRow
added_told raw = raw.1.1

abbrev pub row_with : RawRow → List RevokedRow → RowValue
row_with raw revoked = record {
  desk = raw.0.0;
  signer = raw.0.1.0;
  role = raw.0.1.1.0;
  key = key_told raw;
  next_serial = raw.1.0.0;
  number = raw.1.0.1.0;
  this_update = this_update_told raw;
  since = raw.1.0.1.1.1.0;
  done = raw.1.0.1.1.1.1;
  revoked = revoked;
}

-- What the key's CRL goes on with.
abbrev pub carried_by : List RowValue → List ℕ → ℕ → List RevokedRow
carried_by before key this_update = carried (row_of_key before key) this_update

-- The entries, if their serials rise.
abbrev pub risen : List RevokedRow → Option (List RevokedRow)
risen entries = if rise entries then Some entries else None

abbrev pub revoked_by : List RowValue → List ℕ → ℕ → List RevokedRow → Option (List RevokedRow)
revoked_by before key this_update added = risen (merged (carried_by before key this_update) added)

abbrev pub row_told : List RowValue → RawRow → Option RowValue
row_told before raw =
    revoked_by before (key_told raw) (this_update_told raw) (added_told raw)
    >>= (λ revoked. Some (row_with raw revoked))

abbrev pub row_raw : List RowValue → RowValue → RawRow
row_raw before row = (
  (row.desk, (row.signer, (row.role, row.key))),
  (
    (row.next_serial, (row.number, (row.this_update, (row.since, row.done)))),
    added row.revoked (carried_by before row.key row.this_update),
  ),
)

-- A row: of the entries of its CRL only those that are added are written.
unfoldable pub key_rows : List RowValue → Form RowValue
key_rows before = through raw_rows (row_told before) (row_raw before)
