-- Which editions have a record over what stood before them, said field by field.
use Rattle.std.specs.Prelude.{◌≡◌, ◌<◌, ◌^◌, true, List, length, Some}
use Rattle.std.specs.List.{AllByRecursion}
use Rattle.std.specs.Option.{option_map}
use Rattle.std.specs.Str.{is_utf8}
use Rattle.sha2.specs.Sha256.{sha256}
use Rattle.key_roll.specs.declared.rows.RevokedRow.{RevokedRow}
use Rattle.pub_set.specs.declared.steps.Change.{Change}
use Rattle.pub_set.specs.declared.steps.Change.TheVariants.{Put, Withdraw}
use Rattle.pub_set.specs.Changes.{Contents, uri_of}
use Rattle.press_records.specs.Rows.{RowValue, is_key, carried_by, added, merged, rise}
use Rattle.press_records.specs.Edition.{EditionValue, StandingValue, may_follow}

-- Numbers of 64 bits.
pub record IsEntry (entry : RevokedRow) : Type 0 where
  pub serial : entry.serial < 2 ^ 64
  pub not_after : entry.not_after < 2 ^ 64
  pub revoked_at : entry.revoked_at < 2 ^ 64

-- ---- what types say

-- Numbers of 32 and 64 bits.
pub record IsTypedRow (row : RowValue) : Type 0 where
  pub desk : row.desk < 2 ^ 32
  pub signer : row.signer < 2 ^ 32
  pub next_serial : row.next_serial < 2 ^ 64
  pub number : row.number < 2 ^ 64
  pub this_update : row.this_update < 2 ^ 64
  pub since : row.since < 2 ^ 64
  pub done : row.done < 2 ^ 32
  pub entries : AllByRecursion IsEntry row.revoked

-- Numbers that fit, and URIs in UTF-8.
pub record IsTyped (edition : EditionValue) : Type 0 where
  pub serial : edition.serial < 2 ^ 64
  pub moment : edition.moment < 2 ^ 64
  pub cut : AllByRecursion (λ n. n < 2 ^ 64) edition.cut
  pub rows : AllByRecursion IsTypedRow edition.rows
  pub uris : AllByRecursion (λ change. is_utf8 (uri_of change) ≡ true) edition.changes

-- ---- which can be recorded

-- Numbers that fit; a key of the one form; and entries by rising serial, which are those that the
-- key's last CRL carries on, with others between them.
pub record IsRowOver (before : List RowValue) (row : RowValue) : Type 0 where
  pub desk : row.desk < 2 ^ 32
  pub signer : row.signer < 2 ^ 32
  pub size : length row.key ≡ 270
  pub form : is_key row.key ≡ true
  pub next_serial : row.next_serial < 2 ^ 64
  pub number : row.number < 2 ^ 64
  pub this_update : row.this_update < 2 ^ 64
  pub since : row.since < 2 ^ 64
  pub done : row.done < 2 ^ 32
  pub entries : AllByRecursion IsEntry row.revoked
  pub rising : rise row.revoked ≡ true
  pub carried :
      merged (carried_by before row.key row.this_update)
      (added row.revoked (carried_by before row.key row.this_update))
      ≡ row.revoked

-- A URI in UTF-8, with the hash of what stands there.
abbrev pub IsChangeOver : Contents → Change → Type 0
IsChangeOver held (Put uri bytes replaces) =
    (is_utf8 uri ≡ true) × (replaces ≡ option_map sha256 (held uri))
IsChangeOver held (Withdraw uri hash) =
    (is_utf8 uri ≡ true) × (option_map sha256 (held uri) ≡ Some hash)

pub record IsRecordable (before : StandingValue) (edition : EditionValue) : Type 0 where
  pub serial : edition.serial < 2 ^ 64
  pub moment : edition.moment < 2 ^ 64
  pub cut : AllByRecursion (λ n. n < 2 ^ 64) edition.cut
  pub rows : AllByRecursion (IsRowOver before.rows) edition.rows
  pub changes : AllByRecursion (IsChangeOver before.set) edition.changes
  pub follows : may_follow before edition ≡ true
