-- Whether an audited set agrees with what is owed, and with the rows of the keys.
use Rattle.std.specs.Prelude.{◌≡◌, ◌⊎◌, ◌↔◌, ℕ, max, Bool, false, not, nat_lt, ◌==◌, List, [], ◌∷◌, ◌++◌, map, Option, None, Some, Contains, if◌then◌else◌}
use Rattle.std.specs.List.{list_any, fold}
use Rattle.std.specs.Str.{bytes_eq}
use Rattle.std.specs.Ordering.{is_lt}
use Rattle.origins.specs.declared.Origin.{Origin}
use Rattle.key_ids.specs.Uris.{Bases}
use Rattle.key_roll.specs.declared.rows.KeyRow.{KeyRow}
use Rattle.key_roll.specs.declared.rows.RevokedRow.{RevokedRow}
use Rattle.crl_obj.specs.declared.values.CrlEntry.{CrlEntry}
use Rattle.pub_set.specs.Objects.{uri_cmp}
use Rattle.authority_book.specs.Settings.{Settings}
use Rattle.entitle.specs.declared.trees.Owed.{Owed}
use Rattle.entitle.specs.Certified.{names_of}
use Rattle.rp_rules.specs.Views.{entry_of}
use Rattle.rp_rules.specs.Yield.{PointValue, Yielded}
use Rattle.issue_plan.specs.Uris.{roa_file}
use Rattle.editions.specs.Published.{yielded_for}

-- ---- origins

-- What is owed, as a walk yields it: with the folder of its authority.
abbrev pub owed_yield : Bases → List Settings → List Owed → List Yielded
owed_yield site configs owed = map (yielded_for site (names_of configs)) owed

-- The ROA of what is yielded stands at that URI: a file of that folder, of the name that its origin
-- has.
pub record IsRoaUri (yielded : Yielded) (uri : List ℕ) : Type 0 where
  pub origin : Origin
  pub asn : yielded.asn ≡ origin.asn
  pub entry : yielded.entry ≡ entry_of origin
  pub is : uri ≡ yielded.folder ++ roa_file origin

-- Owed and not yielded, or yielded and not owed.
abbrev pub IsInOne : List Yielded → List Yielded → Yielded → Type 0
IsInOne owed yielded one = (Contains owed one × ¬ Contains yielded one)
    ⊎ (Contains yielded one × ¬ Contains owed one)

-- The least URI of a ROA that is owed and not yielded, or yielded and not owed.
pub record IsOtherOrigin (owed yielded : List Yielded) (uri : List ℕ) : Type 0 where
  pub one : Yielded
  pub in_one : IsInOne owed yielded one
  pub at : IsRoaUri one uri
  pub least : (other : Yielded) (place : List ℕ) → IsInOne owed yielded other
      → IsRoaUri other place → is_lt (uri_cmp place uri) ≡ false

-- The same are owed and yielded.
abbrev pub AreSameOrigins : List Yielded → List Yielded → Type 0
AreSameOrigins owed yielded = (one : Yielded) → Contains owed one ↔ Contains yielded one

-- ---- rows and points

-- A field that doesn't agree, with what the row keeps and what the point has.
pub record Mismatch : Type 0 where
  pub key : List ℕ
  pub field : ℕ
  pub kept : ℕ
  pub found : ℕ

abbrev pub mismatch : List ℕ → ℕ → ℕ → ℕ → Mismatch
mismatch key field kept found = record { key = key; field = field; kept = kept; found = found }

-- The serials of two lists side by side that differ first: 0 stands where a list has ended.
abbrev pub first_other : List RevokedRow → List CrlEntry → Option (ℕ × ℕ)
first_other [] [] = None
first_other [] (found ∷ rest) = Some (0, found.serial)
first_other (kept ∷ rows) [] = Some (kept.serial, 0)
first_other (kept ∷ rows) (found ∷ rest) =
    if kept.serial == found.serial then first_other rows rest
    else Some (kept.serial, found.serial)

abbrev pub crl_mismatch : List ℕ → Option (ℕ × ℕ) → Option Mismatch
crl_mismatch key None = None
crl_mismatch key (Some serials) = Some (mismatch key 3 serials.0 serials.1)

-- The greatest serial that is known of under the key: of the certificates that were found there, and
-- of those that its CRL lists.
abbrev pub greatest_known : PointValue → ℕ
greatest_known point =
    fold max point.greatest_serial (map (λ (entry : CrlEntry). entry.serial) point.crl)

-- Where a row and a point of its key differ, by the first of the fields that do: 0 the number, 1 the
-- thisUpdate of the CRL and then that of the manifest, 2 the next serial, which is to be above the
-- greatest that is known of, 3 the serials of the CRL.
abbrev pub differs : KeyRow → PointValue → Option Mismatch
differs row point =
    if not (row.number == point.number)
    then Some (mismatch row.key.bytes 0 row.number point.number)
    else if not (row.this_update == point.this_update)
    then Some (mismatch row.key.bytes 1 row.this_update point.this_update)
    else if not (row.this_update == point.manifest_update)
    then Some (mismatch row.key.bytes 1 row.this_update point.manifest_update)
    else if not (nat_lt (greatest_known point) row.next_serial)
    then Some (mismatch row.key.bytes 2 row.next_serial (greatest_known point))
    else crl_mismatch row.key.bytes (first_other row.revoked point.crl)

-- The first that is told of the items of a list.
abbrev pub or_else : {X : Type 0} → Option X → Option X → Option X
or_else (Some found) other = Some found
or_else None other = other

abbrev pub first_told : {X Y : Type 0} → (X → Option Y) → List X → Option Y
first_told told [] = None
first_told told (x ∷ xs) = or_else (told x) (first_told told xs)

abbrev pub differs_here : KeyRow → PointValue → Option Mismatch
differs_here row point = if bytes_eq point.key row.key.bytes then differs row point else None

-- Of a row: that its key has no point, or where it differs from the first of its key's points that
-- does, in the order of the walk.
abbrev pub has_point : List PointValue → KeyRow → Bool
has_point points row = list_any (λ point. bytes_eq point.key row.key.bytes) points

abbrev pub row_mismatch : List PointValue → KeyRow → Option Mismatch
row_mismatch points row =
    if has_point points row then first_told (differs_here row) points
    else Some (mismatch row.key.bytes 0 row.number 0)

-- Of a point: that its key has no row.
abbrev pub has_row : List KeyRow → PointValue → Bool
has_row rows point = list_any (λ row. bytes_eq row.key.bytes point.key) rows

abbrev pub point_mismatch : List KeyRow → PointValue → Option Mismatch
point_mismatch rows point =
    if has_row rows point then None else Some (mismatch point.key 0 0 point.number)

-- The first field that doesn't agree: of the rows by desk and role, and behind them of the points
-- without a row, in the order of the walk.
abbrev pub first_mismatch : List KeyRow → List PointValue → Option Mismatch
first_mismatch rows points =
    or_else (first_told (row_mismatch points) rows) (first_told (point_mismatch rows) points)
