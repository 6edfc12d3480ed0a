-- The keys of an edition (RFC 6489 section 2).
use Rattle.std.specs.Prelude.{◌≡◌, ℕ, Bool, not, List, [], ◌∷◌, map, filter, find}
use Rattle.std.specs.Prelude.{Option, None, Some, IsPermutation, length}
use Rattle.std.specs.List.{list_any}
use Rattle.std.specs.Str.{bytes_eq}
use Rattle.std.specs.List.Sorted.{IsSortedByKey, IsStableByKey}
use Rattle.std.specs.Ordering.{nat_cmp}
use Rattle.sha1.specs.Sha1.{sha1}
use Rattle.key_ids.specs.declared.identifier.KeyId.{KeyId}
use Rattle.signer_api.specs.declared.values.PublicKey.{PublicKey}
use Rattle.key_roll.specs.declared.rows.KeyRow.{KeyRow}
use Rattle.key_roll.specs.declared.work.Work.{Work}
use Rattle.key_roll.specs.declared.work.NewKey.{NewKey}
use Rattle.key_roll.specs.declared.work.RoleWork.{RoleWork}

-- The identifier of a key (RFC 6487 section 4.8.2).
abbrev pub id_of : KeyRow → List ℕ
id_of row = sha1 row.key.bytes

-- ---- the keys that stay

abbrev pub is_dropped : List KeyId → KeyRow → Bool
is_dropped ids row = list_any (λ id. bytes_eq id.bytes (id_of row)) ids

-- A row with what the work says of its key.
abbrev pub with_role : KeyRow → Option RoleWork → KeyRow
with_role row None = row
with_role row (Some r) = record row { role = r.role; since = r.since; done = r.done }

abbrev pub role_of : List RoleWork → KeyRow → Option RoleWork
role_of roles row = find (λ r. bytes_eq r.key.bytes (id_of row)) roles

abbrev pub kept_rows : Work → List KeyRow → List KeyRow
kept_rows work rows =
    map (λ row. with_role row (role_of work.roles row))
    (filter (λ row. not (is_dropped work.dropped row)) rows)

-- ---- the keys that are made

-- The row of a key that was made: it has no history.
abbrev pub fresh_row : NewKey → PublicKey → KeyRow
fresh_row new key = record {
  desk = new.desk;
  signer = new.signer;
  role = new.role;
  key = key;
  next_serial = 1;
  number = 0;
  this_update = 0;
  since = new.since;
  done = new.done;
  revoked = [];
}

abbrev pub fresh_rows : List NewKey → List PublicKey → List KeyRow
fresh_rows [] keys = []
fresh_rows (new ∷ news) [] = []
fresh_rows (new ∷ news) (key ∷ keys) = fresh_row new key ∷ fresh_rows news keys

-- The new keys by their desks, those of one desk as they stand.
pub record AreByDesk (news ordered : List NewKey) : Type 0 where
  pub permutation : IsPermutation news ordered
  pub sorted : IsSortedByKey (λ n. n.desk) nat_cmp ordered
  pub stable : IsStableByKey (λ n. n.desk) nat_cmp news ordered

-- Rows for the first of the new keys, by desk, each with a key that was made for it.
pub record AreBegun (new_keys : List NewKey) (made : List KeyRow) : Type 0 where
  pub news : List NewKey
  pub keys : List PublicKey
  pub by_desk : AreByDesk new_keys news
  pub rows : made ≡ fresh_rows news keys

-- Rows for all of them.
pub record AreFresh (new_keys : List NewKey) (fresh : List KeyRow) : Type 0 where
  pub news : List NewKey
  pub keys : List PublicKey
  pub by_desk : AreByDesk new_keys news
  pub rows : fresh ≡ fresh_rows news keys
  pub each : length keys ≡ length news
