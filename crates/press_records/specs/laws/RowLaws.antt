-- The laws of rows.
use Rattle.std.proofs.Common.{◌≡◌, ℕ, ◌+◌, ◌≤◌, Bool, true, false, cond, eqb, List, ◌++◌, length, Some, None, refl, sym, ap, ◌∙◌, arith}
use Rattle.std.proofs.lemmas.Bool.{eqb-true}
use Rattle.std.proofs.lemmas.List.{length-append}
use Rattle.key_roll.specs.declared.rows.Role.{Role}
use Rattle.key_roll.specs.declared.rows.Role.TheVariants.{New, Current, Old}
use Rattle.key_roll.specs.declared.rows.RevokedRow.{RevokedRow}
use Rattle.record_forms.specs.Form.{Form, IsForm}
use Rattle.record_forms.specs.Forms.{bytes_32, bytes_64, both, plain, number_8, number_32, number_64, counted}
use Rattle.record_forms.specs.laws.ByteLaws.{some-of, same-some, bind-some, passed, length-bytes_32, length-bytes_64, plain-law, number_8-law, number_32-law, number_64-law}
use Rattle.record_forms.specs.laws.FormLaws.{both-law, through-law}
use Rattle.record_forms.specs.laws.ListLaws.{HasBytes, counted-law}
use Rattle.press_records.specs.Rows.{RowValue, carried_by, added, merged, rise, role_byte, role_of, roles, is_key, key_in, keys, entry_of, numbers_of, revoked_rows, row_names, row_counts, RawRow, raw_rows, key_told, this_update_told, added_told, row_with, revoked_by, row_told, row_raw, key_rows}
use Rattle.press_records.specs.laws.EntryLaws.{added-found}

role-back : (x : ℕ) (y : Role) → role_of x ≡ Some y → role_byte y ≡ x
role-back x y e = go (eqb x 0) (eqb x 1) (eqb x 2) refl refl refl e
  where
    go : (a b c : Bool) → eqb x 0 ≡ a → eqb x 1 ≡ b → eqb x 2 ≡ c
        → cond a (some-of New) (cond b (some-of Current) (cond c (some-of Old) None)) ≡ some-of y → role_byte y ≡ x
    go true b c p q r h = ap role_byte (sym (same-some New y h)) ∙ sym (eqb-true x 0 p)
    go false true c p q r h = ap role_byte (sym (same-some Current y h)) ∙ sym (eqb-true x 1 q)
    go false false true p q r h = ap role_byte (sym (same-some Old y h)) ∙ sym (eqb-true x 2 r)
    go false false false p q r h = absurd cc

pub roles-law : IsForm roles
roles-law = through-law number_8 role_of role_byte role-back number_8-law

pub keys-law : IsForm keys
keys-law = through-law (plain 270) key_in (λ bytes. bytes) (λ x y e. sym (passed (is_key x) x y e).1) (plain-law 270)

abbrev three : Form (ℕ × (ℕ × ℕ))
three = both number_64 (both number_64 number_64)

three-law : IsForm three
three-law = both-law number_64 (both number_64 number_64) number_64-law (both-law number_64 number_64 number_64-law number_64-law)

pub revoked_rows-law : IsForm revoked_rows
revoked_rows-law = through-law three entry_of numbers_of (λ x y e. ap numbers_of (sym (same-some _ y e))) three-law

pub entry-bytes : HasBytes revoked_rows
entry-bytes x =
    let n = bytes_64 x.serial in
    let more = bytes_64 x.not_after ++ bytes_64 x.revoked_at in
    omega (arith, length-append n more, length-bytes_64 x.serial)

pub row_names-law : IsForm row_names
row_names-law =
    both-law number_32 (both number_32 (both roles keys)) number_32-law
    (both-law number_32 (both roles keys) number_32-law (both-law roles keys roles-law keys-law))

pub row_counts-law : IsForm row_counts
row_counts-law =
    both-law number_64 (both number_64 (both number_64 (both number_64 number_32))) number_64-law
    (both-law number_64 (both number_64 (both number_64 number_32)) number_64-law
    (both-law number_64 (both number_64 number_32) number_64-law (both-law number_64 number_32 number_64-law number_32-law)))

pub raw_rows-law : IsForm raw_rows
raw_rows-law =
    both-law row_names (both row_counts (counted revoked_rows)) row_names-law
    (both-law row_counts (counted revoked_rows) row_counts-law (counted-law revoked_rows revoked_rows-law entry-bytes))

-- What a row is read from is what is written of it.
row-back : (before : List RowValue) (raw : RawRow) (y : RowValue) → row_told before raw ≡ Some y → row_raw before y ≡ raw
row-back before raw y e =
    let known = carried_by before (key_told raw) (this_update_told raw) in
    let a = bind-some (revoked_by before (key_told raw) (this_update_told raw) (added_told raw)) (λ revoked. Some (row_with raw revoked)) y e in
    let p = passed (rise (merged known (added_told raw))) (merged known (added_told raw)) a.0 a.1 in
    let is : row_with raw a.0 ≡ y = same-some (row_with raw a.0) y a.2 in
    let rest : added a.0 known ≡ added_told raw = ap (λ (l : List RevokedRow). added l known) (sym p.1) ∙ added-found known (added_told raw) p.0 in
    ap (row_raw before) (sym is) ∙ ap (λ (l : List RevokedRow). (raw.0, (raw.1.0, l))) rest

pub key_rows-law : (before : List RowValue) → IsForm (key_rows before)
unfolding key_rows
key_rows-law before = through-law raw_rows (row_told before) (row_raw before) (row-back before) raw_rows-law

raw-bytes : (raw : RawRow) → 1 ≤ length (raw_rows.spelling raw)
raw-bytes raw =
    let more = row_counts.spelling raw.1.0 ++ (counted revoked_rows).spelling raw.1.1 in
    let rest = (both number_32 (both roles keys)).spelling raw.0.1 in
    let whole : length (raw_rows.spelling raw) ≡ length (row_names.spelling raw.0) + length more = length-append (row_names.spelling raw.0) more in
    let first : length (row_names.spelling raw.0) ≡ length (bytes_32 raw.0.0) + length rest = length-append (bytes_32 raw.0.0) rest in
    omega (arith, whole, first, length-bytes_32 raw.0.0)

pub key_rows-bytes : (before : List RowValue) → HasBytes (key_rows before)
unfolding key_rows
key_rows-bytes before x = raw-bytes (row_raw before x)
