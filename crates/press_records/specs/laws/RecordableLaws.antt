-- Editions that can be recorded are those that have a spelling.
use Rattle.std.proofs.Common.{◌≡◌, ℕ, Bool, true, false, cond, eqb, List, [], ◌∷◌, Some, None, refl, sym, ap}
use Rattle.std.specs.List.{AllByRecursion}
use Rattle.std.specs.Option.{option_map}
use Rattle.std.specs.Prelude.{Option}
use Rattle.sha2.specs.Sha256.{sha256}
use Rattle.key_roll.specs.declared.rows.Role.{Role}
use Rattle.key_roll.specs.declared.rows.Role.TheVariants.{New, Current, Old}
use Rattle.key_roll.specs.declared.rows.RevokedRow.{RevokedRow}
use Rattle.pub_set.specs.declared.steps.Change.{Change}
use Rattle.pub_set.specs.declared.steps.Change.TheVariants.{Put, Withdraw}
use Rattle.pub_set.specs.Changes.{Contents}
use Rattle.press_records.specs.Rows.{RowValue, roles, revoked_rows, carried_by, added, key_rows}
use Rattle.press_records.specs.Changes.{changes}
use Rattle.press_records.specs.Edition.{EditionValue, StandingValue, editions}
use Rattle.press_records.specs.Recordable.{IsEntry, IsRowOver, IsChangeOver, IsRecordable}

role-good : (role : Role) → roles.good role
role-good New = (tt, refl)
role-good Current = (tt, refl)
role-good Old = (tt, refl)

entry-good : (entry : RevokedRow) → IsEntry entry → revoked_rows.good entry
entry-good entry is = ((is.serial, (is.not_after, is.revoked_at)), refl)

-- What is added is among all.
added-all : {P Q : RevokedRow → Type 0} → ((entry : RevokedRow) → P entry → Q entry) → (entries carried : List RevokedRow)
    → AllByRecursion P entries → AllByRecursion Q (added entries carried)
added-all each [] carried all = tt
added-all each (entry ∷ entries) [] all = (each entry all.0, added-all each entries [] all.1)
added-all {P = P} {Q = Q} each (entry ∷ entries) (known ∷ carried) all =
    choose (eqb known.serial entry.serial) (added-all each entries carried all.1) (added-all each entries (known ∷ carried) all.1)
  where
    choose : (b : Bool) → AllByRecursion Q (added entries carried) → AllByRecursion Q (added entries (known ∷ carried))
        → AllByRecursion Q (cond b (added entries carried) (entry ∷ added entries (known ∷ carried)))
    choose true one other = one
    choose false one other = (each entry all.0, other)

row-good : (before : List RowValue) (row : RowValue) → IsRowOver before row → (key_rows before).good row
unfolding key_rows
row-good before row is = (
  (
    (is.desk, (is.signer, (role-good row.role, (is.size, rw is.form refl)))),
    (
      (is.next_serial, (is.number, (is.this_update, (is.since, is.done)))),
      added-all entry-good row.revoked (carried_by before row.key row.this_update) is.entries,
    ),
  ),
  rw (is.carried, is.rising) refl,
)

withdrawal-good : (uri hash : List ℕ) (there : Option (List ℕ)) → option_map sha256 there ≡ Some hash
    → option_map (λ bytes. Withdraw uri (sha256 bytes)) there ≡ Some (Withdraw uri hash)
withdrawal-good uri hash (Some bytes) e = ap (λ (h : Option (List ℕ)). option_map (λ x. Withdraw uri x) h) e
withdrawal-good uri hash None e = absurd cc

change-good : (held : Contents) (change : Change) → IsChangeOver held change → (changes held).good change
unfolding changes
change-good held (Put uri bytes replaces) is = (
  ((tt, rw is.0 refl), tt),
  ap (λ (r : Option (List ℕ)). Some (Put uri bytes r)) (sym is.1),
)
change-good held (Withdraw uri hash) is = ((tt, rw is.0 refl), withdrawal-good uri hash (held uri) is.1)

all-good : {A : Type 0} {P Q : A → Type 0} → ((x : A) → P x → Q x) → (xs : List A) → AllByRecursion P xs → AllByRecursion Q xs
all-good each [] all = tt
all-good each (x ∷ xs) all = (each x all.0, all-good each xs all.1)

pub recordable-good : (before : StandingValue) (edition : EditionValue) → IsRecordable before edition → (editions before).good edition
unfolding editions
recordable-good before edition is = (
  (is.serial, (is.moment, (is.cut, (all-good (row-good before.rows) edition.rows is.rows, all-good (change-good before.set) edition.changes is.changes)))),
  rw is.follows refl,
)
