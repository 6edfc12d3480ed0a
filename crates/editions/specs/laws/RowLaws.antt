-- Laws of the rows of keys: what the making of an edition leaves of them.
use Rattle.std.proofs.Common.{◌≡◌, ◌+◌, Bool, true, false, cond, refl}
use Rattle.key_roll.specs.declared.rows.KeyRow.{KeyRow}
use Rattle.key_roll.specs.declared.rows.Role.{Role}
use Rattle.key_roll.specs.declared.rows.Role.TheVariants.{New, Current, Old}
use Rattle.key_roll.specs.Roles.{is_role}
use Rattle.issue_keys.specs.Keys.{id_of}
use Rattle.issue_drafts.specs.IssueInput.{IssueInput}
use Rattle.issue_drafts.specs.Drafts.{serial_behind}
use Rattle.issue_drafts.specs.Revoking.{has_point}
use Rattle.issue_make.specs.Trace.{IssuingTrace, all_of, row_after}
use Rattle.editions.specs.inner.PlanAndTable.{KeepsUri}

pub role-is : (role wanted : Role) → is_role role wanted ≡ true → role ≡ wanted
role-is New New e = refl
role-is New Current e = absurd cc
role-is New Old e = absurd cc
role-is Current New e = absurd cc
role-is Current Current e = refl
role-is Current Old e = absurd cc
role-is Old New e = absurd cc
role-is Old Current e = absurd cc
role-is Old Old e = refl

module _ (s : IssueInput) (trace : IssuingTrace) where
  -- What becomes of a key's row, as it has a point of the edition or not.
  abbrev pub either_row : KeyRow → Bool → KeyRow
  either_row key b = cond b
      (record key {
        next_serial = serial_behind (all_of s trace) key + 1;
        number = key.number + 1;
        this_update = s.work.moment;
        revoked = trace.entries key;
      })
      (record key {
        next_serial = serial_behind (all_of s trace) key;
        revoked = trace.entries key;
      })

  -- Its desk, its role and its key stay.
  pub keeps : KeepsUri (row_after s trace)
  keeps = record {
    desk = λ key. desk-by key (has_point s trace.keys key);
    role = λ key. role-by key (has_point s trace.keys key);
    key = λ key. id-by key (has_point s trace.keys key);
  }
    where
      desk-by : (key : KeyRow) (b : Bool) → (either_row key b).desk ≡ key.desk
      desk-by key true = refl
      desk-by key false = refl

      role-by : (key : KeyRow) (b : Bool) → (either_row key b).role ≡ key.role
      role-by key true = refl
      role-by key false = refl

      id-by : (key : KeyRow) (b : Bool) → id_of (either_row key b) ≡ id_of key
      id-by key true = refl
      id-by key false = refl
