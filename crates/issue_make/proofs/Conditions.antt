-- What the work says of an edition's keys, whichever are made for it.
use Rattle.std.proofs.Common.{◌≢◌, ℕ, ◌<◌, ◌^◌, Option, None, Some, List, [], ◌++◌, length, map, take, drop, lit<, refl, sym, ap, subst, ◌∙◌}
use Rattle.std.specs.List.{All, AllPairs}
use Rattle.std.specs.List.Sorted.{IsNonDecreasing}
use Rattle.std.proofs.lemmas.List.{take-append-drop}
use Rattle.std.proofs.lemmas.List.Elements.{All-append}
use Rattle.issue_values.specs.Bodies.{AreRevoked}
use Rattle.key_roll.specs.declared.rows.KeyRow.{KeyRow}
use Rattle.key_roll.specs.declared.work.RoleWork.{RoleWork}
use Rattle.issue_keys.specs.Keys.{id_of, with_role, kept_rows}
use Rattle.issue_drafts.specs.WorkKeys.{keys_at, Finds}
use Rattle.issue_drafts.specs.declared.key_finder.KeyFinder.{KeyFinder}
use Rattle.issue_drafts.specs.IssueInput.{IssueInput}
use Rattle.issue_make.specs.Trace.{AreKeys}
use Rattle.issue_drafts.specs.Drafts.{Draft}
use Rattle.issue_make.specs.ObjectPlan.{puts, CanPlanObjects}
use Rattle.issue_make.specs.CanMake.{CanMake}
pub use Rattle.issue_make.specs.inner.Ready.{AreRows}
use Rattle.issue_make.proofs.Planned.{front-pairs}
use Rattle.issue_make.proofs.KeyRows.{all-kept, all-fresh, desks-rise, keys-apart}

pub keys-are : (s : IssueInput) (live rows : List KeyRow) (n : ℕ) → AreRows s live rows n → AreKeys s live (keys_at rows n)
keys-are s live rows n are = record { kept = are.kept; fresh = are.fresh; apart = are.apart }

-- What holds of those that stay and of those that were made.
all-rows : (P : KeyRow → Type 0) (s : IssueInput) (live rows : List KeyRow) (n : ℕ) → AreRows s live rows n
    → All P (kept_rows s.work live) → All P (drop n rows) → All P rows
all-rows P s live rows n are kept fresh =
    subst (All P) (take-append-drop n rows)
    (All-append P (take n rows) (drop n rows) (subst (All P) (sym are.kept) kept) fresh)

pub names-of : (s : IssueInput) (live rows : List KeyRow) (n signers : ℕ) → CanMake s live signers → AreRows s live rows n
    → All (λ row. row.desk < length s.names) rows
names-of s live rows n signers work are =
    all-rows (λ row. row.desk < length s.names) s live rows n are work.desks
    (all-fresh (λ row. row.desk < length s.names) (λ new. new.desk < length s.names) s.work.new_keys (drop n rows)
    (λ new key less. less) are.fresh work.new_desks)

pub signers-of : (s : IssueInput) (live rows : List KeyRow) (n signers : ℕ) → CanMake s live signers → AreRows s live rows n
    → All (λ row. row.signer < signers) rows
signers-of s live rows n signers work are =
    all-rows (λ row. row.signer < signers) s live rows n are
    (all-kept (λ row. row.signer < signers) s.work live stays work.live_signers)
    (all-fresh (λ row. row.signer < signers) (λ new. new.signer < signers) s.work.new_keys (drop n rows)
    (λ new key less. less) are.fresh work.new_signers)
  where
    stays : (row : KeyRow) (r : Option RoleWork) → row.signer < signers → (with_role row r).signer < signers
    stays row None less = less
    stays row (Some r) less = less

pub serials-of : (s : IssueInput) (live rows : List KeyRow) (n signers : ℕ) → CanMake s live signers → AreRows s live rows n
    → All (λ row. row.next_serial < 2 ^ 62) rows
serials-of s live rows n signers work are =
    all-rows (λ row. row.next_serial < 2 ^ 62) s live rows n are
    (all-kept (λ row. row.next_serial < 2 ^ 62) s.work live stays work.serials)
    (all-fresh (λ row. row.next_serial < 2 ^ 62) (λ new. new.signer < signers) s.work.new_keys (drop n rows)
    (λ new key less. lit< tt) are.fresh work.new_signers)
  where
    stays : (row : KeyRow) (r : Option RoleWork) → row.next_serial < 2 ^ 62 → (with_role row r).next_serial < 2 ^ 62
    stays row None less = less
    stays row (Some r) less = less

pub numbers-of : (s : IssueInput) (live rows : List KeyRow) (n signers : ℕ) → CanMake s live signers → AreRows s live rows n
    → All (λ row. row.number < 2 ^ 62) rows
numbers-of s live rows n signers work are =
    all-rows (λ row. row.number < 2 ^ 62) s live rows n are
    (all-kept (λ row. row.number < 2 ^ 62) s.work live stays work.numbers)
    (all-fresh (λ row. row.number < 2 ^ 62) (λ new. new.signer < signers) s.work.new_keys (drop n rows)
    (λ new key less. lit< tt) are.fresh work.new_signers)
  where
    stays : (row : KeyRow) (r : Option RoleWork) → row.number < 2 ^ 62 → (with_role row r).number < 2 ^ 62
    stays row None less = less
    stays row (Some r) less = less

pub revoked-of : (s : IssueInput) (live rows : List KeyRow) (n signers : ℕ) → CanMake s live signers → AreRows s live rows n
    → All (λ row. AreRevoked s.work.moment row.revoked) rows
revoked-of s live rows n signers work are =
    all-rows (λ row. AreRevoked s.work.moment row.revoked) s live rows n are
    (all-kept (λ row. AreRevoked s.work.moment row.revoked) s.work live stays work.revoked)
    (all-fresh (λ row. AreRevoked s.work.moment row.revoked) (λ new. new.signer < signers) s.work.new_keys (drop n rows)
    (λ new key less. none) are.fresh work.new_signers)
  where
    stays : (row : KeyRow) (r : Option RoleWork) → AreRevoked s.work.moment row.revoked → AreRevoked s.work.moment (with_role row r).revoked
    stays row None is = is
    stays row (Some r) is = is

    none : AreRevoked s.work.moment []
    none = record { rising = refl; dated = tt }

pub rows-apart : (s : IssueInput) (live rows : List KeyRow) (n signers : ℕ) → CanMake s live signers → AreRows s live rows n
    → AllPairs (λ a b. id_of a ≢ id_of b) rows
rows-apart s live rows n signers work are =
    subst (λ (l : List KeyRow). AllPairs (λ a b. id_of a ≢ id_of b) l)
    (ap (λ (l : List KeyRow). l ++ drop n rows) (sym are.kept) ∙ take-append-drop n rows)
    (keys-apart s.work live (drop n rows) work.apart are.apart)

pub desks-of : (s : IssueInput) (live rows : List KeyRow) (n : ℕ) → AreRows s live rows n
    → IsNonDecreasing (map (λ row. row.desk) (drop n rows))
desks-of s live rows n are = desks-rise s.work.new_keys (drop n rows) are.fresh

-- So the objects of the work can be planned.
pub can-plan : (s : IssueInput) (live rows : List KeyRow) (n signers : ℕ) (finder : KeyFinder) → CanMake s live signers
    → AreRows s live rows n → Finds (keys_at rows n) finder → CanPlanObjects s (keys_at rows n) rows finder
can-plan s live rows n signers finder work are finds =
    let keys = keys_at rows n in
    let fits = work.fits keys (keys-are s live rows n are) in record {
      names = names-of s live rows n signers work are;
      finds = finds;
      once = front-pairs (λ a b. a ≢ b) (map (λ (d : Draft). d.uri) (puts s keys)) s.work.withdrawn fits.once;
      apart = rows-apart s live rows n signers work are;
      serials = serials-of s live rows n signers work are;
      moment = work.moment.from;
      revoked = revoked-of s live rows n signers work are;
      standing = work.standing;
    }
