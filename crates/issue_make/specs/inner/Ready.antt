-- The keys of an edition, and its objects before they are signed.
use Rattle.std.specs.Prelude.{◌≡◌, ◌≤◌, ℕ, List, map, take, drop, length, All}
use Rattle.key_roll.specs.declared.rows.KeyRow.{KeyRow}
use Rattle.issue_keys.specs.Keys.{id_of, kept_rows, AreFresh}
use Rattle.issue_keys.specs.Making.{AreApart}
use Rattle.issue_drafts.specs.WorkKeys.{keys_at}
use Rattle.issue_drafts.specs.IssueInput.{IssueInput}
use Rattle.issue_make.specs.inner.Naming.{CanName}
use Rattle.issue_make.specs.ObjectPlan.{IsObjectPlan}
use Rattle.issue_make.specs.CanMake.{CanMake}
use Rattle.issue_make.specs.declared.plans.ObjectPlan.{ObjectPlan}

-- The rows of an edition's keys, of which those from that number on were made.
pub record AreRows (s : IssueInput) (live rows : List KeyRow) (n : ℕ) : Type 0 where
  pub kept : take n rows ≡ kept_rows s.work live
  pub fresh : AreFresh s.work.new_keys (drop n rows)
  pub apart : AreApart (map id_of live) (drop n rows)

-- The keys of a work that can be made.
pub record AreReady (s : IssueInput) (live rows : List KeyRow) (n signers : ℕ) : Type 0 where
  pub work : CanMake s live signers
  pub are : AreRows s live rows n
  pub inside : n ≤ length rows
  pub named : All (λ row. CanName s.site row.name) s.names

-- The plan over them.
pub record IsReady (s : IssueInput) (live rows : List KeyRow) (n signers : ℕ) (plan : ObjectPlan)
    : Type 0 where
  pub ready : AreReady s live rows n signers
  pub is_plan : IsObjectPlan s (keys_at rows n) rows plan

-- Whichever the live keys are.
pub record AreSomehowReady (s : IssueInput) (rows : List KeyRow) (n signers : ℕ) : Type 0 where
  pub live : List KeyRow
  pub ready : AreReady s live rows n signers
