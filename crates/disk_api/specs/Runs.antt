-- Runs of a disk's calls: what a crash at any of their moments may leave, and calls that change nothing.
use Rattle.std.specs.Prelude.{◌≡◌, ◌⊎◌, ◌≤◌, ℕ, List}
use Rattle.disk_api.specs.Images.{Keeps}
use Rattle.disk_api.specs.declared.disk.Disk.{Ghosts as DiskGhosts}

-- A crash at any moment since old leaves a file that has P.
pub record LeavesOnly {D : Type 0} (disk_of : DiskGhosts D) (old new : D) (P : List ℕ → Type 0) : Type 0 where
  pub later : disk_of.moment old ≤ disk_of.moment new
  pub each : (c : List ℕ) → disk_of.left_since new (disk_of.moment old) c → P c
  -- for a run that began earlier
  pub before : (t : ℕ) (c : List ℕ) → t ≤ disk_of.moment old → disk_of.left_since new t c
      → disk_of.left_since old t c ⊎ P c

-- The calls since old changed neither what a read gives nor what a crash may leave.
pub record Rests {D : Type 0} (disk_of : DiskGhosts D) (old new : D) : Type 0 where
  pub content_stays : disk_of.content new ≡ disk_of.content old
  pub adds_none : Keeps (disk_of.may_leave new) (disk_of.may_leave old)
  pub drops_none : Keeps (disk_of.may_leave old) (disk_of.may_leave new)
  pub time : LeavesOnly disk_of old new (disk_of.may_leave old)
