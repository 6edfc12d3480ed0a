-- A press that was opened again.
use Rattle.std.specs.Prelude.{ℕ, List}
use Rattle.disk_api.specs.declared.memory.MemoryDisk.{MemoryDisk}
use Rattle.gate_journal.specs.View.{RecoversToInDoubt}
use Rattle.desk_core.specs.View.{View}
use Rattle.editions.specs.Edition.{Edition}
use Rattle.press_core.specs.Stored.{StoredValue}
use Rattle.test_histories.specs.Opened.{IsPressOpened}

-- It was opened behind these desks, over a file that a crash may leave of the old one's disk.
pub record IsPressAgain (desks : List (View MemoryDisk)) (old new : StoredValue MemoryDisk)
    : Type 0 where
  pub file : List ℕ
  pub left : RecoversToInDoubt old.journal.limit old.journal.records old.journal.doubt file
  pub editions : List Edition
  pub opened : IsPressOpened desks file editions new
