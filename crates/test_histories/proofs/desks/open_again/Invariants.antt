use Rattle.std.proofs.Common.{◌≡◌, ◌++◌, List, length}
use Rattle.disk_api.specs.declared.memory.MemoryDisk.{MemoryDisk}
use Rattle.desk_core.specs.View.{View}
use Rattle.test_histories.specs.Told.{lists_of}
use Rattle.test_histories.specs.Standing.{AreOpenedAgain}
use Rattle.test_histories.proofs.desks.open_again.Given as goal

abbrev pub invariant-loop-number : goal.invariant-loop-number
invariant-loop-number l = (before : List (View MemoryDisk))
    × (l.fn.desks.items ≡ before ++ l.closing.items)
    × (length before ≡ l.number)
    × AreOpenedAgain 0 before l.opened.items (lists_of l.lists)
