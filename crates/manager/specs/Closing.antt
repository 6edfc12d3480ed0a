-- What the press's disk holds once no other thread has the press.
use Rattle.std.specs.Prelude.{ℕ, List, Option, None, Some, IfSome, IsSome}
use Rattle.disk_api.specs.declared.disk.Disk.{Ghosts as DiskGhosts}
use Rattle.outlet_api.specs.declared.outlet.Outlet.{Ghosts as OutletGhosts}
use Rattle.authority_book.specs.declared.commands.Command.{Command}
use Rattle.signer_api.specs.State.{SignerState}
use Rattle.signer_ring.specs.Calls.{Call}
use Rattle.editions.specs.Edition.{Edition}
use Rattle.editions.specs.PublishedState.{PublishedStateValue}
use Rattle.press_records.specs.Store.{Store}
use Rattle.press_core.specs.Follows.{edition_of}
use Rattle.press_core.specs.JournalRecords.{Finds, FindsOrWith, store_for}
use Rattle.manager.specs.Named.{Named}
use Rattle.manager.specs.Found.{AreFound}
use Rattle.manager.specs.Locked.{LockedValue, IsInDoubt, IsLocked, all_of}
use Rattle.manager.specs.Run.{Stood}

-- The edition whose record is in doubt, if one is.
abbrev pub doubted_edition : (named : Named) (editions : List Edition) (lists : List (List Command))
    (run : List Stood) (calls : List Call) (ring : List SignerState) (at : PublishedStateValue)
    (doubt : Option (List ℕ)) → IfSome doubt (IsInDoubt named editions lists run calls ring at)
    → Option Edition
doubted_edition named editions lists run calls ring at None is = None
doubted_edition named editions lists run calls ring at (Some entry) is = Some (edition_of is.prepared)

-- Opening the file finds these editions; or these, with the one in doubt, where one is.
abbrev pub FindsInDoubt : Store → List Edition → Option Edition → List ℕ → Type 0
FindsInDoubt store editions None file = Finds store editions file
FindsInDoubt store editions (Some edition) file = FindsOrWith store editions edition file

-- Behind these editions, where they were found: opening the file finds all of them; or these, with the one
-- that the press's journal has in doubt.
abbrev pub FindsBehind : {D O : Type 0} (outlet_of : OutletGhosts O) (named : Named)
    (locked : LockedValue D O) → IsLocked outlet_of named locked → List ℕ → List Edition → Type 0
FindsBehind outlet_of named locked is file editions = (found : AreFound named editions)
    → FindsInDoubt (store_for named.session named.site) (all_of editions is.run)
    (doubted_edition named editions is.lists is.run is.calls locked.press.press.ring
    locked.press.press.at locked.press.journal.doubt (is.each editions found).doubt) file

-- So behind whatever editions were found.
abbrev pub FindsAll : {D O : Type 0} (outlet_of : OutletGhosts O) (named : Named)
    (locked : LockedValue D O) → IsLocked outlet_of named locked → List ℕ → Type 0
FindsAll outlet_of named locked is file =
    (editions : List Edition) → FindsBehind outlet_of named locked is file editions

-- So of what the disk holds and of what a crash may leave there, where the disk tells; and there the
-- press's journal knows its records. No edition that is found takes in a command that isn't among those
-- which the followers have seen.
pub record IsClosed {D O : Type 0} (disk_of : DiskGhosts D) (outlet_of : OutletGhosts O)
    (named : Named) (locked : LockedValue D O) : Type 0 where
  pub is : IsLocked outlet_of named locked
  pub known : IfSome (disk_of.content locked.press.journal.disk)
      (λ _. IsSome locked.press.journal.records)
  pub bytes : IfSome (disk_of.content locked.press.journal.disk)
      (FindsAll outlet_of named locked is)
  pub images : (image : List ℕ) → disk_of.may_leave locked.press.journal.disk image
      → IfSome (disk_of.content locked.press.journal.disk)
      (λ bytes. FindsAll outlet_of named locked is image)
