-- The editions that were found when a store was opened.
use Rattle.std.specs.Prelude.{◌≡◌, ℕ, List, IfSome, length}
use Rattle.authority_book.specs.declared.commands.Command.{Command}
use Rattle.editions.specs.Edition.{Edition}
use Rattle.rrdp_state.specs.Editions.{objects_of}
use Rattle.rrdp_state.specs.State.{StandsFor}
use Rattle.press_core.specs.Stands.{IsLeftBy}
use Rattle.press_core.specs.Files.{rrdp_editions, repository_at}
use Rattle.press_core.specs.JournalRecords.{AreRecords, store_for}
use Rattle.manager.specs.Named.{Named}
use Rattle.manager.specs.Lists.{AreListsOf}

-- What stands is what these editions leave, over whatever commands the records found are of; the RRDP
-- files that are kept are theirs, and so are the records of the press's journal, where its disk tells.
-- Where it doesn't, nothing tells which editions these are: what is said of them is said of any.
pub record AreFound (named : Named) (editions : List Edition) : Type 0 where
  pub count : named.at.serial ≡ length editions
  pub left : (lists : List (List Command))
      → AreListsOf (length named.signers) 0 lists named.records → IsLeftBy lists editions named.at
  pub files : StandsFor (repository_at named.session named.site) (rrdp_editions editions) named.kept
  pub set : named.at.set ≡ objects_of (rrdp_editions editions)
  pub records : IfSome named.journal (AreRecords (store_for named.session named.site) editions)
