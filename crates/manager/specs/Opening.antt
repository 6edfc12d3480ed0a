-- What is opened, before its press lies behind a lock.
use Rattle.std.specs.Prelude.{◌≡◌, ◌<◌, None, List, [], ◌∷◌, All, length, map}
use Rattle.outlet_api.specs.declared.outlet.Outlet.{Ghosts as OutletGhosts}
use Rattle.authority_book.specs.declared.commands.Command.{Command}
use Rattle.rp_rules.specs.Certificates.{Vouched}
use Rattle.editions.specs.Edition.{Edition}
use Rattle.editions.specs.PublishedState.{desks}
use Rattle.press_core.specs.Stands.{StandsFor}
use Rattle.press_core.specs.Exports.{ShowsEdition, ShowsLast}
use Rattle.press_core.specs.JournalRecords.{press_limit}
use Rattle.manager.specs.Named.{Named}
use Rattle.manager.specs.Lists.{AreSeen}
use Rattle.manager.specs.Found.{AreFound}
use Rattle.manager.specs.Run.{shown_at}
use Rattle.manager.specs.Locked.{LockedValue, premises_of, AreFoundSteps}

-- Behind these editions: the press stands for them where they follow one another; and the outlet shows
-- the last one, where it was exported in this run and that ended well.
pub record IsOpenedBehind {D O : Type 0} (outlet_of : OutletGhosts O) (named : Named)
    (lists : List (List Command)) (locked : LockedValue D O) (editions : List Edition)
    : Type 0 where
  pub stands : (vouched : Vouched) → AreFoundSteps named editions vouched
      → StandsFor (premises_of named lists vouched) editions locked.press.press.at
  pub shows : ShowsLast (ShowsEdition named.session named.site) editions
      locked.press.press.last_export (outlet_of.files locked.outlet)

-- The press stands behind whatever editions were found: nothing is asked of them. That they follow one
-- another is a premise of what is said of vouched signatures. The followers have seen the records that
-- were found, and the board shows what was found.
pub record IsOpened {D O : Type 0} (outlet_of : OutletGhosts O) (named : Named)
    (locked : LockedValue D O) : Type 0 where
  pub lists : List (List Command)
  pub seen : AreSeen (length named.signers) lists locked.seats
  pub records : map (λ seat. seat.seen) locked.seats ≡ named.records
  pub site : locked.press.press.site ≡ named.site
  pub session : locked.press.press.rrdp.session ≡ named.session
  pub ring : locked.press.press.ring ≡ named.signers
  pub at : locked.press.press.at ≡ named.at
  pub kept : locked.press.press.rrdp ≡ named.kept
  pub journal : locked.press.journal.records ≡ named.journal
  pub one_each : length locked.press.press.at.cut ≡ desks
  pub live_signers : All (λ row. row.signer < length named.signers) locked.press.press.at.rows
  pub editions : List Edition
  pub found : AreFound named editions
  pub each : (editions : List Edition) → AreFound named editions
      → IsOpenedBehind outlet_of named lists locked editions
  pub list : locked.board.list ≡ named.list
  pub shown : locked.board.shown ≡ shown_at named.at ∷ []
  pub outlet : outlet_of.files locked.outlet ≡ named.files
  pub limit : locked.press.journal.limit ≡ press_limit
  pub settled : locked.press.journal.doubt ≡ None
