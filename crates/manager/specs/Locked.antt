-- What holds of the press behind its lock, whenever the lock is taken.
use Rattle.std.specs.Prelude.{◌≡◌, ◌⊎◌, ◌<◌, ℕ, true, List, [], ◌∷◌, ◌++◌, None, IfSome, All, length}
use Rattle.outlet_api.specs.declared.outlet.Outlet.{Ghosts as OutletGhosts}
use Rattle.authority_book.specs.declared.commands.Command.{Command}
use Rattle.commit_word.specs.Seats.{FollowerSeat}
use Rattle.signer_api.specs.State.{SignerState}
use Rattle.signer_ring.specs.Ring.{AllTell, Keeps, Vouched as VouchedBy}
use Rattle.signer_ring.specs.Calls.{Call}
use Rattle.rp_rules.specs.Certificates.{Vouched}
use Rattle.pub_set.specs.Objects.{content_at}
use Rattle.rrdp_state.specs.Exported.{Repository}
use Rattle.notice_board.specs.Seats.{BoardSeat}
use Rattle.editions.specs.Edition.{Edition}
use Rattle.editions.specs.Step.{Premises, AreSteps}
use Rattle.editions.specs.PlannedAndMade.{CanBeRead}
use Rattle.editions.specs.Published.{IsPublished}
use Rattle.editions.specs.PublishedState.{PublishedStateValue, desks}
use Rattle.editions.specs.VouchedCalls.{IsVouchedBy}
use Rattle.press_core.specs.Stands.{IsLeftBy, StandsFor}
use Rattle.press_core.specs.Next.{NextValue}
use Rattle.press_core.specs.Follows.{edition_of}
use Rattle.press_core.specs.Files.{HasFilesOf, repository_at}
use Rattle.press_core.specs.Exports.{IsCoherent, ShowsEdition, ShowsLast}
use Rattle.press_core.specs.JournalRecords.{IsRecordOf, press_limit}
use Rattle.press_core.specs.Stored.{StoredValue, HasRecordsOf}
use Rattle.manager.specs.Named.{Named}
use Rattle.manager.specs.Lists.{AreListsOf, AreSeen}
use Rattle.manager.specs.Found.{AreFound}
use Rattle.manager.specs.Limits.{FitsWhole, FitsWith}
use Rattle.manager.specs.Run.{Stood, editions_of, last_of, AreAfter, shown_in}

-- The press over its journal, a follower of each desk's word, the board on which editions are shown, and
-- the outlet.
pub record LockedValue (D O : Type 0) : Type 0 where
  pub press : StoredValue D
  pub seats : List FollowerSeat
  pub board : BoardSeat
  pub outlet : O

-- ---- what is said of vouched signatures

-- Over what editions are made: these commands of the desks, in this repository.
abbrev pub premises_of : Named → List (List Command) → Vouched → Premises
premises_of named lists vouched = record { lists = lists; site = named.site; vouched = vouched }

-- The editions that were found follow one another, over whatever commands the records found are of.
abbrev pub AreFoundSteps : Named → List Edition → Vouched → Type 0
AreFoundSteps named editions vouched = (found : List (List Command))
    → AreListsOf (length named.signers) 0 found named.records
    → AreSteps (premises_of named found vouched) editions

-- What one of the signers vouches for is vouched.
abbrev pub HasAllOf : Vouched → List SignerState → Type 0
HasAllOf vouched signers = (key digest signature : List ℕ)
    → VouchedBy signers key digest signature → vouched key digest signature ≡ true

-- Where the signers that were handed in all tell, those that they are now vouch for what they signed by
-- these calls.
abbrev pub AreTold : Named → List SignerState → List Call → Type 0
AreTold named ring calls = AllTell named.signers
    → (vouched : Vouched) → HasAllOf vouched ring → All (IsVouchedBy vouched) calls

-- ---- the editions of this run

-- Those that were found, and those of this run behind them.
abbrev pub all_of : List Edition → List Stood → List Edition
all_of editions run = editions ++ editions_of run

-- The set of each edition of this run is sound and yields what is owed.
abbrev pub ArePublished : Premises → List Stood → Type 0
ArePublished premises run =
    All (λ stood. IsPublished premises stood.edition (content_at stood.at.set)) run

-- Whatever is vouched: if what was signed for the editions of this run is, and the editions that were
-- found follow one another, then all do, and each of this run is sound.
pub record AreSound (named : Named) (editions : List Edition) (lists : List (List Command))
    (run : List Stood) (at : PublishedStateValue) (vouched : Vouched) : Type 0 where
  pub stands : StandsFor (premises_of named lists vouched) (all_of editions run) at
  pub published : ArePublished (premises_of named lists vouched) run

-- The editions of this run stand behind those that were found, over these commands. They were made by
-- the signers by these calls, and this stands after the last of them.
pub record AreMade (named : Named) (editions : List Edition) (lists : List (List Command))
    (run : List Stood) (calls : List Call) (ring : List SignerState) (at : PublishedStateValue)
    : Type 0 where
  pub left : IsLeftBy lists (all_of editions run) at
  pub after : AreAfter lists editions run
  pub last : at ≡ last_of named.at run
  pub counted : at.serial ≡ length (all_of editions run)
  pub one_each : length at.cut ≡ desks
  pub kept : Keeps named.signers ring
  pub told : AreTold named ring calls
  pub sound : (vouched : Vouched) → All (IsVouchedBy vouched) calls
      → AreFoundSteps named editions vouched → AreSound named editions lists run at vouched
  pub live_signers : All (λ row. row.signer < length named.signers) at.rows

-- ---- the edition in doubt

-- The disk failed while this record was written: that of an edition which the signers made by these
-- calls behind all others. It takes in no command that isn't among those of the desks, what it puts can
-- be read, and it is as good as those before it.
pub record IsInDoubt (named : Named) (editions : List Edition) (lists : List (List Command))
    (run : List Stood) (calls : List Call) (ring : List SignerState) (at : PublishedStateValue)
    (entry : List ℕ) : Type 0 where
  pub prepared : NextValue
  pub recorded : IsRecordOf at prepared entry
  pub readable : All CanBeRead prepared.changes
  pub made : List Call
  pub told : AreTold named ring made
  pub left : IsLeftBy lists (all_of editions run ++ edition_of prepared ∷ []) prepared.next
  pub sound : (vouched : Vouched) → All (IsVouchedBy vouched) calls
      → All (IsVouchedBy vouched) made → AreFoundSteps named editions vouched
      → StandsFor (premises_of named lists vouched)
      (all_of editions run ++ edition_of prepared ∷ []) prepared.next
      × IsPublished (premises_of named lists vouched) (edition_of prepared)
      (content_at prepared.next.set)

-- ---- the outlet

abbrev pub repository_in : Named → Repository
repository_in named = repository_at named.session named.site

-- What the outlet showed when it was handed in was coherent, where it tells.
abbrev pub WasCoherent : Named → List Edition → Type 0
WasCoherent named editions = IfSome named.files (IsCoherent (repository_in named) editions)

-- ---- the locked press

-- Behind these editions: the followers have seen these commands recorded, and editions were made over
-- them; the board shows these in their order, and the journal has their records, and room for what was
-- written; the outlet shows the one that was exported last, where that ended well, and is coherent where
-- it was.
pub record IsLockedOver {D O : Type 0} (outlet_of : OutletGhosts O) (named : Named)
    (editions : List Edition) (lists : List (List Command)) (run : List Stood) (calls : List Call)
    (locked : LockedValue D O) : Type 0 where
  pub seen : AreSeen (length named.signers) lists locked.seats
  pub site : locked.press.press.site ≡ named.site
  pub session : locked.press.press.rrdp.session ≡ named.session
  pub made : AreMade named editions lists run calls locked.press.press.ring locked.press.press.at
  pub list : locked.board.list ≡ named.list
  pub shown : locked.board.shown ≡ shown_in named.at run
  pub files : HasFilesOf (all_of editions run) locked.press.press
  pub shows : ShowsLast (ShowsEdition named.session named.site) (all_of editions run)
      locked.press.press.last_export (outlet_of.files locked.outlet)
  pub coherent : WasCoherent named editions → IfSome (outlet_of.files locked.outlet)
      (IsCoherent (repository_in named) (all_of editions run))
  pub limit : locked.press.journal.limit ≡ press_limit
  pub records : HasRecordsOf (all_of editions run) locked.press
  pub room : (run ≡ []) ⊎ FitsWhole locked.press.journal
  pub doubt_room : IfSome locked.press.journal.doubt (FitsWith locked.press.journal)
  pub settled : locked.press.journal.shut ≡ None → locked.press.journal.doubt ≡ None
  pub doubt : IfSome locked.press.journal.doubt (IsInDoubt named editions lists run calls
      locked.press.press.ring locked.press.press.at)

-- So behind whatever editions were found. There are some.
pub record IsLocked {D O : Type 0} (outlet_of : OutletGhosts O) (named : Named)
    (locked : LockedValue D O) : Type 0 where
  pub lists : List (List Command)
  pub run : List Stood
  pub calls : List Call
  pub editions : List Edition
  pub found : AreFound named editions
  pub each : (editions : List Edition) → AreFound named editions
      → IsLockedOver outlet_of named editions lists run calls locked
