-- What the crates below say of all commands, editions and histories, as far as a run needs it.
use Rattle.std.specs.Prelude.{◌≡◌, ◌≢◌, ◌≤◌, ℕ, List, [], ◌∷◌, ◌++◌, Some, length, All}
use Rattle.std.specs.List.{AllByRecursion}
use Rattle.names.specs.Name.{IsName}
use Rattle.authority_book.specs.declared.commands.Command.{Command}
use Rattle.authority_book.specs.Fold.{fold_of, Taken}
use Rattle.cmd_codec.specs.Spelling.{IsRecordable}
use Rattle.desk_core.specs.Commands.{Records}
use Rattle.gate_journal.specs.Format.{held_by}
use Rattle.key_ids.specs.Uris.{Bases}
use Rattle.entitle.specs.Certified.{names_of}
use Rattle.outlet_api.specs.Calls.{Files}
use Rattle.pub_set.specs.declared.objects.Object.{Object}
use Rattle.pub_set.specs.Objects.{content_at, IsAscending}
use Rattle.editions.specs.Edition.{Edition, set_after}
use Rattle.editions.specs.Names.{AreTree}
use Rattle.editions.specs.Published.{IsPublished}
use Rattle.editions.specs.PublishedState.{PublishedStateValue}
use Rattle.editions.specs.Step.{Premises, IsMore, AreSteps, configs_at}
use Rattle.press_records.specs.Store.{Store}
use Rattle.press_core.specs.Exports.{ShowsEdition, ShowsLast}
use Rattle.press_core.specs.Follows.{edition_of}
use Rattle.press_core.specs.JournalRecords.{AreRecords, IsRecordOf, press_limit, store_for}
use Rattle.press_core.specs.Next.{NextValue}
use Rattle.press_core.specs.Stands.{IsLeftBy}
use Rattle.press_core.specs.declared.last_export.LastExport.TheVariants.{Done}
use Rattle.histories.specs.Acknowledged.{commands_of, editions_of, ground_after, signatures_of}
use Rattle.histories.specs.Devices.{Signature, are_vouched}
use Rattle.histories.specs.Events.{History}
use Rattle.histories.specs.Events.Event.{Reopen}
use Rattle.histories.specs.Found.{AreFoundAfter}
use Rattle.histories.specs.Legal.{IsLegal, bytes_for, most_bytes, press_bytes_for}
use Rattle.histories.specs.Work.{Work, IsWork, GoesOnAs}
use Rattle.krill_top.specs.inner.Room.{IsEditionOfBytes}

-- ---- laws that lemmas take one by one

-- Files that show the last edition as the last export left it show it.
abbrev pub NewestLaw : Type 0
NewestLaw = (session : List ℕ) (site : Bases) (editions : List Edition) (files : Files)
    → ShowsLast (ShowsEdition session site) editions (Done (length editions)) (Some files)
    → ShowsEdition session site editions files

-- One record more is that of one edition more.
abbrev pub RecordsLaw : Type 0
RecordsLaw = (lists : List (List Command)) (before : List Edition) (at : PublishedStateValue)
    (prepared : NextValue) (store : Store) (records : List (List ℕ)) (entry : List ℕ)
    → IsLeftBy lists before at → AreRecords store before records → IsRecordOf at prepared entry
    → AreRecords store (before ++ edition_of prepared ∷ []) (records ++ entry ∷ [])

-- Editions' records take the bytes that are reckoned for them.
abbrev pub TakesLaw : Type 0
TakesLaw = (session : List ℕ) (site : Bases) (editions : List Edition) (records : List (List ℕ))
    → AreRecords (store_for session site) editions records
    → held_by records ≡ press_bytes_for site editions

-- Records are those of one list of commands.
abbrev pub CommandsLaw : Type 0
CommandsLaw = (number : ℕ) (records : List (List ℕ)) (one other : List Command)
    → Records number records one → Records number records other → one ≡ other

-- ---- all of them

pub record RunLaws : Type 0 where
  -- records, and the files of an export
  pub newest : NewestLaw
  pub records : RecordsLaw
  pub takes : TakesLaw
  pub commands : CommandsLaw
  pub editions : (store other : Store) (editions more : List Edition) (records : List (List ℕ))
      → AreRecords store editions records → AreRecords other more records
      → (store ≡ other) × (editions ≡ more)
  -- editions that follow one another: the names at their cuts are those of a tree, and what they
  -- leave is a set that is published
  pub apart : (commands : List Command) → Taken 0 commands → AreTree (fold_of 0 commands).names
  pub named : (commands : List Command) → AllByRecursion IsRecordable commands
      → All (λ row. IsName row.name) (fold_of 0 commands).names
  pub set : (editions : List Edition) → (objects : List Object) × IsAscending objects
      × ((uri : List ℕ) → content_at objects uri ≡ set_after editions uri)
  pub published : (premises : Premises) (editions : List Edition) (edition : Edition)
      (objects : List Object) → AreSteps premises (editions ++ edition ∷ [])
      → AreTree (names_of (configs_at premises.lists edition.cut))
      → All (λ row. IsName row.name) (names_of (configs_at premises.lists edition.cut))
      → IsAscending objects
      → ((uri : List ℕ) → content_at objects uri ≡ set_after (editions ++ edition ∷ []) uri)
      → IsPublished premises edition (set_after (editions ++ edition ∷ []))
  pub stay : (less more : Premises) (editions : List Edition) → IsMore less more
      → AreSteps less editions → AreSteps more editions
  -- legal histories: what may come behind one, and what holds of each
  pub work : (site : Bases) (history : History) (signed : List Signature) (work : Work)
      → IsLegal site history → AreFoundAfter history work.found.commands work.found.editions
      → IsWork site (are_vouched (signatures_of history ++ signed)) work
      → GoesOnAs site history signed work
  pub reopen : (site : Bases) (history : History) (signed : List Signature)
      (lists : List (List Command)) (editions : List Edition)
      → IsLegal site history → AreFoundAfter history lists editions
      → IsLegal site
      (history ++ record { signed = signed; event = Reopen lists editions } ∷ [])
  pub steps : (site : Bases) (history : History) → IsLegal site history
      → AreSteps (ground_after site history) (editions_of history)
  pub limits : (site : Bases) (history : History) (desk : ℕ) → IsLegal site history
      → bytes_for (commands_of history desk) ≤ most_bytes
  pub press_limits : (site : Bases) (history : History) → IsLegal site history
      → editions_of history ≢ [] → press_bytes_for site (editions_of history) ≤ press_limit
  pub bytes : (site : Bases) (history : History) → IsLegal site history
      → All IsEditionOfBytes (editions_of history)
