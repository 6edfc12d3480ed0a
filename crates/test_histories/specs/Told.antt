-- What is told of a history.
use Rattle.std.specs.Prelude.{◌≡◌, ℕ, List, [], ◌∷◌, ◌++◌, map, None, Vec}
use Rattle.std.specs.declared.alloc.Global.{Global}
use Rattle.authority_book.specs.declared.commands.Command.{Command}
use Rattle.editions.specs.Edition.{Edition}
use Rattle.editions.specs.declared.published_state.PublishedNumbers.{PublishedNumbers}
use Rattle.histories.specs.Devices.{Signature}
use Rattle.histories.specs.Events.{History}
use Rattle.histories.specs.Events.Event.{Commit, Publish, DeskFault, PressFault, Stop, Reopen}
use Rattle.histories.specs.Found.{latest}
use Rattle.histories.specs.Worked.{happens}
use Rattle.test_histories.specs.declared.done.Done.{Done}
use Rattle.test_histories.specs.declared.done.Done.TheVariants as told

-- The commands of each desk.
abbrev pub lists_of : Vec (Vec Command Global) Global → List (List Command)
lists_of lists = map (λ list. list.items) lists.items

-- An edition with the serial and the moment that are told of it.
pub record IsNumbered (published : PublishedNumbers) (edition : Edition) : Type 0 where
  pub serial : edition.serial ≡ published.serial
  pub moment : edition.moment ≡ published.moment

-- The edition is published, and before it these signatures were made.
pub record IsPublication (published : PublishedNumbers) (happened : History) : Type 0 where
  pub signed : List Signature
  pub edition : Edition
  pub is : happened ≡ record { signed = signed; event = Publish edition } ∷ []
  pub numbered : IsNumbered published edition

-- A call of the press's disk fails while the edition is written, for which these signatures were made.
pub record IsFailedPublishing (happened : History) : Type 0 where
  pub signed : List Signature
  pub edition : Edition
  pub is : happened ≡ record { signed = signed; event = PressFault edition } ∷ []

-- The store is opened again, and these commands are found, and editions of which that is the last
-- serial.
pub record IsReopening (lists : List (List Command)) (serial : ℕ) (happened : History)
    : Type 0 where
  pub editions : List Edition
  pub is : happened ≡ happens (Reopen lists editions) ∷ []
  pub last : latest editions ≡ serial

-- What happened, where that is told. A refusal is no event. Where everything stops no command is being
-- written.
abbrev pub IsTold : Done → History → Type 0
IsTold (told.Accepted desk command) happened = happened ≡ happens (Commit desk command) ∷ []
IsTold (told.Failed desk command) happened = happened ≡ happens (DeskFault desk command) ∷ []
IsTold (told.Published published) happened = IsPublication published happened
IsTold told.FailedPublishing happened = IsFailedPublishing happened
IsTold (told.Refused code) happened = happened ≡ []
IsTold told.Stopped happened = happened ≡ happens (Stop [] None) ∷ []
IsTold (told.Found lists serial) happened = IsReopening (lists_of lists) serial happened

-- A history, where all this is told of it, one after another.
abbrev pub AreTold : List Done → History → Type 0
AreTold [] history = history ≡ []
AreTold (one ∷ done) history =
    (happened : History) × (rest : History)
    × (history ≡ happened ++ rest) × IsTold one happened × AreTold done rest
