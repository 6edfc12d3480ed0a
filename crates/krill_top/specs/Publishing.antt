-- What comes of a publication.
use Rattle.std.specs.Prelude.{◌≡◌, ◌⊎◌, ◌<◌, ◌+◌, ◌-◌, ◌^◌, min, ℕ, Bool, true, false, List, [], ◌∷◌, ◌++◌, length, None, Some, IfSome, IsSome, Result, Ok, Err}
use Rattle.entitle.specs.declared.trees.Owed.{Owed}
use Rattle.entitle.specs.Owed.{AreOwed}
use Rattle.pub_set.specs.declared.objects.Object.{Object}
use Rattle.pub_set.specs.Objects.{content_at, IsAscending}
use Rattle.signer_api.specs.State.{SignerState}
use Rattle.signer_ring.specs.Ring.{Keeps}
use Rattle.rp_rules.specs.Certificates.{Vouched}
use Rattle.editions.specs.Edition.{Edition, state_after, set_after, cut_at}
use Rattle.editions.specs.Step.{configs_at, IsStep}
use Rattle.editions.specs.Table.{IsTable}
use Rattle.editions.specs.Due.{IsCalledFor}
use Rattle.editions.specs.Profile.{IsInProfile}
use Rattle.editions.specs.Published.{IsPublished}
use Rattle.editions.specs.declared.gathered.Gathered.{Gathered}
use Rattle.editions.specs.declared.published_state.PublishedNumbers.{PublishedNumbers}
use Rattle.editions.specs.Ended.{ended_keys}
use Rattle.editions.specs.Gathering.{cut_with, AreNextCommands}
use Rattle.press_core.specs.declared.fault.PressFault.{PressFault}
use Rattle.press_core.specs.declared.fault.PressFault.TheVariants as press_fault
use Rattle.press_core.specs.declared.stored_fault.PrepareFault.{PrepareFault}
use Rattle.press_core.specs.declared.stored_fault.PrepareFault.TheVariants as prepare
use Rattle.press_core.specs.JournalRecords.{AreRecords, record_bytes, press_limit}
use Rattle.gate_journal.specs.Format.{held_by}
use Rattle.press_core.specs.Press.{PressValue, DropsEach}
use Rattle.press_core.specs.Signers.{HoldKeys}
use Rattle.press_core.specs.PrepareInput.{start_of}
use Rattle.press_core.specs.Next.{NextValue}
use Rattle.press_core.specs.Planned.{IsPrepared, calls_for}
use Rattle.press_core.specs.Stands.{IsLeftBy}
use Rattle.press_core.specs.Follows.{edition_of}
use Rattle.press_core.specs.Faults.{IsMet, IsPressFault}
use Rattle.press_core.specs.Met.{MetValue}
use Rattle.press_core.specs.StoredAnswers.{rose_of}
use Rattle.krill_top.specs.DeskStates.{DeskStates, commands_at}
use Rattle.krill_top.specs.InstanceState.{InstanceState, lists_of, store_in, premises_of, AreVouchedIn}
use Rattle.krill_top.specs.InstanceState.{last_serial, is_exported}
use Rattle.krill_top.specs.Exports.{ExportsAll, ExportStops, Stopped, stopped_of}
use Rattle.krill_top.specs.declared.publish_fault.PublishFault.{PublishFault}
use Rattle.krill_top.specs.declared.publish_fault.PublishFault.TheVariants as publish
use Rattle.krill_top.specs.declared.publication.Publication.{Publication}
use Rattle.krill_top.specs.declared.publication.Publication.TheVariants as publication

-- All accepted commands of each desk are taken in.
abbrev pub TakesAll : DeskStates → List ℕ → Type 0
TakesAll desk_states cut = (desk : ℕ) → cut_at cut desk ≡ length (commands_at desk_states desk)

-- ---- an edition

-- The serial and the moment of the edition, the last of these; and how many objects stand after it, and
-- how many origins are owed at its cut.
pub record AreNumbersOf (desk_states : DeskStates) (editions : List Edition) (edition : Edition)
    (published : PublishedNumbers) : Type 0 where
  pub serial : published.serial ≡ edition.serial
  pub moment : published.moment ≡ edition.moment
  pub objects : List Object
  pub ascending : IsAscending objects
  pub stand : (uri : List ℕ) → content_at objects uri ≡ set_after editions uri
  pub as_many : published.objects ≡ length objects
  pub owed : List Owed
  pub owes : AreOwed (configs_at (lists_of desk_states) edition.cut) owed
  pub as_many_owed : published.origins ≡ length owed

-- A press has what these editions left, with these signers, and these are all commands that the desks
-- have accepted behind its cut. Where the signatures of the editions are vouched its table, by which it
-- tells what is due, is that of the objects that stand.
pub record IsAtPress (press : PressValue) (gathered : List Gathered)
    (state : InstanceState) : Type 0 where
  pub site : press.site ≡ state.site
  pub ring : press.ring ≡ state.signers
  pub left : IsLeftBy (lists_of state.desk_states) state.editions press.at
  pub table : (vouched : Vouched) → AreVouchedIn vouched state
      → IsTable (set_after state.editions) press.at.issued
  pub go_on : AreNextCommands (lists_of state.desk_states) press.at.cut gathered
  pub takes_all : TakesAll state.desk_states (cut_with press.at.cut gathered)

-- The signers kept what they held and vouched for, and then each key that the edition ended was dropped.
pub record AreLeft (old made : List SignerState) (before : List Edition) (edition : Edition)
    (new : List SignerState) : Type 0 where
  pub kept : Keeps old made
  pub held : HoldKeys old made
  pub dropped : DropsEach (ended_keys (state_after before).rows edition.rows) made new

-- The edition was called for, and follows those before it at that clock. Relying parties find its set
-- sound, and what they get of it are the owed origins. It keeps what the profiles ask beside that.
pub record IsSoundStep (vouched : Vouched) (clock : ℕ) (edition : Edition)
    (before after : InstanceState) : Type 0 where
  pub step : IsStep (premises_of vouched before) clock before.editions edition
  pub called : IsCalledFor (premises_of vouched before) before.editions
      edition.cut edition.moment true
  pub published : IsPublished (premises_of vouched before) edition (set_after after.editions)
  pub profile : IsInProfile (set_after after.editions)

-- An edition was made by the signers, who were asked for nothing else, over all commands that the
-- desks have accepted. Where the signatures of the editions are vouched, whatever else is, it follows
-- those before it, and is sound.
pub record Publishes (clock : ℕ) (told : PublishedNumbers) (before after : InstanceState)
    : Type 0 where
  pub press : PressValue
  pub gathered : List Gathered
  pub at : IsAtPress press gathered before
  pub made : List SignerState
  pub prepared : NextValue
  pub is_prepared : IsPrepared (start_of press clock gathered) made prepared
  pub is_open : before.in_doubt ≡ None
  pub one_more : after ≡ record before {
    editions = before.editions ++ edition_of prepared ∷ [];
    records = after.records;
    calls = before.calls
        ++ calls_for (start_of press clock gathered) made prepared is_prepared;
    signers = after.signers;
  }
  pub takes_all : TakesAll before.desk_states (edition_of prepared).cut
  pub numbers : AreNumbersOf before.desk_states after.editions (edition_of prepared) told
  pub signers : AreLeft before.signers made before.editions (edition_of prepared) after.signers
  -- the journal has the editions' records, and tells them where it told them before
  pub known : IsSome before.records → IsSome after.records
  pub recorded : IfSome after.records (AreRecords (store_in after) after.editions)
  pub sound : (vouched : Vouched) → AreVouchedIn vouched after
      → IsSoundStep vouched clock (edition_of prepared) before after

-- ---- no edition

-- Why none is made: the press alone refuses; its journal is shut; the edition's record has no room
-- there; or the disk failed while the record was written. With the disk's word that it failed, and what
-- met the publication.
pub data Unmade : Type 0 where
  ByPress : PressFault → Unmade
  Shut : ℕ × ℕ → Unmade
  JournalFull : ℕ → ℕ → MetValue → Unmade
  DiskFault : ℕ × ℕ → Unmade

abbrev pub unprepared_by : {D : Type 0} → PrepareFault D → Unmade
unprepared_by (prepare.Shut rose) = Shut rose
unprepared_by (prepare.ClockRange now met) = ByPress (press_fault.ClockRange now met)
unprepared_by (prepare.SerialEnd value met) = ByPress (press_fault.SerialEnd value met)
unprepared_by (prepare.Nothing serial met) = ByPress (press_fault.Nothing serial met)
unprepared_by (prepare.SignerFault signer met) = ByPress (press_fault.SignerFault signer met)
unprepared_by (prepare.KeyClash id met) = ByPress (press_fault.KeyClash id met)
unprepared_by (prepare.JournalFull held needed met) = JournalFull held needed met
unprepared_by prepare.Memory = ByPress press_fault.Memory

abbrev pub unmade_of : {D : Type 0} → PublishFault D → Unmade
unmade_of (publish.Unprepared fault) = unprepared_by fault
unmade_of (publish.Uncommitted fault) = DiskFault (rose_of fault)

-- Whether there was nothing to publish, whether memory was wanting, and whether an edition is in doubt.
abbrev pub is_nothing : Unmade → Bool
is_nothing (ByPress (press_fault.Nothing serial met)) = true
is_nothing other = false

abbrev pub is_wanting : Unmade → Bool
is_wanting (ByPress press_fault.Memory) = true
is_wanting other = false

abbrev pub leaves_doubt : Unmade → Bool
leaves_doubt (DiskFault rose) = true
leaves_doubt other = false

-- The press met it, with all commands that the desks have accepted. Its journal is open.
pub record IsMetBy (clock : ℕ) (fault : PressFault) (before after : InstanceState) : Type 0 where
  pub is_open : before.in_doubt ≡ None
  pub press : PressValue
  pub gathered : List Gathered
  pub at : IsAtPress press gathered before
  pub met : IsPressFault (start_of press clock gathered) after.signers fault

-- Memory ran out before any signer was asked.
pub record IsUnasked (fault : PressFault) (before after : InstanceState) : Type 0 where
  pub memory : fault ≡ press_fault.Memory
  pub same_signers : after.signers ≡ before.signers

-- Desks and editions are as they were; the signers may have made keys and signatures for the edition
-- that was called for, which stand nowhere, and have dropped none.
pub record IsSameButSigners (before after : InstanceState) : Type 0 where
  pub same : after ≡ record before { signers = after.signers }
  pub kept : Keeps before.signers after.signers
  pub held : HoldKeys before.signers after.signers

-- The press refuses.
pub record IsUnpublished (clock : ℕ) (fault : PressFault) (before after : InstanceState)
    : Type 0 where
  pub same : IsSameButSigners before after
  pub cause : IsUnasked fault before after ⊎ IsMetBy clock fault before after

-- A fault of its disk has shut the press's journal earlier in this run. No signer is asked.
pub record IsShut (before after : InstanceState) : Type 0 where
  pub shut : ¬ (before.in_doubt ≡ None)
  pub same : after ≡ before

-- The signers made what the edition is made of, and its record is too long for what the journal holds.
pub record IsFull (clock held needed : ℕ) (met : MetValue) (before after : InstanceState)
    : Type 0 where
  pub is_open : before.in_doubt ≡ None
  pub same : IsSameButSigners before after
  pub press : PressValue
  pub gathered : List Gathered
  pub at : IsAtPress press gathered before
  pub prepared : NextValue
  pub is_prepared : IsPrepared (start_of press clock gathered) after.signers prepared
  pub held_is : IfSome before.records (λ records. held ≡ held_by records)
  pub needed_is : needed ≡ min (length (record_bytes press.at prepared) + 9) (2 ^ 64 - 1)
  pub past : press_limit < held + needed
  pub is_met : IsMet 22 clock met

-- An edition was made as one that is published is, and the disk failed while its record was written.
-- It may stand there, and no other edition is written behind it.
pub record IsInDoubt (clock : ℕ) (before after : InstanceState) : Type 0 where
  pub is_open : before.in_doubt ≡ None
  pub press : PressValue
  pub gathered : List Gathered
  pub at : IsAtPress press gathered before
  pub prepared : NextValue
  pub is_prepared : IsPrepared (start_of press clock gathered) after.signers prepared
  pub doubted : after ≡ record before {
    in_doubt = Some (edition_of prepared);
    calls = before.calls
        ++ calls_for (start_of press clock gathered) after.signers prepared is_prepared;
    signers = after.signers;
  }
  pub takes_all : TakesAll before.desk_states (edition_of prepared).cut
  pub kept : Keeps before.signers after.signers
  pub held : HoldKeys before.signers after.signers
  -- it is sound where the signatures are vouched that were made for it, and for those before it
  pub sound : (vouched : Vouched) → AreVouchedIn vouched after
      → IsSoundStep vouched clock (edition_of prepared) before
      (record before { editions = before.editions ++ edition_of prepared ∷ [] })

-- No edition was made, for this reason.
abbrev pub IsNotMade : ℕ → Unmade → InstanceState → InstanceState → Type 0
IsNotMade clock (ByPress fault) before after = IsUnpublished clock fault before after
IsNotMade clock (Shut rose) before after = IsShut before after
IsNotMade clock (JournalFull held needed met) before after =
    IsFull clock held needed met before after
IsNotMade clock (DiskFault rose) before after = IsInDoubt clock before after

-- An edition was made of what was published, or none.
abbrev pub MakesOrNot : {D : Type 0} → ℕ → Result PublishedNumbers (PublishFault D)
    → InstanceState → InstanceState → Type 0
MakesOrNot clock (Ok published) before after = Publishes clock published before after
MakesOrNot clock (Err fault) before after = IsNotMade clock (unmade_of fault) before after

-- ---- and its export

pub data Outcome : Type 0 where
  -- an edition was made, and exported
  Published : PublishedNumbers → Outcome
  -- the edition of that serial stands, made now or before, and its export was stopped
  Unexported : ℕ → Stopped → Outcome
  -- there was nothing to publish, and the last edition, which wasn't exported, is now
  Repeated : Unmade → Outcome
  -- no edition was made behind the one of that serial
  Refused : ℕ → Unmade → Outcome

-- What the call answers.
abbrev pub outcome_of : {D O : Type 0} → Publication D O → Outcome
outcome_of (publication.Published published) = Published published
outcome_of (publication.Unexported serial fault) = Unexported serial (stopped_of fault)
outcome_of (publication.Repeated fault) = Repeated (unmade_of fault)
outcome_of (publication.Refused serial fault) = Refused serial (unmade_of fault)

-- An edition was made, and exported.
pub record IsPublishedAndExported (clock : ℕ) (published : PublishedNumbers)
    (before after : InstanceState) : Type 0 where
  pub made : InstanceState
  pub publishes : Publishes clock published before made
  pub exported : ExportsAll made after

-- No edition was made. Where there was nothing to publish, the last edition is exported.
pub record IsRefused (clock serial : ℕ) (unmade : Unmade) (before after : InstanceState)
    : Type 0 where
  pub not_made : IsNotMade clock unmade before after
  pub exported : is_nothing unmade ≡ true → is_exported before ≡ true
  pub serial_is : serial ≡ last_serial before

-- There was nothing to publish behind the last edition, which isn't exported.
pub record IsUnexportedYet (clock : ℕ) (unmade : Unmade) (before after : InstanceState)
    : Type 0 where
  pub nothing : is_nothing unmade ≡ true
  pub not_made : IsNotMade clock unmade before after
  pub unexported : is_exported before ≡ false

-- So it is exported again.
pub record IsExportedAgain (clock : ℕ) (unmade : Unmade) (before after : InstanceState)
    : Type 0 where
  pub stood : InstanceState
  pub yet : IsUnexportedYet clock unmade before stood
  pub exported : ExportsAll stood after

-- An edition was made, or one stood that wasn't exported yet.
abbrev pub HasUnexported : ℕ → InstanceState → InstanceState → Type 0
HasUnexported clock before after =
    ((published : PublishedNumbers) × Publishes clock published before after)
    ⊎ ((unmade : Unmade) × IsUnexportedYet clock unmade before after)

-- The edition of that serial stands, and its export was stopped.
pub record IsUnexported (clock serial : ℕ) (stopped : Stopped)
    (before after : InstanceState) : Type 0 where
  pub stood : InstanceState
  pub has : HasUnexported clock before stood
  pub stops : ExportStops stopped stood after
  pub serial_is : serial ≡ last_serial stood

-- A publication comes to this, at that clock.
abbrev pub ComesTo : ℕ → Outcome → InstanceState → InstanceState → Type 0
ComesTo clock (Published published) before after =
    IsPublishedAndExported clock published before after
ComesTo clock (Unexported serial stopped) before after =
    IsUnexported clock serial stopped before after
ComesTo clock (Repeated unmade) before after = IsExportedAgain clock unmade before after
ComesTo clock (Refused serial unmade) before after = IsRefused clock serial unmade before after

-- Whether it changed the editions, what is in doubt of them, or what is exported of them.
abbrev pub has_changed : Outcome → Bool
has_changed (Published published) = true
has_changed (Unexported serial stopped) = true
has_changed (Repeated unmade) = true
has_changed (Refused serial unmade) = leaves_doubt unmade
