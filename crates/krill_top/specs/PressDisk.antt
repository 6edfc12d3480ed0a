-- The press's disk, as it was handed in and as it is handed back; and why no press is opened over it.
use Rattle.std.specs.Prelude.{◌≡◌, ◌≢◌, ◌⊎◌, ℕ, ◌+◌, ◌<◌, ◌≤◌, List, [], ◌∷◌, Option, None, Some, All, Any, IfSome, IsSome, length, ⊤}
use Rattle.host_calls.specs.Rise.{HasRisen}
use Rattle.disk_api.specs.declared.disk.Disk.{Ghosts as DiskGhosts}
use Rattle.gate_journal.specs.Format.{recovered, damaged_at}
use Rattle.key_ids.specs.Uris.{Bases}
use Rattle.signer_api.specs.State.{SignerState, CountsFault}
use Rattle.signer_ring.specs.Ring.{ChangesOne}
use Rattle.rp_rules.specs.Yield.{AuditedValue, Yielded}
use Rattle.rp_audit.specs.Audit.{asking, IsTold}
use Rattle.rp_audit.specs.declared.refusal.AuditRefused.{AuditRefused}
use Rattle.rp_audit.specs.declared.refusal.AuditRefused.TheVariants as audit
use Rattle.editions.specs.Edition.{Edition, cut_at}
use Rattle.editions.specs.declared.gathered.Gathered.{Gathered}
use Rattle.press_records.specs.Store.{Store}
use Rattle.press_core.specs.JournalRecords.{AreRecords, Finds, FindsOrWith, press_limit, store_for}
use Rattle.press_core.specs.Loading.{LoadedValue, IsLeftAs, IsLoadOf, IsLoadFault, IsSameStore, IsStoreImage, anchor_of, loaded_store}
use Rattle.press_core.specs.Files.{repository_at}
use Rattle.press_core.specs.Exports.{IsCoherent}
use Rattle.press_core.specs.Agreement.{AreSameOrigins, first_mismatch}
use Rattle.press_core.specs.Resuming.{AreFirsts, GoOnFrom, IsAuditedBy, IsOwedBy, IsResumeFault}
use Rattle.press_core.specs.declared.last_export.LastExport.TheVariants.{NoExport}
use Rattle.press_core.specs.declared.loading.LoadFault.{LoadFault}
use Rattle.press_core.specs.declared.loading.LoadFault.TheVariants as load
use Rattle.press_core.specs.declared.resume.ResumeFault.{ResumeFault}
use Rattle.press_core.specs.declared.resume.ResumeFault.TheVariants as resume
use Rattle.krill_top.specs.declared.faults.OpenFault.{OpenFault}
use Rattle.krill_top.specs.declared.faults.OpenFault.TheVariants.{WrongCount, Damaged, BadRecord, SiteDiffers, CutPast, Refused, Unreached, OriginsDiffer, RowMismatch, DiskFault, SignerFault, OutletFault, Memory}
use Rattle.krill_top.specs.DeskStates.{DeskStates, commands_at, press_device}
use Rattle.krill_top.specs.DesksInStates.{RoseWithin}
use Rattle.krill_top.specs.InstanceState.{InstanceState, OutletState, lists_of, store_in}
use Rattle.krill_top.specs.SoundEditions.{TakesNoMore}
use Rattle.krill_top.specs.Exports.{Exports}

-- ---- a run

-- The file holds these editions; or these, and the one in doubt or not.
abbrev pub Holds : Store → List Edition → Option Edition → List ℕ → Type 0
Holds store editions None file = Finds store editions file
Holds store editions (Some edition) file = FindsOrWith store editions edition file

abbrev pub HoldsIn : InstanceState → List ℕ → Type 0
HoldsIn state file = Holds (store_in state) state.editions state.in_doubt file

-- The records are those of the editions with which the run begins; a store without a record is begun,
-- with that session.
abbrev pub AreBegun : List ℕ → InstanceState → List (List ℕ) → Type 0
AreBegun session begun [] = (begun.editions ≡ []) × (begun.session ≡ session)
AreBegun session begun (first ∷ rest) =
    AreRecords (store_in begun) begun.editions (first ∷ rest)

-- The press's disk went through the run: it held the editions with which the press begins, and holds
-- these and those that were published, with the one in doubt or without it. So does each image that a
-- crash may leave, and all can be opened again. One is in doubt only where the disk failed in this run.
-- Where the disk told what it held the run knows the records, and these are those of the editions; then
-- none of these takes in more commands of a desk than were found, whatever signatures are worth. Where
-- the disk tells in the end what it holds, the run knows the records then.
pub record IsPressServed {D : Type 0} (disk_of : DiskGhosts D) (session : List ℕ) (old new : D)
    (begun ended : InstanceState) : Type 0 where
  pub whole : IfSome (disk_of.content old) (λ file. damaged_at press_limit file ≡ None)
  pub found : IfSome (disk_of.content old) (λ file. AreBegun session begun (recovered file))
  pub known : IfSome (disk_of.content old) (λ _. IsSome begun.records)
  pub records : IfSome begun.records (AreRecords (store_in begun) begun.editions)
  pub cuts : IfSome begun.records (λ _. All (TakesNoMore begun.desk_states) begun.editions)
  pub told : IfSome (disk_of.content new) (λ _. IsSome ended.records)
  pub is_open : begun.in_doubt ≡ None
  pub left : IfSome (disk_of.content new) (HoldsIn ended)
  pub images : (image : List ℕ) → disk_of.may_leave new image
      → IfSome (disk_of.content new) (λ file. HoldsIn ended image)
  pub cause : ¬ (ended.in_doubt ≡ None)
      → RoseWithin (disk_of.fault_count old) (disk_of.fault_count new)
  pub later : disk_of.fault_count old ≤ disk_of.fault_count new

-- ---- a refused opening

-- The signers are as they were, but for the count of one that failed.
abbrev pub AreAsked : OpenFault → List SignerState → List SignerState → Type 0
AreAsked (SignerFault signer) old new = ChangesOne signer CountsFault old new
AreAsked other old new = new ≡ old

-- What opening is given behind the desks: the bases and the session of a new store, the desks as they
-- were found, the signers, and the outlet.
pub record Given : Type 0 where
  pub site : Bases
  pub session : List ℕ
  pub found : DeskStates
  pub signers : List SignerState
  pub outlet : OutletState

-- The state in which opening finds all: the desks as they were found, and the editions that left what
-- was loaded.
abbrev pub opened_state : {D : Type 0} → Given → LoadedValue D → List Edition → InstanceState
opened_state given loaded editions = record {
  site = loaded.site;
  session = loaded.session;
  desk_states = given.found;
  found = record { lists = lists_of given.found; editions = editions };
  editions = editions;
  in_doubt = None;
  records = loaded.journal.records;
  calls = [];
  exported = NoExport;
  signers = given.signers;
  outlet = given.outlet;
}

-- Why nothing is loaded of the press's disk.
abbrev pub load_fault_of : LoadFault → OpenFault
load_fault_of (load.Damaged at) = Damaged press_device at
load_fault_of (load.BadRecord at) = BadRecord press_device at
load_fault_of (load.SiteDiffers kept given) = SiteDiffers kept given
load_fault_of load.DiskFault = DiskFault press_device
load_fault_of load.Memory = Memory

-- The disk stands for what it stood for; only the store's record may be new, or in doubt. So does what
-- a crash may leave, if it isn't what a crash might have left before.
pub record IsNotLoaded {D : Type 0} (disk_of : DiskGhosts D) (given : Given) (fault : OpenFault)
    (old new : D) : Type 0 where
  pub why : LoadFault
  pub fault_is : fault ≡ load_fault_of why
  pub cause : IsLoadFault disk_of given.site old new why
  pub same : IfSome (disk_of.content old) (λ before. IfSome (disk_of.content new)
      (IsSameStore (store_for given.session given.site) before))
  pub images : (image : List ℕ) → disk_of.may_leave new image → disk_of.may_leave old image
      ⊎ IfSome (disk_of.content old) (λ before.
      IsStoreImage (store_for given.session given.site) before image)
  pub later : disk_of.fault_count old ≤ disk_of.fault_count new

-- The first desk of whose commands the cut takes in more than it has.
pub record IsPast (found : DeskStates) (cut : List ℕ) (desk count held : ℕ) : Type 0 where
  pub count_is : count ≡ cut_at cut desk
  pub held_is : held ≡ length (commands_at found desk)
  pub past : held < count
  pub first : (before : ℕ) → before < desk
      → cut_at cut before ≤ length (commands_at found before)

-- Each desk has as many commands as the cut takes in.
abbrev pub IsCutWithin : DeskStates → List ℕ → Type 0
IsCutWithin found cut = (desk : ℕ) → cut_at cut desk ≤ length (commands_at found desk)

-- The desks have all that is taken in, and the live keys use a signer that isn't there.
pub record LacksSigners {D : Type 0} (found : DeskStates) (loaded : LoadedValue D)
    (needed signers : ℕ) : Type 0 where
  pub within : IsCutWithin found loaded.cut
  pub enough : All (λ row. row.signer < needed) loaded.rows
  pub needed_is : Any (λ row. row.signer + 1 ≡ needed) loaded.rows
  pub lacks : signers < needed

-- The desks have all that is taken in and the keys have their signers. This is what an audit by these
-- found of the last set: that it isn't sound.
pub record IsUnsound {D : Type 0} (given : Given) (loaded : LoadedValue D) (found : AuditRefused)
    : Type 0 where
  pub within : IsCutWithin given.found loaded.cut
  pub signers : All (λ row. row.signer < length given.signers) loaded.rows
  pub anchor : List ℕ
  pub anchor_is : anchor_of loaded.rows ≡ Some anchor
  pub told : IsTold given.signers (asking given.signers anchor loaded.site loaded.moment)
      loaded.set found

-- The keys have their signers and the set is sound. This is what it doesn't agree with.
pub record Disagrees {D : Type 0} (given : Given) (loaded : LoadedValue D) (why : ResumeFault)
    : Type 0 where
  pub signers : All (λ row. row.signer < length given.signers) loaded.rows
  pub audited : AuditedValue
  pub by : IsAuditedBy loaded given.signers audited
  pub firsts : List Gathered
  pub are : AreFirsts loaded.cut firsts
  pub of_desks : GoOnFrom (lists_of given.found) firsts
  pub cause : IsResumeFault loaded firsts (Some audited) why

-- There is an edition, the keys have their signers, and the set is sound. It yields just what is owed at
-- the cut by the desks' first commands, and each live key agrees with its point.
pub record Agrees {D : Type 0} (given : Given) (loaded : LoadedValue D) : Type 0 where
  pub some : loaded.serial ≢ 0
  pub signers : All (λ row. row.signer < length given.signers) loaded.rows
  pub audited : AuditedValue
  pub by : IsAuditedBy loaded given.signers audited
  pub firsts : List Gathered
  pub are : AreFirsts loaded.cut firsts
  pub of_desks : GoOnFrom (lists_of given.found) firsts
  pub owed : List Yielded
  pub owes : IsOwedBy loaded.site firsts owed
  pub origins : AreSameOrigins owed audited.origins
  pub rows : first_mismatch loaded.rows audited.points ≡ None

-- Why a press isn't opened over what was loaded, or its last edition isn't exported. Of several causes
-- the first holds in this order. A signer that failed was asked by the audit, and an outlet by the export
-- of what agrees.
abbrev pub IsStopCause : {D : Type 0} → Given → LoadedValue D → List SignerState → OutletState
    → OpenFault → Type 0
IsStopCause given loaded signers outlet (CutPast desk cut held) =
    IsPast given.found loaded.cut desk cut held
IsStopCause given loaded signers outlet (WrongCount what needed count) = (what ≡ 1)
    × (count ≡ length given.signers) × LacksSigners given.found loaded needed count
IsStopCause given loaded signers outlet (Refused uri rule) =
    IsUnsound given loaded (audit.Refused uri rule)
IsStopCause given loaded signers outlet (Unreached uri) =
    IsUnsound given loaded (audit.Unreached uri)
IsStopCause given loaded signers outlet (SignerFault signer) =
    ChangesOne signer CountsFault given.signers signers × IsCutWithin given.found loaded.cut
    × All (λ row. row.signer < length given.signers) loaded.rows × (loaded.serial ≢ 0)
IsStopCause given loaded signers outlet (OriginsDiffer uri) =
    Disagrees given loaded (resume.OriginsDiffer uri)
IsStopCause given loaded signers outlet (RowMismatch key field kept found) =
    Disagrees given loaded (resume.RowMismatch key field kept found)
IsStopCause given loaded signers outlet OutletFault =
    HasRisen given.outlet.faults outlet.faults × Agrees given loaded
IsStopCause given loaded signers outlet Memory = ⊤
IsStopCause given loaded signers outlet other = ⊥

-- The outlet's files are coherent where they were, as they are after each call of an export.
abbrev pub StaysCoherent : {D : Type 0} → LoadedValue D → List Edition → OutletState → OutletState
    → Type 0
StaysCoherent loaded editions old new =
    IfSome old.files (IsCoherent (repository_at loaded.session loaded.site) editions)
    → IfSome new.files (IsCoherent (repository_at loaded.session loaded.site) editions)

-- The outlet is as it was, or the first so many calls of the first export were made.
abbrev pub IsExportedOrNot : {D : Type 0} → Given → LoadedValue D → List Edition → OutletState
    → Type 0
IsExportedOrNot given loaded editions outlet = (outlet ≡ given.outlet)
    ⊎ ((after : InstanceState) × Exports (opened_state given loaded editions) after
    × (after.outlet ≡ outlet))

-- An outlet is called by the first export alone, which its fault stops, or want of memory.
abbrev pub IsOutletLeft : {D : Type 0} → Given → LoadedValue D → List Edition → OutletState
    → OpenFault → Type 0
IsOutletLeft given loaded editions outlet OutletFault = IsExportedOrNot given loaded editions outlet
IsOutletLeft given loaded editions outlet Memory = IsExportedOrNot given loaded editions outlet
IsOutletLeft given loaded editions outlet other = outlet ≡ given.outlet

-- What was loaded of the disk stands there, and so it does in each image that a crash may leave.
pub record IsLoadedAndStopped {D : Type 0} (disk_of : DiskGhosts D) (given : Given)
    (fault : OpenFault) (old new : D) (signers : List SignerState) (outlet : OutletState)
    : Type 0 where
  pub loaded : LoadedValue D
  pub editions : List Edition
  pub left : IsLeftAs editions loaded
  pub known : IfSome (disk_of.content old) (λ file.
      IsLoadOf given.site given.session file editions loaded)
  pub cause : IsStopCause given loaded signers outlet fault
  pub outlet_left : IsOutletLeft given loaded editions outlet fault
  pub coherent : StaysCoherent loaded editions given.outlet outlet
  pub holds : IfSome (disk_of.content new) (Finds (loaded_store loaded) editions)
  pub images : (image : List ℕ) → disk_of.may_leave new image
      → IfSome (disk_of.content new) (λ file. Finds (loaded_store loaded) editions image)
  pub later : disk_of.fault_count old ≤ disk_of.fault_count new
