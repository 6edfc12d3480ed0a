-- A press that was opened over its disk, and one that wasn't.
use Rattle.std.specs.Prelude.{◌≡◌, ◌⊎◌, ◌<◌, ◌≤◌, ℕ, List, [], Option, None, Some, All, IfSome, IsSome, length, slice_get}
use Rattle.disk_api.specs.declared.disk.Disk.{Ghosts as DiskGhosts}
use Rattle.desk_core.specs.View.{View}
use Rattle.gate_journal.specs.View.{IsSafe}
use Rattle.key_ids.specs.Uris.{Bases}
use Rattle.signer_api.specs.State.{SignerState}
use Rattle.rp_rules.specs.Yield.{AuditedValue}
use Rattle.rp_audit.specs.declared.refusal.AuditRefused.{AuditRefused}
use Rattle.rp_audit.specs.declared.refusal.AuditRefused.TheVariants as audit
use Rattle.editions.specs.Edition.{Edition, state_after, cut_at}
use Rattle.editions.specs.PublishedState.{IsConsistentState}
use Rattle.editions.specs.declared.gathered.Gathered.{Gathered}
use Rattle.press_core.specs.JournalRecords.{AreRecords}
use Rattle.press_core.specs.Loading.{LoadedValue, IsLeftAs, IsLoadOf, IsInOrder, loaded_store}
use Rattle.press_core.specs.Resuming.{AreFirsts, GoOnFrom, GoesOn, AreAgreed}
use Rattle.press_core.specs.Stored.{StoredValue}
use Rattle.press_core.specs.declared.resume.ResumeFault.{ResumeFault}
use Rattle.press_core.specs.declared.resume.ResumeFault.TheVariants as resume
use Rattle.krill_top.specs.DeskStates.{DeskStates}
use Rattle.krill_top.specs.InstanceState.{lists_of}
use Rattle.krill_top.specs.DesksInStates.{AreIn}
use Rattle.krill_top.specs.PressDisk.{Given, IsPast, IsNotLoaded, IsLoadedAndStopped}
use Rattle.krill_top.specs.inner.Summing.{summed}
use Rattle.krill_top.specs.declared.faults.OpenFault.TheVariants.{CutPast, Refused, Unreached, OriginsDiffer, RowMismatch, SignerFault, Memory}
use Rattle.krill_top.specs.Summaries.{no_edition, summary_of}
use Rattle.krill_top.specs.declared.faults.OpenFault.{OpenFault}
use Rattle.krill_top.specs.declared.summary.Summary.{Summary}

-- ---- what it is opened with

-- These desks were found, and these are the signers.
pub record AreGiven {D : Type 0} (desks : List (View D)) (ring : List SignerState) (given : Given)
    : Type 0 where
  pub found : AreIn desks given.found
  pub signers_are : given.signers ≡ ring

-- And a new store has these bases and that session.
pub record IsGiven {D : Type 0} (site : Bases) (session : List ℕ) (desks : List (View D))
    (ring : List SignerState) (given : Given) : Type 0 where
  pub site_is : given.site ≡ site
  pub session_is : given.session ≡ session
  pub are : AreGiven desks ring given

-- ---- a press that was opened

-- What is told of the last of these editions, where there is one.
abbrev pub IsToldBy : List Edition → Option AuditedValue → Summary → Type 0
IsToldBy editions None told = (editions ≡ []) × (told ≡ no_edition)
IsToldBy editions (Some audited) told = told ≡ summary_of (state_after editions) audited

-- The press goes on behind what was loaded, with the desks' commands up to the cut.
pub record IsBehindLoaded {D : Type 0} (disk_of : DiskGhosts D) (loaded : LoadedValue D)
    (found : DeskStates) (audited : Option AuditedValue) (ring : List SignerState)
    (press : StoredValue D) (told : Summary) : Type 0 where
  pub firsts : List Gathered
  pub are : AreFirsts loaded.cut firsts
  pub of_desks : GoOnFrom (lists_of found) firsts
  pub goes_on : GoesOn loaded firsts ring press
  pub agreed : AreAgreed loaded ring press audited
  pub consistent : IsConsistentState press.press.at
  pub told_is : told ≡ summed loaded.serial loaded.moment audited
  pub safe : IsSafe disk_of press.journal

-- What was loaded of the disk was audited and agrees with the desks, and the press goes on behind it.
pub record IsOpenedPress {D : Type 0} (disk_of : DiskGhosts D) (given : Given) (old : D)
    (press : StoredValue D) (told : Summary) : Type 0 where
  pub loaded : LoadedValue D
  pub editions : List Edition
  pub left : IsLeftAs editions loaded
  pub order : IsInOrder loaded
  pub known : IfSome (disk_of.content old) (λ file.
      IsLoadOf given.site given.session file editions loaded)
  pub records : IfSome loaded.journal.records (AreRecords (loaded_store loaded) editions)
  pub read : IfSome (disk_of.content old) (λ _. IsSome loaded.journal.records)
  pub bases : loaded.site ≡ given.site
  pub signers : All (λ row. row.signer < length given.signers) loaded.rows
  pub audited : Option AuditedValue
  pub behind : IsBehindLoaded disk_of loaded given.found audited given.signers press told
  pub told_is : IsToldBy editions audited told
  pub later : disk_of.fault_count old ≤ disk_of.fault_count press.journal.disk

-- ---- and one that wasn't

-- Nothing was loaded, or what was loaded doesn't stand.
abbrev pub IsUnopened : {D : Type 0} → DiskGhosts D → Given → OpenFault → D → D
    → List SignerState → Type 0
IsUnopened disk_of given fault old new signers = IsNotLoaded disk_of given fault old new
    ⊎ IsLoadedAndStopped disk_of given fault old new signers given.outlet

-- Each desk has as many commands as the cut counts.
abbrev pub IsWithin : {D : Type 0} → List (View D) → List ℕ → Type 0
IsWithin desks cut = (number : ℕ) → IfSome (slice_get desks number)
    (λ desk. cut_at cut number ≤ length desk.records)

-- The first desk that has not.
abbrev pub IsPastOf : {D : Type 0} → List (View D) → List ℕ → OpenFault → Type 0
IsPastOf desks cut (CutPast desk count held) = (found : DeskStates) → AreIn desks found
    → IsPast found cut desk count held
IsPastOf desks cut other = ⊥

-- What is told of a set that isn't sound, or of a signer.
abbrev pub audit_fault_of : AuditRefused → OpenFault
audit_fault_of (audit.Refused uri rule) = Refused uri rule
audit_fault_of (audit.Unreached uri) = Unreached uri
audit_fault_of (audit.SignerFault signer) = SignerFault signer
audit_fault_of audit.Memory = Memory

-- What is told of a set that doesn't agree.
abbrev pub resume_fault_of : ResumeFault → OpenFault
resume_fault_of (resume.OriginsDiffer uri) = OriginsDiffer uri
resume_fault_of (resume.RowMismatch key field kept found) = RowMismatch key field kept found
resume_fault_of resume.Memory = Memory
