-- What a publication through the locks comes to.
use Rattle.std.specs.Prelude.{⊤, ℕ, ◌⊎◌, ◌<◌, List, Result, IfOk, IfErr}
use Rattle.disk_api.specs.declared.disk.Disk.{Ghosts as DiskGhosts}
use Rattle.notice_board.specs.Lists.{last_serial}
use Rattle.editions.specs.declared.gathered.Gathered.{Gathered}
use Rattle.editions.specs.declared.published_state.PublishedNumbers.{PublishedNumbers}
use Rattle.press_core.specs.PrepareInput.{start_of}
use Rattle.press_core.specs.Stored.{StoredValue}
use Rattle.press_core.specs.declared.stored_fault.PrepareFault.TheVariants as prepare
use Rattle.manager.specs.declared.publish_fault.Unmade.TheVariants.{Unprepared}
use Rattle.manager.specs.declared.publish_fault.PublishFault.{PublishFault}
use Rattle.manager.specs.declared.publish_fault.PublishFault.TheVariants as refused
use Rattle.manager.specs.Answers.{IsAnswered, IsNewlyShown, IsNotPublished, IsMetBy}
use Rattle.manager.specs.Passes.{PassValue, HasLearned}

-- Memory ran out while the desks' commands were gathered: no edition was made, and none was exported.
abbrev pub IsUngathered : {D O : Type 0} → PublishFault D O → Type 0
IsUngathered (refused.Unmade serial (Unprepared prepare.Memory)) = ⊤
IsUngathered other = ⊥

-- It was met at this clock by a press over a disk of this type, with commands that were gathered.
pub record IsMetAt {D O : Type 0} (disk_of : DiskGhosts D) (clock : ℕ) (fault : PublishFault D O)
    : Type 0 where
  pub old : StoredValue D
  pub new : StoredValue D
  pub gathered : List Gathered
  pub met : IsMetBy disk_of (start_of old.press clock gathered) old new fault

-- What a publication at this clock comes to, for the pass that it was made with.
pub record IsPublication {D O : Type 0} (disk_of : DiskGhosts D) (clock : ℕ)
    (outcome : Result PublishedNumbers (PublishFault D O)) (old new : PassValue) : Type 0 where
  pub learned : HasLearned old new
  pub published : IfOk outcome (λ told. IsAnswered told old.seats new.shown)
  pub later : IfOk outcome (λ told. last_serial old.shown < told.serial)
  pub newly : IfOk outcome (λ told. IsNewlyShown clock old.shown told new.shown)
  pub unpublished : IfErr outcome (IsNotPublished old.seats new.shown)
  pub cause : IfErr outcome (λ fault. IsUngathered fault ⊎ IsMetAt disk_of clock fault)
