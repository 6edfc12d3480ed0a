-- What the journal of a press is found to have.
use Rattle.std.specs.Prelude.{◌≡◌, ◌≢◌, ◌⊎◌, ◌≤◌, ℕ, true, ◌&&◌, ◌==◌, List, [], ◌∷◌, map, find, Option, None, Some, IfSome, Result, Ok, Err, length, if◌then◌else◌}
use Rattle.std.proofs.Common.{inr}
use Rattle.std.specs.Str.{bytes_eq}
use Rattle.std.specs.Option.{option_map}
use Rattle.std.specs.String.{string_bytes}
use Rattle.host_calls.specs.Rise.{HasRisen}
use Rattle.disk_api.specs.declared.disk.Disk.{Ghosts as DiskGhosts}
use Rattle.gate_journal.specs.Format.{recovered, damaged_at}
use Rattle.gate_journal.specs.View as journal
use Rattle.gate_journal.specs.View.{RecoversTo}
use Rattle.key_ids.specs.Uris.{Bases}
use Rattle.key_roll.specs.declared.rows.KeyRow.{KeyRow}
use Rattle.key_roll.specs.declared.rows.Role.TheVariants.{Current}
use Rattle.key_roll.specs.Roles.{is_role}
use Rattle.pub_set.specs.declared.objects.Object.{Object}
use Rattle.pub_set.specs.Objects.{content_at, IsAscending}
use Rattle.editions.specs.Edition.{Edition, state_after, set_after, cut_at}
use Rattle.rrdp_state.specs.Editions.{objects_of}
use Rattle.rrdp_state.specs.Kept.{Kept}
use Rattle.rrdp_state.specs.State as rrdp_state
use Rattle.press_records.specs.Store.{Store, IsStoreRecord}
use Rattle.press_records.specs.declared.store.StoreRecord.{StoreRecord}
use Rattle.press_records.specs.declared.recovered.RecoveredParts.{RecoveredParts}
use Rattle.press_records.specs.Records.{Tells}
use Rattle.press_records.specs.Rows.{row_value}
use Rattle.press_records.specs.Edition.{are_live, first_moment, last_moment}
use Rattle.press_core.specs.Files.{rrdp_editions, repository_at}
use Rattle.editions.specs.PublishedState.{desks}
use Rattle.press_core.specs.Staged.{AreStaged}
use Rattle.press_core.specs.JournalRecords.{AreRecords, store_for, press_limit}
use Rattle.gate_journal.specs.declared.fault.JournalFault.{JournalFault}
use Rattle.gate_journal.specs.declared.fault.JournalFault.TheVariants as journal_fault
use Rattle.press_core.specs.declared.loading.LoadFault.{LoadFault}
use Rattle.press_core.specs.declared.loading.LoadFault.TheVariants as why
use Rattle.press_core.specs.declared.loading.LoadRefused.{LoadRefused}

-- ---- what is found

-- The journal, whose store it is, and what stands after the last edition, with the RRDP files that
-- are kept of its editions.
pub record LoadedValue (D : Type 0) : Type 0 where
  pub journal : journal.View D
  pub site : Bases
  pub session : List ℕ
  pub serial : ℕ
  pub moment : ℕ
  pub cut : List ℕ
  pub rows : List KeyRow
  pub set : List Object
  pub rrdp : Kept

abbrev pub loaded_value : {D : Type 0} → journal.View D → StoreRecord → RecoveredParts → Kept → LoadedValue D
loaded_value journal store left rrdp = record {
  journal = journal;
  site = store.site;
  session = store.session;
  serial = left.serial;
  moment = left.moment;
  cut = left.cut;
  rows = left.rows;
  set = left.set;
  rrdp = rrdp;
}

abbrev pub loaded_store : {D : Type 0} → LoadedValue D → Store
loaded_store loaded = store_for loaded.session loaded.site

-- These editions leave it, whatever they are.
pub record IsLeftAs {D : Type 0} (editions : List Edition) (loaded : LoadedValue D) : Type 0 where
  pub serial : loaded.serial ≡ (state_after editions).serial
  pub count : loaded.serial ≡ length editions
  pub moment : loaded.moment ≡ (state_after editions).moment
  pub cut : (desk : ℕ) → cut_at loaded.cut desk ≡ cut_at (state_after editions).cut desk
  pub rows : loaded.rows ≡ (state_after editions).rows
  pub set : (uri : List ℕ) → content_at loaded.set uri ≡ set_after editions uri
  -- as a list by rising URI
  pub objects : loaded.set ≡ objects_of (rrdp_editions editions)
  -- the deltas that are named, and all that an export puts and removes, are those of a run in which
  -- all of them were published
  pub files : rrdp_state.StandsFor (repository_at loaded.session loaded.site)
      (rrdp_editions editions) loaded.rrdp

-- The records are those of these editions; a store without a record is begun, with that session.
abbrev pub IsFound : {D : Type 0} → List ℕ → List (List ℕ) → List Edition → LoadedValue D → Type 0
IsFound session [] editions loaded = (editions ≡ []) × (loaded.session ≡ session)
IsFound session (first ∷ records) editions loaded =
    AreRecords (loaded_store loaded) editions (first ∷ records)

-- The key of the trust anchor: the current one of desk 0.
abbrev pub anchor_of : List KeyRow → Option (List ℕ)
anchor_of rows = option_map (λ row. row.key.bytes)
    (find (λ row. (row.desk == 0) && is_role row.role Current) rows)

-- What is loaded of a file, for a repository with these bases. Nothing is said of whether the
-- editions follow one another.
pub record IsLoadOf {D : Type 0} (site : Bases) (session : List ℕ) (file : List ℕ)
    (editions : List Edition) (loaded : LoadedValue D) : Type 0 where
  pub whole : damaged_at press_limit file ≡ None
  pub found : IsFound session (recovered file) editions loaded
  pub records : IfSome loaded.journal.records (AreRecords (loaded_store loaded) editions)
  pub left : IsLeftAs editions loaded
  pub bases : loaded.site ≡ site

-- What a record is refused for doesn't hold, also where the disk tells nothing.
pub record IsInOrder {D : Type 0} (loaded : LoadedValue D) : Type 0 where
  pub before : loaded.serial ≡ 0
      → (loaded.rows ≡ []) × (loaded.set ≡ []) × (loaded.cut ≡ []) × (loaded.moment ≡ 0)
  pub staged : loaded.serial ≢ 0 → AreStaged loaded.rows
  pub live : loaded.serial ≢ 0 → are_live loaded.moment (map row_value loaded.rows) ≡ true
  pub dated : loaded.serial ≢ 0 → (first_moment ≤ loaded.moment) × (loaded.moment ≤ last_moment)
  pub desks : loaded.serial ≢ 0 → length loaded.cut ≡ desks
  pub ascending : IsAscending loaded.set
  pub counted : loaded.rrdp.serial ≡ loaded.serial
  pub is_open : loaded.journal.shut ≡ None
  pub settled : loaded.journal.doubt ≡ None
  pub limit : loaded.journal.limit ≡ press_limit

-- ---- why nothing is loaded

-- The bases of a store that differ from those given: of rsync where these do, else of RRDP.
abbrev pub kept_base : Bases → Bases → List ℕ
kept_base kept given = if bytes_eq kept.rsync given.rsync then kept.rrdp else kept.rsync

pub record SiteDiffers (site : Bases) (records : List (List ℕ)) (kept given : List ℕ)
    : Type 0 where
  pub own : Bases
  pub session : List ℕ
  pub editions : List Edition
  pub are : AreRecords (store_for session own) editions records
  pub other : own ≢ site
  pub kept_is : kept ≡ kept_base own site
  pub given_is : given ≡ kept_base site own

-- Each but want of memory just where its cause holds. Of several the first holds in this order: the
-- file is damaged, a record is bad, the bases differ.
abbrev pub IsLoadFault : {D : Type 0} → DiskGhosts D → Bases → D → D → LoadFault → Type 0
IsLoadFault disk_of site old new (why.Damaged at) =
    (disk_of.content new ≡ disk_of.content old)
    × IfSome (disk_of.content old) (λ file. damaged_at press_limit file ≡ Some at)
IsLoadFault disk_of site old new (why.BadRecord at) =
    (disk_of.content new ≡ disk_of.content old)
    × IfSome (disk_of.content old) (λ file.
    (damaged_at press_limit file ≡ None) × Tells (recovered file) (inr at))
IsLoadFault disk_of site old new (why.SiteDiffers kept given) =
    (disk_of.content new ≡ disk_of.content old)
    × IfSome (disk_of.content old) (λ file. (damaged_at press_limit file ≡ None)
    × SiteDiffers site (recovered file) (string_bytes kept) (string_bytes given))
IsLoadFault disk_of site old new why.DiskFault =
    HasRisen (disk_of.fault_count old) (disk_of.fault_count new)
IsLoadFault disk_of site old new why.Memory = Unit {0}

-- ---- what loading leaves on the disk

-- There was no record, and the file recovers to the store's alone.
pub record IsBegun (store : Store) (records : List (List ℕ)) (file : List ℕ) : Type 0 where
  pub none : records ≡ []
  pub first : List ℕ
  pub named : IsStoreRecord store first
  pub holds : RecoversTo press_limit (first ∷ []) file

-- Of a file that isn't damaged and has no record.
abbrev pub IsBegunAnew : Store → List ℕ → List ℕ → Type 0
IsBegunAnew store old new =
    (damaged_at press_limit old ≡ None) × IsBegun store (recovered old) new

-- Opening the file finds what opening the old one does.
pub record StandsAs (old new : List ℕ) : Type 0 where
  pub whole : damaged_at press_limit new ≡ damaged_at press_limit old
  pub found : recovered new ≡ recovered old

-- It stands for the same records, or is damaged at the same place; or where there was none, in a file
-- that wasn't damaged, it has the store's by now, and no other.
abbrev pub IsSameStore : Store → List ℕ → List ℕ → Type 0
IsSameStore store old new = StandsAs old new ⊎ IsBegunAnew store old new

-- An image that a crash leaves: it recovers to the same records; or where there was none, in a file
-- that wasn't damaged, to the store's.
abbrev pub IsStoreImage : Store → List ℕ → List ℕ → Type 0
IsStoreImage store old image =
    RecoversTo press_limit (recovered old) image ⊎ IsBegunAnew store old image

-- The disk, whatever loading answered.
abbrev pub disk_after : {D : Type 0} → Result (LoadedValue D) (LoadRefused D) → D
disk_after (Ok loaded) = loaded.journal.disk
disk_after (Err refused) = refused.disk

-- What a journal that can't be opened or read is for a press.
abbrev pub load_fault_of : JournalFault → LoadFault
load_fault_of journal_fault.DiskFault = why.DiskFault
load_fault_of (journal_fault.Damaged at) = why.Damaged at
load_fault_of journal_fault.Memory = why.Memory
