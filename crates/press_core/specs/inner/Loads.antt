-- How a press's journal is read: what was read so far, and why reading stops.
use Rattle.std.specs.Prelude.{◌≡◌, ◌≢◌, ◌⊎◌, ◌≤◌, ◌<◌, ℕ, ◌-◌, true, List, [], ◌∷◌, map, length, take, drop, slice_get, Option, None, Some, IfSome}
use Rattle.host_calls.specs.Rise.{HasRisen}
use Rattle.disk_api.specs.declared.disk.Disk.{Ghosts as DiskGhosts}
use Rattle.disk_api.specs.Runs.{Rests}
use Rattle.gate_journal.specs.View as journal
use Rattle.gate_journal.specs.View.{HasSizes, IsSafe, RecoversTo}
use Rattle.gate_journal.specs.Answers.{IsSameButDisk}
use Rattle.record_forms.specs.Form.{Spells}
use Rattle.record_forms.specs.Forms.{read_whole}
use Rattle.record_forms.specs.declared.fault.ReadFault.{ReadFault}
use Rattle.record_forms.specs.declared.fault.ReadFault.TheVariants as read
use Rattle.press_records.specs.Rows.{RowValue}
use Rattle.press_records.specs.declared.edition.ReadEdition.{ReadEdition}
use Rattle.press_records.specs.Edition.{EditionValue, StandingValue, nothing_stands, editions, are_live, first_moment, last_moment}
use Rattle.press_records.specs.Records.{AreRecordsOf, IsFirstBad, after_editions, Tells}
use Rattle.press_records.specs.Store.{Store, IsStoreRecord}
use Rattle.press_records.specs.Views.{RecoveredValue, recovered_standing}
use Rattle.key_ids.specs.Uris.{Bases}
use Rattle.std.proofs.Common.{inr}
use Rattle.std.specs.Option.{option_map}
use Rattle.std.specs.String.{string_bytes}
use Rattle.editions.specs.Edition.{Edition}
use Rattle.editions.specs.PublishedState.{desks}
use Rattle.rrdp_state.specs.Exported.{Repository}
use Rattle.rrdp_state.specs.Kept.{Kept}
use Rattle.rrdp_state.specs.Resuming.{IsToldBy, telling_editions}
use Rattle.press_core.specs.Files.{rrdp_editions}
use Rattle.press_core.specs.Records.{edition_value}
use Rattle.press_core.specs.JournalRecords.{press_limit, AreRecords}
use Rattle.press_core.specs.Loading.{LoadedValue, IsBegun, SiteDiffers, IsLeftAs, IsFound, kept_base, loaded_store}
use Rattle.press_core.specs.declared.loading.LoadFault.{LoadFault}
use Rattle.press_core.specs.declared.loading.LoadFault.TheVariants as why

-- ---- the journal

-- A press's journal that is open, and whose records are as the disk tells them.
pub record IsOpened {D : Type 0} (disk_of : DiskGhosts D) (now : journal.View D) : Type 0 where
  pub is_open : now.shut ≡ None
  pub limit : now.limit ≡ press_limit
  pub sizes : HasSizes now
  pub safe : IsSafe disk_of now

-- It was read, and nothing else.
pub record IsRead {D : Type 0} (disk_of : DiskGhosts D) (old new : journal.View D) : Type 0 where
  pub same : IsSameButDisk old new
  pub disk : Rests disk_of old.disk new.disk
  pub later : disk_of.fault_count old.disk ≤ disk_of.fault_count new.disk
  pub safe : IsSafe disk_of new

-- The record with that index, where the disk tells it.
abbrev pub IsAt : Option (List (List ℕ)) → ℕ → List ℕ → Type 0
IsAt records index bytes = IfSome records (λ all. slice_get all index ≡ Some bytes)

-- ---- why it stops

-- A record is bad where that holds of it, and the disk failed where its count rose.
abbrev pub IsStop : {D : Type 0} → DiskGhosts D → (ℕ → Type 0) → D → D → LoadFault → Type 0
IsStop disk_of Bad old new (why.Damaged at) = ⊥
IsStop disk_of Bad old new (why.BadRecord at) = Bad at
IsStop disk_of Bad old new (why.SiteDiffers kept given) = ⊥
IsStop disk_of Bad old new why.DiskFault =
    HasRisen (disk_of.fault_count old) (disk_of.fault_count new)
IsStop disk_of Bad old new why.Memory = Unit {0}

-- What a record that isn't read is called.
abbrev pub bad_at : ReadFault → ℕ → LoadFault
bad_at read.Bad at = why.BadRecord at
bad_at read.Memory at = why.Memory

-- ---- an edition

-- The record with that index is the edition's, over what stands.
pub record IsEditionAt (records : Option (List (List ℕ))) (index : ℕ) (standing : StandingValue)
    (edition : EditionValue) : Type 0 where
  pub bytes : List ℕ
  pub at : IsAt records index bytes
  pub spelled : Spells (editions standing) edition bytes

-- It is none's.
pub record IsNoneAt (records : Option (List (List ℕ))) (index : ℕ) (standing : StandingValue)
    (at : ℕ) : Type 0 where
  pub is : at ≡ index
  pub bytes : List ℕ
  pub at_bytes : IsAt records index bytes
  pub none : read_whole (editions standing) bytes ≡ None

-- It is an edition, as the laws of editions have them.
abbrev pub edition_read : ReadEdition → Edition
edition_read edition = record {
  serial = edition.serial;
  moment = edition.moment;
  cut = edition.cut;
  rows = edition.rows;
  changes = edition.changes;
}

-- ---- the editions

-- Whose files are kept.
abbrev pub repository_in : Kept → Repository
repository_in kept = record { session = kept.session; base = kept.base }

-- What a record of the last edition is read for.
pub record IsLast (moment : ℕ) (cut : List ℕ) (rows : List RowValue) : Type 0 where
  pub live : are_live moment rows ≡ true
  pub dated : (first_moment ≤ moment) × (moment ≤ last_moment)
  pub desks : length cut ≡ desks

-- So many editions were read, and this is what they leave.
pub record AreReadTo (records : Option (List (List ℕ))) (count : ℕ) (left : RecoveredValue)
    : Type 0 where
  pub read : List Edition
  pub counted : length read ≡ count
  pub stands : recovered_standing left ≡ after_editions nothing_stands (map edition_value read)
  pub serial : left.serial ≡ count
  pub told : IfSome records (λ all.
      AreRecordsOf nothing_stands (map edition_value read) (take count (drop 1 all)))
  pub last : count ≢ 0 → IsLast left.moment left.cut left.rows

-- And of those behind the older ones the deltas were taken in.
pub record AreTakenIn (repository : Repository) (records : Option (List (List ℕ)))
    (older count : ℕ) (left : RecoveredValue) (resuming : Kept) : Type 0 where
  pub so_far : AreReadTo records count left
  pub behind : older ≤ count
  pub told : IsToldBy repository (count - older) (rrdp_editions so_far.read) resuming
  pub serial : resuming.serial ≡ left.serial

-- All editions of the journal, of which the newest tell of the deltas.
abbrev pub AreAllRead : Repository → Option (List (List ℕ)) → ℕ → RecoveredValue → Kept → Type 0
AreAllRead repository records last left resuming =
    AreTakenIn repository records (last - telling_editions) last left resuming

-- The first record of an edition that is none's.
abbrev pub IsBadAt : Option (List (List ℕ)) → ℕ → Type 0
IsBadAt records at = IfSome records (λ all. IsFirstBad nothing_stands 1 (drop 1 all) at)

-- And there is one.
abbrev pub IsBadIn : {D : Type 0} → journal.View D → ℕ → Type 0
IsBadIn old at = (1 < length old.sizes) × IsBadAt old.records at

-- ---- the store

-- The first record is the store's.
pub record IsHeadedBy (store : Store) (records : List (List ℕ)) : Type 0 where
  pub first : List ℕ
  pub rest : List (List ℕ)
  pub is : records ≡ first ∷ rest
  pub named : IsStoreRecord store first

-- There was no record, and the first is now that of the store that was given.
pub record IsBegunBy {D : Type 0} (given store : Store) (old new : journal.View D) : Type 0 where
  pub none : old.sizes ≡ []
  pub is : store ≡ given
  pub first : List ℕ
  pub named : IsStoreRecord given first
  pub records : new.records ≡ option_map (λ _. first ∷ []) old.records
  pub sizes : length new.sizes ≡ 1

-- The store's record was read, or written.
abbrev pub IsHad : {D : Type 0} → DiskGhosts D → Store → Store → journal.View D → journal.View D → Type 0
IsHad disk_of given store old new = IsRead disk_of old new ⊎ IsBegunBy given store old new

-- The first record is no store's, and is the one that is told.
abbrev pub IsNoneFirst : Option (List (List ℕ)) → ℕ → Type 0
IsNoneFirst records at = (at ≡ 0) × IfSome records (λ all. Tells all (inr 0))

-- It is so, and each byte of the file stays.
abbrev pub IsNoStore : {D : Type 0} → DiskGhosts D → journal.View D → D → ℕ → Type 0
IsNoStore disk_of old new at =
    (disk_of.content new ≡ disk_of.content old.disk) × IsNoneFirst old.records at

-- The file recovers to these records, or where there is none to the store's.
abbrev pub HoldsStore : Store → List (List ℕ) → List ℕ → Type 0
HoldsStore store records file = RecoversTo press_limit records file ⊎ IsBegun store records file

-- What the disk holds then, where it tells, which it does as before.
abbrev pub Holds : Store → Option (List (List ℕ)) → Option (List ℕ) → Type 0
Holds store None content = content ≡ None
Holds store (Some all) content =
    (file : List ℕ) × (content ≡ Some file) × HoldsStore store all file

abbrev pub IsImageOf : Store → Option (List (List ℕ)) → List ℕ → Type 0
IsImageOf store records image = IfSome records (λ all. HoldsStore store all image)

-- Why the store isn't that of these bases.
abbrev pub IsOtherSite : Bases → Bases → LoadFault → Type 0
IsOtherSite own site (why.SiteDiffers kept given) = (own ≢ site)
    × (string_bytes kept ≡ kept_base own site) × (string_bytes given ≡ kept_base site own)
IsOtherSite own site why.Memory = Unit {0}
IsOtherSite own site fault = ⊥

-- The two bases that differ.
abbrev pub IsDifference : List ℕ → List ℕ → LoadFault → Type 0
IsDifference own other (why.SiteDiffers kept given) =
    (string_bytes kept ≡ own) × (string_bytes given ≡ other)
IsDifference own other fault = ⊥

-- ---- all of it

-- Why reading the journal stops.
abbrev pub IsLoadStop : {D : Type 0} → DiskGhosts D → Bases → journal.View D → D → LoadFault → Type 0
IsLoadStop disk_of site old new (why.Damaged at) = ⊥
IsLoadStop disk_of site old new (why.BadRecord at) =
    (disk_of.content new ≡ disk_of.content old.disk)
    × IfSome old.records (λ all. Tells all (inr at))
IsLoadStop disk_of site old new (why.SiteDiffers kept given) =
    (disk_of.content new ≡ disk_of.content old.disk)
    × IfSome old.records (λ all. SiteDiffers site all (string_bytes kept) (string_bytes given))
IsLoadStop disk_of site old new why.DiskFault =
    HasRisen (disk_of.fault_count old.disk) (disk_of.fault_count new)
IsLoadStop disk_of site old new why.Memory = Unit {0}

-- What is found in the records, and that they are known by now.
pub record IsFoundIn {D : Type 0} (session : List ℕ) (records : Option (List (List ℕ)))
    (loaded : LoadedValue D) : Type 0 where
  pub editions : List Edition
  pub left : IsLeftAs editions loaded
  pub told : IfSome records (λ all. IsFound session all editions loaded)
  pub now : IfSome records (λ all. (told : List (List ℕ)) × (loaded.journal.records ≡ Some told)
      × AreRecords (loaded_store loaded) editions told)
