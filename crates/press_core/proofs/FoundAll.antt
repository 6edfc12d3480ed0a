-- What is found in a journal that was read to its end.
use Rattle.std.proofs.Common.{◌≡◌, ℕ, ◌-◌, List, map, length, refl, sym, ◌∙◌, ap, subst}
use Rattle.std.specs.Prelude.{IfSome}
use Rattle.disk_api.specs.declared.disk.Disk.{Ghosts as DiskGhosts}
use Rattle.gate_journal.specs.View as journal
use Rattle.gate_journal.specs.View.{HasSizes}
use Rattle.key_ids.specs.Uris.{Bases}
use Rattle.pub_set.specs.Objects.{IsAscending}
use Rattle.press_records.specs.Rows.{row_value}
use Rattle.press_records.specs.Store.{store_value}
use Rattle.press_records.specs.Views.{RecoveredValue, parts_value}
use Rattle.press_records.specs.declared.store.StoreRecord.{StoreRecord}
use Rattle.press_records.specs.declared.recovered.RecoveredParts.{RecoveredParts}
use Rattle.rrdp_state.specs.Editions as rrdp
use Rattle.rrdp_state.specs.Exported.{Repository}
use Rattle.rrdp_state.specs.Kept.{Kept}
use Rattle.rrdp_state.specs.Resuming.{IsToldBy, IsEnough, telling_editions}
use Rattle.rrdp_state.specs.State as rrdp_state
use Rattle.press_core.specs.Files.{rrdp_editions, repository_at}
use Rattle.press_core.specs.JournalRecords.{store_for}
use Rattle.press_core.specs.Loading.{loaded_value, IsLeftAs, IsInOrder}
use Rattle.press_core.specs.inner.Loads.{IsOpened, AreReadTo, AreAllRead, IsHeadedBy, IsHad, IsFoundIn}
use Rattle.press_core.proofs.Editions.{OneSet, read-with, rows-with, rrdp-with}
use Rattle.press_core.proofs.Found.{enough-told, left-as, in-order, found-in}

module _ {D : Type 0} (disk_of : DiskGhosts D) (one : OneSet) (mid now : journal.View D) (store : StoreRecord) (parts : RecoveredParts)
    (kept resuming : Kept) (left : RecoveredValue)
    (read : AreAllRead (repository_at store.session store.site) mid.records (length mid.sizes - 1) left resuming)
    (same : parts_value parts ≡ left) (up : IsAscending parts.set) where
  abbrev last : ℕ
  last = length mid.sizes - 1

  by-rows : map row_value parts.rows ≡ left.rows
  by-rows = ap (λ (r : RecoveredValue). r.rows) same

  abbrev so-far : AreReadTo mid.records last left
  so-far = read-with mid.records last left parts.rows read.so_far by-rows

  abbrev Stand : Type 0
  Stand = (repository : Repository) (told : ℕ) (editions : List rrdp.Edition) → IsToldBy repository told editions resuming → IsEnough told editions
      → rrdp_state.StandsFor repository editions kept

  files-all : Stand → rrdp_state.StandsFor (repository_at store.session store.site) (rrdp_editions so-far.read) kept
  files-all stand =
      subst (λ (editions : List rrdp.Edition). rrdp_state.StandsFor (repository_at store.session store.site) editions kept)
      (sym (rrdp-with mid.records last left parts.rows read.so_far by-rows))
      (stand (repository_at store.session store.site) (last - (last - telling_editions)) (rrdp_editions read.so_far.read) read.told
      (enough-told last read.so_far.read read.so_far.counted))

  left-all : Stand → IsLeftAs so-far.read (loaded_value now store parts kept)
  left-all stand =
      left-as now store parts kept one mid.records last left so-far same up
      (rows-with mid.records last left parts.rows read.so_far by-rows) (files-all stand)

  pub in-order-all : kept.serial ≡ resuming.serial → IsOpened disk_of now → IsInOrder (loaded_value now store parts kept)
  in-order-all counted opened =
      in-order now store parts kept one {disk_of = disk_of} mid.records last left read.so_far same up (counted ∙ read.serial) opened

  pub found-all : Stand → (session : List ℕ) (site : Bases) (old : journal.View D) → HasSizes old → HasSizes mid
      → IsHad disk_of (store_for session site) (store_value store) old mid → IfSome mid.records (IsHeadedBy (store_value store))
      → now.records ≡ mid.records → IsFoundIn session old.records (loaded_value now store parts kept)
  found-all stand session site old old_sizes sizes had headed records =
      found-in disk_of session site old mid now store parts kept last left so-far old_sizes sizes had headed refl records (left-all stand)
