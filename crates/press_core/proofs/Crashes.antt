-- What the disk holds, and what a crash leaves, while a journal is loaded.
use Rattle.std.proofs.Common.{◌≡◌, ◌⊎◌, ℕ, List, Option, None, refl, sym, subst, inl, inr}
use Rattle.std.specs.Prelude.{IfSome}
use Rattle.std.specs.Option.{option_map}
use Rattle.disk_api.specs.declared.disk.Disk.{Ghosts as DiskGhosts}
use Rattle.disk_api.specs.Runs.{LeavesOnly}
use Rattle.disk_api.specs.laws.RunLaws.{goes_far, weaker}
use Rattle.gate_journal.specs.Format.{recovered, damaged_at}
use Rattle.gate_journal.specs.View as journal
use Rattle.gate_journal.specs.View.{RecoversToKnown}
use Rattle.press_records.specs.Store.{Store}
use Rattle.press_core.specs.JournalRecords.{press_limit}
use Rattle.press_core.specs.Loading.{IsStoreImage}
use Rattle.press_core.specs.inner.Loads.{IsOpened, IsRead, IsHad, Holds, IsImageOf}
use Rattle.press_core.proofs.Loads.{Knows, knows-same, knows-on, knows-had, holds-then, image-then, images-on, image-opened, image-held}

abbrev Bytes : Type 0
Bytes = List ℕ

module _ {D : Type 0} (disk_of : DiskGhosts D) (given : Store) where
  -- ---- a journal that is read

  knows-opened : (old : journal.View D) → IsOpened disk_of old → Knows disk_of given old.records old
  knows-opened old opened = knows-same disk_of given old.records old refl (opened.safe.settled opened.is_open)

  holds-on : (records : Option (List Bytes)) (mid new : journal.View D) → IsOpened disk_of mid → Knows disk_of given records mid
      → IsRead disk_of mid new → Holds given records (disk_of.content new.disk)
  holds-on records mid new opened knows read =
      let limit = subst (λ (v : journal.View D). v.limit ≡ press_limit) (sym read.same) opened.limit in
      holds-then disk_of given records new limit read.safe (knows-on disk_of given records mid new knows read)

  pub holds-read : (old new : journal.View D) → IsOpened disk_of old → IsRead disk_of old new → Holds given old.records (disk_of.content new.disk)
  holds-read old new opened read = holds-on old.records old new opened (knows-opened old opened) read

  pub images-read : (old new : journal.View D) → IsOpened disk_of old → IsRead disk_of old new
      → LeavesOnly disk_of old.disk new.disk (IsImageOf given old.records)
  images-read old new opened read =
      weaker disk_of old.disk new.disk (disk_of.may_leave old.disk) (IsImageOf given old.records) read.disk.time
      (image-then disk_of given old.records old opened.limit opened.safe (knows-opened old opened))

  -- ---- the editions are read behind the store's record

  module _ (store : Store) (old mid new : journal.View D) (opened : IsOpened disk_of old) (then_opened : IsOpened disk_of mid)
      (had : IsHad disk_of given store old mid) (read : IsRead disk_of mid new) where
    pub holds-behind : Holds given old.records (disk_of.content new.disk)
    holds-behind = holds-on old.records mid new then_opened (knows-had disk_of given store old mid opened then_opened had) read

    pub images-behind : LeavesOnly disk_of old.disk mid.disk (IsImageOf given old.records)
        → LeavesOnly disk_of old.disk new.disk (IsImageOf given old.records)
    images-behind so_far =
        images-on disk_of given old.records old.disk mid new then_opened.limit then_opened.safe
        (knows-had disk_of given store old mid opened then_opened had) read so_far

  -- ---- all of it

  -- A crash leaves an image from before, or the same records, or the store's alone.
  abbrev pub LeftBy : D → Bytes → Type 0
  LeftBy old image = disk_of.may_leave old image ⊎ IfSome (disk_of.content old) (λ file. IsStoreImage given file image)

  abbrev pub IsOpenedFrom : D → Bytes → Type 0
  IsOpenedFrom old image = disk_of.may_leave old image ⊎ RecoversToKnown press_limit (option_map recovered (disk_of.content old)) image

  pub left-opened : (old new : D) → LeavesOnly disk_of old new (IsOpenedFrom old) → LeavesOnly disk_of old new (LeftBy old)
  left-opened old new all = weaker disk_of old new (IsOpenedFrom old) (LeftBy old) all here
    where
      here : (image : Bytes) → IsOpenedFrom old image → LeftBy old image
      here image (inl left) = inl left
      here image (inr stands) = inr (image-opened given (disk_of.content old) image stands)

  pub left-loaded : (old : D) (mid : journal.View D) (new : D) → mid.records ≡ option_map recovered (disk_of.content old)
      → IfSome (disk_of.content old) (λ file. damaged_at press_limit file ≡ None)
      → LeavesOnly disk_of old mid.disk (IsOpenedFrom old) → LeavesOnly disk_of mid.disk new (IsImageOf given mid.records)
      → LeavesOnly disk_of old new (LeftBy old)
  left-loaded old mid new is whole so_far more =
      goes_far disk_of old mid.disk new (LeftBy old) (IsImageOf given mid.records) (left-opened old mid.disk so_far) more
      (λ image stands. inr (image-held given (disk_of.content old) mid.records image is whole stands))
