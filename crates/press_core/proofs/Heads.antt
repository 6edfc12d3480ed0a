-- The first record of a journal: whose store it is, or that it is none's.
use Rattle.std.proofs.Common.{◌≡◌, ℕ, List, [], ◌∷◌, Option, Some, None, refl, sym, subst, inr}
use Rattle.std.specs.Prelude.{IfSome, Err}
use Rattle.disk_api.specs.declared.disk.Disk.{Ghosts as DiskGhosts}
use Rattle.gate_journal.specs.View as journal
use Rattle.record_forms.specs.Outcome.{IsUnlessMemory}
use Rattle.record_forms.specs.declared.fault.ReadFault.{ReadFault}
use Rattle.record_forms.specs.declared.fault.ReadFault.TheVariants.{Bad, Memory}
use Rattle.record_forms.specs.laws.ByteLaws.{same-some}
use Rattle.press_records.specs.Records.{Tells}
use Rattle.press_records.specs.Store.{Store, IsStoreRecord, store_value}
use Rattle.press_records.specs.declared.store.StoreRecord.{StoreRecord}
use Rattle.press_core.specs.inner.Loads.{IsAt, IsHeadedBy, IsStop, IsNoneFirst, IsNoStore, bad_at}
use Rattle.press_core.specs.declared.loading.LoadFault.{LoadFault}
use Rattle.press_core.specs.declared.loading.LoadFault.TheVariants as why

abbrev Bytes : Type 0
Bytes = List ℕ

pub headed-at : (store : Store) (records : Option (List Bytes)) (bytes : Bytes) → IsAt records 0 bytes → IsStoreRecord store bytes
    → IfSome records (IsHeadedBy store)
headed-at store None bytes at named = tt
headed-at store (Some []) bytes at named = absurd cc
headed-at store (Some (first ∷ rest)) bytes at named = record {
  first = first;
  rest = rest;
  is = refl;
  named = subst (λ (b : Bytes). IsStoreRecord store b) (sym (same-some first bytes at)) named;
}

none-at : (records : Option (List Bytes)) (bytes : Bytes) → IsAt records 0 bytes → ((store : Store) → IsStoreRecord store bytes → ⊥)
    → IfSome records (λ all. Tells all (inr 0))
none-at None bytes at only = tt
none-at (Some []) bytes at only = absurd cc
none-at (Some (first ∷ rest)) bytes at only = λ store named.
    only store (subst (λ (b : Bytes). IsStoreRecord store b) (same-some first bytes at) named)

-- Where no store is told, none is read.
pub first-stop : {D : Type 0} (disk_of : DiskGhosts D) (records : Option (List Bytes)) (bytes : Bytes) (old new : D) (fault : ReadFault)
    → IsAt records 0 bytes
    → ((wanted : Store) → IsStoreRecord wanted bytes → IsUnlessMemory {X = StoreRecord} store_value (Err fault) wanted)
    → IsStop disk_of (IsNoneFirst records) old new (bad_at fault 0)
first-stop disk_of records bytes old new Bad at only = (refl, none-at records bytes at only)
first-stop disk_of records bytes old new Memory at only = tt

module _ {D : Type 0} (disk_of : DiskGhosts D) where
  -- Where the bytes stay.
  pub store-none : (old : journal.View D) (new : D) (fault : LoadFault) → disk_of.content new ≡ disk_of.content old.disk
      → IsStop disk_of (IsNoneFirst old.records) old.disk new fault → IsStop disk_of (IsNoStore disk_of old new) old.disk new fault
  store-none old new (why.Damaged at) same stop = absurd stop
  store-none old new (why.BadRecord at) same stop = (same, stop)
  store-none old new (why.SiteDiffers kept given) same stop = absurd stop
  store-none old new why.DiskFault same stop = stop
  store-none old new why.Memory same stop = tt
