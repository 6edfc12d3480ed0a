-- A journal as its contracts see it.
use Rattle.std.specs.Prelude.{◌≡◌, ◌⊎◌, ℕ, Option, None, Some, List, [], ◌∷◌, ◌++◌, length, map, IfSome, IsSome}
use Rattle.disk_api.specs.declared.disk.Disk.{Ghosts as DiskGhosts}
use Rattle.gate_journal.specs.Format.{recovered, damaged_at}

pub record View (D : Type 0) : Type 0 where
  pub disk : D
  -- the payloads of the records that are kept, where the disk is known
  pub records : Option (List (List ℕ))
  -- how many bytes each payload has, also where the disk isn't known
  pub sizes : List ℕ
  pub limit : ℕ
  -- how many records more there is a place for
  pub places : ℕ
  -- a payload shorter than this can be appended: one more than the spare room, and 0 where there is none
  pub room : ℕ
  -- the payload that a failed append has left in doubt: a restart may find it as the next record
  pub doubt : Option (List ℕ)
  -- the disk's counts of faults before and after the call that shut it
  pub shut : Option (ℕ × ℕ)

-- the file recovers to these records: opening it within the limit finds it whole, and finds these
pub record RecoversTo (limit : ℕ) (records : List (List ℕ)) (file : List ℕ) : Type 0 where
  pub whole : damaged_at limit file ≡ None
  pub found : recovered file ≡ records

-- the file recovers to these records, where they are known
abbrev pub RecoversToKnown : ℕ → Option (List (List ℕ)) → List ℕ → Type 0
RecoversToKnown limit records file = IfSome records (λ all. RecoversTo limit all file)

-- it recovers to these records, or to these and one more
abbrev pub RecoversToOrWith : ℕ → Option (List (List ℕ)) → List ℕ → List ℕ → Type 0
RecoversToOrWith limit records payload file = IfSome records (λ all. RecoversTo limit all file ⊎ RecoversTo limit (all ++ payload ∷ []) file)

-- it recovers to these records, and perhaps the one in doubt, if one is
abbrev pub RecoversToInDoubt : ℕ → Option (List (List ℕ)) → Option (List ℕ) → List ℕ → Type 0
RecoversToInDoubt limit records None file = RecoversToKnown limit records file
RecoversToInDoubt limit records (Some payload) file = RecoversToOrWith limit records payload file

-- what a crash during an append may find as the next record: the payload, and on a shut journal what was in doubt before
abbrev pub stake_of : Option (ℕ × ℕ) → Option (List ℕ) → List ℕ → Option (List ℕ)
stake_of None doubt payload = Some payload
stake_of (Some rose) doubt payload = doubt

-- what the disk holds, and what a crash now may leave, recovers to the records, and perhaps the one in doubt
pub record IsSafe {D : Type 0} (disk_of : DiskGhosts D) (journal : View D) : Type 0 where
  pub bytes : IfSome (disk_of.content journal.disk) (λ bytes. RecoversToInDoubt journal.limit journal.records journal.doubt bytes)
  pub images : (c : List ℕ) → disk_of.may_leave journal.disk c → RecoversToInDoubt journal.limit journal.records journal.doubt c
  -- the records are known where the bytes are, and the bytes where the records are
  pub known : IfSome (disk_of.content journal.disk) (λ _. IsSome journal.records)
  pub told : IfSome journal.records (λ _. IsSome (disk_of.content journal.disk))
  -- an open journal has no record in doubt
  pub settled : journal.shut ≡ None → journal.doubt ≡ None

-- the sizes are those of the records, where these are known
abbrev pub HasSizes : {D : Type 0} → View D → Type 0
HasSizes journal = IfSome journal.records (λ all. journal.sizes ≡ map length all)

-- the same but for the places and the room
abbrev pub IsSameButRoom : {D : Type 0} → View D → View D → Type 0
IsSameButRoom old new = new ≡ record old { places = new.places; room = new.room }
