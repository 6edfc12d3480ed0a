-- A folder of files, and a draft of one more, which a rename makes one of them.
use Rattle.std.specs.Prelude.{◌≡◌, ◌≤◌, ℕ, Bool, true, false, List, [], ◌++◌, Option, Some, option_map, Result, OnErr, IfSome, IsTrue}
use Rattle.host_calls.specs.Rise.{HasRisen}
use Rattle.outlet_api.specs.Calls.{Files, with_file}

pub record Folder : Type 0 where
  pub files : Files
  -- the bytes of the draft
  pub draft : List ℕ
  -- the draft is on the disk, so that a crash leaves it whole
  pub synced : Bool

-- the files of a folder, where it is known
abbrev pub files_in : Option Folder → Option Files
files_in folder = option_map (λ f. f.files) folder

-- a new draft
abbrev pub begun : Folder → Folder
begun folder = record folder { draft = []; synced = false }

-- these bytes behind those of the draft
abbrev pub grown : List ℕ → Folder → Folder
grown bytes folder = record folder { draft = folder.draft ++ bytes; synced = false }

abbrev pub settled : Folder → Folder
settled folder = record folder { synced = true }

-- the draft is the file at the path
abbrev pub placed : List ℕ → Folder → Files
placed path folder = with_file path (Some folder.draft) folder.files

-- no file was touched
abbrev pub KeepsFiles : Option Folder → Option Folder → Type 0
KeepsFiles old new = files_in new ≡ files_in old

-- the draft can be made a file
abbrev pub IsSettled : Option Folder → Type 0
IsSettled folder = IfSome folder (λ f. IsTrue f.synced)

-- a count never falls, and rises at each answer but `Ok`
pub record CountsStops {T E : Type 0} (before after : ℕ) (result : Result T E) : Type 0 where
  pub later : before ≤ after
  pub stop : OnErr result (HasRisen before after)
