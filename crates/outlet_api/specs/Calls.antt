-- Files by their paths, and what calls of an outlet make of them.
use Rattle.std.specs.Prelude.{◌≡◌, ◌⊎◌, ◌≤◌, ℕ, List, [], ◌∷◌, length, take, Option, None, Some, option_map}
use Rattle.std.specs.Map.{update}
use Rattle.std.specs.Str.{bytes_eq}

-- What stands at each path: bytes, or nothing.
abbrev pub Files : Type 0
Files = List ℕ → Option (List ℕ)

abbrev pub no_files : Files
no_files = λ path. None

-- The files once this stands at a path.
abbrev pub with_file : List ℕ → Option (List ℕ) → Files → Files
with_file path left files = update bytes_eq files path left

-- A call of an outlet: what it makes stand at a path.
pub record Call : Type 0 where
  pub path : List ℕ
  pub left : Option (List ℕ)

abbrev pub put : List ℕ → List ℕ → Call
put path bytes = record { path = path; left = Some bytes }

abbrev pub removal : List ℕ → Call
removal path = record { path = path; left = None }

-- The files after a call.
abbrev pub after : Call → Files → Files
after call files = with_file call.path call.left files

-- The files after calls, one after another.
abbrev pub after_all : List Call → Files → Files
after_all [] files = files
after_all (call ∷ calls) files = after_all calls (after call files)

-- A call that failed did nothing, or what it was to do.
abbrev pub MayHaveDone : Call → Option Files → Option Files → Type 0
MayHaveDone call old new = (new ≡ old) ⊎ (new ≡ option_map (after call) old)

-- So many of the first calls were made, and no other.
abbrev pub IsFront : List Call → Option Files → Option Files → Type 0
IsFront calls old new = (n : ℕ) × (n ≤ length calls) × (new ≡ option_map (after_all (take n calls)) old)
