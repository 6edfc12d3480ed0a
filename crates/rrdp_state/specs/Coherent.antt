-- When whoever fetches the files finds what the notification names (RFC 8182 section 3.4).
use Rattle.std.specs.Prelude.{◌≡◌, ◌⊎◌, ℕ, List, [], ◌∷◌, drop, Some, None}
use Rattle.std.specs.List.{AllByRecursion}
use Rattle.sha2.specs.Sha256.{sha256}
use Rattle.outlet_api.specs.Calls.{Files}
use Rattle.rrdp_state.specs.Editions.{Edition}
use Rattle.rrdp_state.specs.Named.{Entry, named_entries}
use Rattle.rrdp_state.specs.Paths.{path_of, notification_path}
use Rattle.rrdp_state.specs.Exported.{Repository, notification_of}

-- Bytes with that hash stand at the path.
pub record Stands (files : Files) (path hash : List ℕ) : Type 0 where
  pub bytes : List ℕ
  pub there : files path ≡ Some bytes
  pub hashed : sha256 bytes ≡ hash

-- The file stands with the hash by which it is named.
abbrev pub EntryStands : List ℕ → Files → Entry → Type 0
EntryStands session files entry = Stands files (path_of session entry.name) (sha256 entry.text)

-- The notification is that of these editions, and each file that it names stands with its hash.
pub record ShowsEdition (repository : Repository) (older : List Edition) (edition : Edition)
    (files : Files) : Type 0 where
  pub notification :
      files notification_path ≡ Some (notification_of repository older edition)
  pub named : AllByRecursion (EntryStands repository.session files)
      (named_entries repository.session (edition ∷ older))

abbrev pub Shows : Repository → List Edition → Files → Type 0
Shows repository [] files = ⊥
Shows repository (edition ∷ older) files = ShowsEdition repository older edition files

-- There is no notification, or it is that of one of the editions and each file that it names stands
-- with its hash.
abbrev pub Coherent : Repository → List Edition → Files → Type 0
Coherent repository editions files = (files notification_path ≡ None)
    ⊎ ((later : ℕ) × Shows repository (drop later editions) files)
