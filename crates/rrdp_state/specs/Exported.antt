-- The notification of editions, and what an export of the newest one does (RFC 8182 section
-- 3.3.2).
use Rattle.std.specs.Prelude.{◌≡◌, ◌≢◌, ℕ, ◌+◌, Bool, ◌==◌, ◌&&◌, not, false, List, [], ◌∷◌, ◌++◌, length, drop, take, map, filter, if◌then◌else◌}
use Rattle.std.specs.List.{list_any, AllByRecursion}
use Rattle.sha2.specs.Sha256.{sha256}
use Rattle.outlet_api.specs.Calls.{Call, put, removal}
use Rattle.rrdp_text.specs.declared.files.FileRef.{FileRef}
use Rattle.rrdp_text.specs.declared.files.DeltaRef.{DeltaRef}
use Rattle.rrdp_text.specs.Texts.{notification_text}
use Rattle.rrdp_state.specs.declared.delta.Delta.{Delta}
use Rattle.rrdp_state.specs.Editions.{Edition, edition_texts}
use Rattle.rrdp_state.specs.Named.{FileName, Entry, is_same_file, named_deltas, named_entries, named_files}
use Rattle.rrdp_state.specs.Paths.{snapshot_path, delta_path, path_of, notification_path}

-- A session, and the https folder of its files.
pub record Repository : Type 0 where
  pub session : List ℕ
  pub base : List ℕ

-- A file at a path below the base, as the notification names it.
abbrev pub file_ref : List ℕ → List ℕ → List ℕ → FileRef
file_ref base path text = record { uri = base ++ path; hash = sha256 text }

abbrev pub delta_ref : Repository → Delta → DeltaRef
delta_ref repository delta = record {
  serial = delta.serial;
  file = file_ref repository.base (delta_path repository.session delta.serial) delta.text;
}

-- The notification with this snapshot and these deltas.
abbrev pub notification_with : Repository → ℕ → List ℕ → List Delta → List ℕ
notification_with repository serial snapshot deltas =
    notification_text repository.session serial
    (file_ref repository.base (snapshot_path repository.session serial) snapshot)
    (map (delta_ref repository) deltas)

abbrev pub notification_of : Repository → List Edition → Edition → List ℕ
notification_of repository older edition =
    let texts = edition_texts repository.session older edition in
    notification_with repository texts.serial texts.snapshot
    (named_deltas repository.session (edition ∷ older))

-- The files that it names, as it names them.
abbrev pub refs_named : Repository → List Edition → Edition → List FileRef
refs_named repository older edition =
    file_ref repository.base (snapshot_path repository.session (length older + 1))
    (edition_texts repository.session older edition).snapshot
    ∷ map (λ delta. delta.file)
    (map (delta_ref repository) (named_deltas repository.session (edition ∷ older)))

abbrev pub entry_ref : Repository → Entry → FileRef
entry_ref repository entry =
    file_ref repository.base (path_of repository.session entry.name) entry.text

-- ---- the calls of an export

abbrev pub entry_put : List ℕ → Entry → Call
entry_put session entry = put (path_of session entry.name) entry.text

-- The snapshot, and of the deltas that are named all, or the newest one.
abbrev pub file_puts : Repository → List Edition → Bool → List Call
file_puts repository editions all =
    let entries = named_entries repository.session editions in
    map (entry_put repository.session) (if all then entries else take 2 entries)

abbrev pub notification_put : Repository → List Edition → List Call
notification_put repository [] = []
notification_put repository (edition ∷ older) =
    put notification_path (notification_of repository older edition) ∷ []

-- The puts: the notification is the last.
abbrev pub puts_of : Repository → List Edition → Bool → List Call
puts_of repository editions all =
    file_puts repository editions all ++ notification_put repository editions

abbrev pub is_named : FileName → List FileName → Bool
is_named file files = list_any (is_same_file file) files

-- Files are left by those that are named by neither.
abbrev pub left_by : List FileName → List FileName → List FileName → List FileName
left_by before previous newest =
    filter (λ file. not (is_named file previous) && not (is_named file newest)) before

-- The files that the notification before the previous one named and that neither of the two later
-- ones names.
abbrev pub left_files : List ℕ → List Edition → List FileName
left_files session editions =
    left_by (named_files session (drop 2 editions)) (named_files session (drop 1 editions))
    (named_files session editions)

-- The removals, where not all is put.
abbrev pub removals_of : Repository → List Edition → Bool → List Call
removals_of repository editions all =
    if all then []
    else map (λ file. removal (path_of repository.session file))
    (left_files repository.session editions)

-- ---- with files of others

-- A path beside the files of RRDP: right in the base, and not the notification's.
pub record IsBeside (path : List ℕ) : Type 0 where
  pub plain : list_any (λ byte. byte == 47) path ≡ false
  pub other : path ≢ notification_path

abbrev pub AreBeside : List Call → Type 0
AreBeside calls = AllByRecursion (λ call. IsBeside call.path) calls

-- The calls of an export with other files just before the notification.
abbrev pub export_calls : Repository → List Edition → Bool → List Call → List Call
export_calls repository editions all beside =
    (file_puts repository editions all ++ beside ++ notification_put repository editions)
    ++ removals_of repository editions all
