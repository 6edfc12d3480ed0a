-- What the calls of an export leave standing.
use Rattle.std.proofs.Common.{◌≡◌, ◌⊎◌, inl, inr, ℕ, zero, suc, ◌+◌, ◌<◌, ◌≤◌, ◌^◌, true, false, cond, refl, sym, ◌∙◌, ap, arith, length, take, drop, map, List, [], ◌∷◌, ◌++◌, Some, Bool, subst, append_assoc}
use Rattle.std.specs.Prelude.{Option, not, ◌&&◌, ◌||◌, filter}
use Rattle.std.specs.List.{AllByRecursion}
use Rattle.std.specs.Str.{bytes_eq}
use Rattle.std.proofs.lemmas.List.{append-nil}
use Rattle.sha2.specs.Sha256.{sha256}
use Rattle.outlet_api.specs.Calls.{Files, Call, put, removal, after, after_all}
use Rattle.rrdp_state.specs.declared.delta.Delta.{Delta}
use Rattle.rrdp_state.specs.Editions.{Edition, FollowEachOther, edition_texts}
use Rattle.rrdp_state.specs.Named.{FileName, Entry, is_same_file, snapshot_entry, delta_entry, named_deltas, named_entries, named_files}
use Rattle.rrdp_state.specs.Paths.{path_of, notification_path}
use Rattle.rrdp_state.specs.Exported.{Repository, notification_of, entry_put, file_puts, is_named, left_files, removals_of, IsBeside, AreBeside, export_calls}
use Rattle.rrdp_state.specs.Coherent.{EntryStands, ShowsEdition, Shows, Coherent}
use Rattle.rrdp_state.proofs.Places.{serial_of, same_bytes, bytes_are, other_bytes, name_determined, file_beside, file_notification, same_name}
use Rattle.rrdp_state.proofs.Entries.{IsFile, text_in, all_append, all_take, all_drop, all_map, all_unmap, all_so, earlier_are, named_before}

-- ---- calls one after another

pub after_append : (a b : List Call) (files : Files) → after_all (a ++ b) files ≡ after_all b (after_all a files)
after_append [] b files = refl
after_append (call ∷ a) b files = after_append a b (after call files)

-- A property that each of these calls keeps holds after each of them.
along : (P : Files → Type 0) (calls : List Call) → AllByRecursion (λ call. (files : Files) → P files → P (after call files)) calls
    → (n : ℕ) (files : Files) → P files → P (after_all (take n calls) files)
along P calls keep zero files here = here
along P [] keep (suc n) files here = here
along P (call ∷ calls) keep (suc n) files here = along P calls keep.1 n (after call files) (keep.0 files here)

along_all : (P : Files → Type 0) (calls : List Call) → AllByRecursion (λ call. (files : Files) → P files → P (after call files)) calls
    → (files : Files) → P files → P (after_all calls files)
along_all P [] keep files here = here
along_all P (call ∷ calls) keep files here = along_all P calls keep.1 (after call files) (keep.0 files here)

-- After each of two lists of calls.
take_both : (P : Files → Type 0) (a b : List Call) (files : Files) → ((n : ℕ) → P (after_all (take n a) files)) → ((n : ℕ) → P (after_all (take n b) (after_all a files)))
    → (n : ℕ) → P (after_all (take n (a ++ b)) files)
take_both P [] b files first second n = second n
take_both P (call ∷ a) b files first second zero = first zero
take_both P (call ∷ a) b files first second (suc n) = take_both P a b (after call files) (λ k. first (suc k)) second n

-- ---- a call leaves what stands at other paths

pub untouched : (call : Call) (files : Files) (path : List ℕ) → (call.path ≡ path → ⊥) → after call files path ≡ files path
untouched call files path apart = let other = other_bytes call.path path apart in rw other refl

touched : (path : List ℕ) (left : Option (List ℕ)) (files : Files) → after (record { path = path; left = left }) files path ≡ left
touched path left files = rw (same_bytes path) refl

stays : (session : List ℕ) (call : Call) (files : Files) (entry : Entry) → (call.path ≡ path_of session entry.name → ⊥)
    → EntryStands session files entry → EntryStands session (after call files) entry
stays session call files entry apart stands = record {
  bytes = stands.bytes;
  there = untouched call files (path_of session entry.name) apart ∙ stands.there;
  hashed = stands.hashed;
}

or_false : (a b : Bool) → (a || b) ≡ false → (a ≡ false) × (b ≡ false)
or_false true b h = cc
or_false false b h = (refl, h)

not_true : (b : Bool) → not b ≡ true → b ≡ false
not_true true h = cc
not_true false h = refl

and_second : (a b : Bool) → (a && b) ≡ true → b ≡ true
and_second true b h = h
and_second false b h = cc

all_filter : {X : Type 0} (P Q : X → Type 0) (test : X → Bool) → ((x : X) → P x → test x ≡ true → Q x) → (xs : List X) → AllByRecursion P xs → AllByRecursion Q (filter test xs)
all_filter P Q test step [] all = tt
all_filter P Q test step (x ∷ xs) all =
    elim (test x) as (λ b. test x ≡ b → AllByRecursion Q (cond b (x ∷ filter test xs) (filter test xs))) [
      | true ↦ λ h. (step x all.0 h, all_filter P Q test step xs all.1)
      | false ↦ λ h. all_filter P Q test step xs all.1
    ] refl

shown_before : (repository : Repository) (editions : List Edition) (files : Files) → Shows repository editions files
    → AllByRecursion (λ (d : Delta). EntryStands repository.session files (delta_entry d)) (named_deltas repository.session editions)
shown_before repository [] files shows = tt
shown_before repository (edition ∷ older) files shows =
    all_unmap (EntryStands repository.session files) delta_entry (named_deltas repository.session (edition ∷ older)) shows.named.1

module _ (session : List ℕ) (editions : List Edition) (small : length editions < 2 ^ 64) where
  in_range : (entry : Entry) → IsFile session editions entry → serial_of entry.name < 2 ^ 64
  in_range entry is = let s = is.serial in omega arith

  -- A file that is put stands, and each other file of the editions still does.
  put_stands : (files : Files) (entry : Entry) → EntryStands session (after (entry_put session entry) files) entry
  put_stands files entry = record { bytes = entry.text; there = touched (path_of session entry.name) (Some entry.text) files; hashed = refl }

  put_keeps : (files : Files) (one entry : Entry) → IsFile session editions one → IsFile session editions entry
      → EntryStands session files entry → EntryStands session (after (entry_put session one) files) entry
  put_keeps files one entry first second stands =
      elim (bytes_eq (path_of session one.name) (path_of session entry.name)) as (λ b. bytes_eq (path_of session one.name) (path_of session entry.name) ≡ b
      → EntryStands session (after (entry_put session one) files) entry) [
        | true ↦ λ same.
            let paths : path_of session one.name ≡ path_of session entry.name = bytes_are (path_of session one.name) (path_of session entry.name) same in
            let names : one.name ≡ entry.name = name_determined session one.name entry.name (in_range one first) (in_range entry second) paths in
            let texts : one.text ≡ entry.text = first.text ∙ (ap (λ name. text_in session editions name) names ∙ sym second.text) in
            let there : after (entry_put session one) files (path_of session entry.name) ≡ Some one.text = rw same refl in
            record { bytes = one.text; there = there; hashed = ap (λ (text : List ℕ). sha256 text) texts }
        | false ↦ λ other. record {
          bytes = stands.bytes;
          there = (let e : after (entry_put session one) files (path_of session entry.name) ≡ files (path_of session entry.name) = rw other refl in e ∙ stands.there);
          hashed = stands.hashed;
        }
      ] refl

  -- What is put before the notification: files of the editions, and files beside.
  Quiet : Call → Type 0
  Quiet call = ((entry : Entry) × IsFile session editions entry × (call ≡ entry_put session entry)) ⊎ IsBeside call.path

  quiet_keeps : (call : Call) → Quiet call → (files : Files) (entry : Entry) → IsFile session editions entry
      → EntryStands session files entry → EntryStands session (after call files) entry
  unfolding Quiet
  quiet_keeps call (inl own) files entry is stands =
      subst (λ (c : Call). EntryStands session (after c files) entry) (sym own.2) (put_keeps files own.0 entry own.1 is stands)
  quiet_keeps call (inr beside) files entry is stands =
      stays session call files entry (λ same. file_beside session entry.name call.path beside (sym same)) stands

  quiet_notification : (call : Call) → Quiet call → (files : Files) → after call files notification_path ≡ files notification_path
  unfolding Quiet
  quiet_notification call (inl own) files =
      untouched call files notification_path (λ same. file_notification session own.0.name (sym (ap (λ (c : Call). c.path) own.2) ∙ same))
  quiet_notification call (inr beside) files = untouched call files notification_path beside.other

  each_keeps : (call : Call) → ((files : Files) (entry : Entry) → IsFile session editions entry → EntryStands session files entry → EntryStands session (after call files) entry)
      → (entries : List Entry) → AllByRecursion (IsFile session editions) entries → (files : Files)
      → AllByRecursion (EntryStands session files) entries → AllByRecursion (EntryStands session (after call files)) entries
  each_keeps call keeps [] are files stand = tt
  each_keeps call keeps (entry ∷ entries) are files stand =
      (keeps files entry are.0 stand.0, each_keeps call keeps entries are.1 files stand.1)

  quiet_along : (calls : List Call) → AllByRecursion Quiet calls → (entries : List Entry) → AllByRecursion (IsFile session editions) entries → (files : Files)
      → AllByRecursion (EntryStands session files) entries → AllByRecursion (EntryStands session (after_all calls files)) entries
  quiet_along calls quiet entries are files stand =
      along_all (λ files. AllByRecursion (EntryStands session files) entries) calls
      (all_so Quiet (λ (call : Call). (files : Files) → AllByRecursion (EntryStands session files) entries → AllByRecursion (EntryStands session (after call files)) entries)
      (λ call q files stand. each_keeps call (quiet_keeps call q) entries are files stand) calls quiet)
      files stand

  puts_quiet : (entries : List Entry) → AllByRecursion (IsFile session editions) entries → AllByRecursion Quiet (map (entry_put session) entries)
  unfolding Quiet
  puts_quiet entries are =
      all_map Quiet (entry_put session) entries (all_so (IsFile session editions) (λ (entry : Entry). Quiet (entry_put session entry)) (λ entry is. inl (entry, is, refl)) entries are)

  beside_quiet : (calls : List Call) → AreBeside calls → AllByRecursion Quiet calls
  unfolding Quiet
  beside_quiet calls beside = all_so (λ (call : Call). IsBeside call.path) Quiet (λ call is. inr is) calls beside

  -- Where all files are put, all stand.
  all_put_stand : (entries : List Entry) → AllByRecursion (IsFile session editions) entries → (files : Files)
      → AllByRecursion (EntryStands session (after_all (map (entry_put session) entries) files)) entries
  all_put_stand [] are files = tt
  all_put_stand (entry ∷ entries) are files = (
    (quiet_along (map (entry_put session) entries) (puts_quiet entries are.1) (entry ∷ []) (are.0, tt) (after (entry_put session entry) files)
        (put_stands files entry, tt)).0,
    all_put_stand entries are.1 (after (entry_put session entry) files),
  )

  -- Where the first two are put and the others stand, all stand.
  two_put_stand : (first : Entry) (ds : List Delta) → IsFile session editions first → AllByRecursion (IsFile session editions) (map delta_entry ds) → (files : Files)
      → AllByRecursion (λ (d : Delta). EntryStands session files (delta_entry d)) (drop 1 ds)
      → AllByRecursion (EntryStands session (after_all (map (entry_put session) (take 2 (first ∷ map delta_entry ds))) files)) (first ∷ map delta_entry ds)
  two_put_stand first [] one are files stand = (put_stands files first, tt)
  two_put_stand first (d ∷ ds) one are files stand =
      let between = after (entry_put session first) files in
      let kept : AllByRecursion (EntryStands session between) (map delta_entry ds) =
      each_keeps (entry_put session first) (λ files entry is. put_keeps files first entry one is) (map delta_entry ds) are.1 files
      (all_map (EntryStands session files) delta_entry ds stand) in (
        put_keeps between (delta_entry d) first are.0 one (put_stands files first),
        (
          put_stands between (delta_entry d),
          each_keeps (entry_put session (delta_entry d)) (λ files entry is. put_keeps files (delta_entry d) entry are.0 is) (map delta_entry ds) are.1 between kept,
        ),
      )

  -- ---- removals

  -- A file that none of these is, taken away.
  removal_keeps : (f : FileName) → serial_of f < 2 ^ 64 → (entries : List Entry) → is_named f (map (λ (entry : Entry). entry.name) entries) ≡ false
      → AllByRecursion (IsFile session editions) entries → (files : Files)
      → AllByRecursion (EntryStands session files) entries → AllByRecursion (EntryStands session (after (removal (path_of session f)) files)) entries
  removal_keeps f range [] apart are files stand = tt
  removal_keeps f range (entry ∷ entries) apart are files stand =
      let tests = or_false (is_same_file f entry.name) (is_named f (map (λ (e : Entry). e.name) entries)) apart in
      let others : path_of session f ≡ path_of session entry.name → ⊥ = λ same.
      let names : f ≡ entry.name = name_determined session f entry.name range (in_range entry are.0) same in
      let equal : is_same_file f entry.name ≡ true = same_name f entry.name names in
      let unequal = tests.0 in
      cc in
      (stays session (removal (path_of session f)) files entry others stand.0, removal_keeps f range entries tests.1 are.1 files stand.1)

-- ---- an export

module _ (repository : Repository) where
  shows_keeps : (call : Call) (files : Files) (older : List Edition) (edition : Edition) → (call.path ≡ notification_path → ⊥)
      → (AllByRecursion (EntryStands repository.session files) (named_entries repository.session (edition ∷ older))
      → AllByRecursion (EntryStands repository.session (after call files)) (named_entries repository.session (edition ∷ older)))
      → ShowsEdition repository older edition files → ShowsEdition repository older edition (after call files)
  shows_keeps call files older edition apart keeps shows = record {
    notification = untouched call files notification_path apart ∙ shows.notification;
    named = keeps shows.named;
  }

  module _ (editions : List Edition) (small : length editions < 2 ^ 64) where
    shows_quiet : (call : Call) → Quiet repository.session editions small call → (es : List Edition)
        → AllByRecursion (IsFile repository.session editions) (named_entries repository.session es) → (files : Files)
        → Shows repository es files → Shows repository es (after call files)
    shows_quiet call quiet [] are files shows = absurd shows
    shows_quiet call quiet (edition ∷ older) are files shows = record {
      notification = quiet_notification repository.session editions small call quiet files ∙ shows.notification;
      named = each_keeps repository.session editions small call (quiet_keeps repository.session editions small call quiet)
          (named_entries repository.session (edition ∷ older)) are files shows.named;
    }

    coherent_quiet : (call : Call) → Quiet repository.session editions small call → (files : Files) → Coherent repository editions files → Coherent repository editions (after call files)
    coherent_quiet call quiet files (inl none) = inl (quiet_notification repository.session editions small call quiet files ∙ none)
    coherent_quiet call quiet files (inr shown) =
        inr (shown.0, shows_quiet call quiet (drop shown.0 editions) (earlier_are repository.session shown.0 editions) files shown.1)

    each_coherent : (calls : List Call) → AllByRecursion (Quiet repository.session editions small) calls
        → AllByRecursion (λ call. (files : Files) → Coherent repository editions files → Coherent repository editions (after call files)) calls
    each_coherent calls quiet =
        all_so (Quiet repository.session editions small) (λ (call : Call). (files : Files) → Coherent repository editions files → Coherent repository editions (after call files))
        coherent_quiet calls quiet

  module _ (older : List Edition) (edition : Edition) (small : length (edition ∷ older) < 2 ^ 64) where
    are : AllByRecursion (IsFile repository.session (edition ∷ older)) (named_entries repository.session (edition ∷ older))
    are = earlier_are repository.session 0 (edition ∷ older)

    abbrev notify : Call
    notify = put notification_path (notification_of repository older edition)

    Keeps : Call → Type 0
    Keeps call = (files : Files) → ShowsEdition repository older edition files → ShowsEdition repository older edition (after call files)

    -- With the notification, what stands is shown.
    notified : (files : Files) → AllByRecursion (EntryStands repository.session files) (named_entries repository.session (edition ∷ older))
        → ShowsEdition repository older edition (after (put notification_path (notification_of repository older edition)) files)
    notified files stand = record {
      notification = touched notification_path (Some (notification_of repository older edition)) files;
      named = each_keeps repository.session (edition ∷ older) small (put notification_path (notification_of repository older edition))
          (λ files entry is stands. stays repository.session (put notification_path (notification_of repository older edition)) files entry
          (λ same. file_notification repository.session entry.name (sym same)) stands)
          (named_entries repository.session (edition ∷ older)) are files stand;
    }

    removal_shows : (f : FileName) → serial_of f < 2 ^ 64 → is_named f (named_files repository.session (edition ∷ older)) ≡ false → Keeps (removal (path_of repository.session f))
    unfolding Keeps
    removal_shows f range apart files shows =
        shows_keeps (removal (path_of repository.session f)) files older edition (λ same. file_notification repository.session f same)
        (removal_keeps repository.session (edition ∷ older) small f range (named_entries repository.session (edition ∷ older)) apart are files) shows

    -- After quiet calls, the notification and calls that keep what is shown.
    whole_along : (quiets later : List Call) (files : Files) → AllByRecursion (Quiet repository.session (edition ∷ older) small) quiets → AllByRecursion Keeps later
        → Coherent repository (edition ∷ older) files
        → AllByRecursion (EntryStands repository.session (after_all quiets files)) (named_entries repository.session (edition ∷ older))
        → (n : ℕ) → Coherent repository (edition ∷ older) (after_all (take n (quiets ++ notify ∷ later)) files)
    unfolding Keeps
    whole_along quiets later files quiet keeps coherent stand =
        take_both (Coherent repository (edition ∷ older)) quiets (notify ∷ later) files
        (λ n. along (Coherent repository (edition ∷ older)) quiets (each_coherent (edition ∷ older) small quiets quiet) n files coherent)
        (λ n. elim n as (λ n. Coherent repository (edition ∷ older) (after_all (take n (notify ∷ later)) (after_all quiets files))) [
          | zero ↦ along_all (Coherent repository (edition ∷ older)) quiets (each_coherent (edition ∷ older) small quiets quiet) files coherent
          | suc n ↦ inr (0, along (ShowsEdition repository older edition) later keeps n (after notify (after_all quiets files)) (notified (after_all quiets files) stand))
        ])

    whole_end : (quiets later : List Call) (files : Files) → AllByRecursion Keeps later
        → AllByRecursion (EntryStands repository.session (after_all quiets files)) (named_entries repository.session (edition ∷ older))
        → ShowsEdition repository older edition (after_all (quiets ++ notify ∷ later) files)
    unfolding Keeps
    whole_end quiets later files keeps stand =
        subst (ShowsEdition repository older edition) (sym (after_append quiets (notify ∷ later) files))
        (along_all (ShowsEdition repository older edition) later keeps (after notify (after_all quiets files)) (notified (after_all quiets files) stand))

    -- ---- the calls of this export

    calls_are : (all : Bool) (beside : List Call) → export_calls repository (edition ∷ older) all beside
        ≡ (file_puts repository (edition ∷ older) all ++ beside) ++ notify ∷ removals_of repository (edition ∷ older) all
    calls_are all beside = append_assoc (file_puts repository (edition ∷ older) all ++ beside) (notify ∷ []) (removals_of repository (edition ∷ older) all)

    quiets_are : (all : Bool) (beside : List Call) → AreBeside beside → AllByRecursion (Quiet repository.session (edition ∷ older) small) (file_puts repository (edition ∷ older) all ++ beside)
    quiets_are true beside is =
        all_append (Quiet repository.session (edition ∷ older) small) (file_puts repository (edition ∷ older) true) beside
        (puts_quiet repository.session (edition ∷ older) small (named_entries repository.session (edition ∷ older)) are)
        (beside_quiet repository.session (edition ∷ older) small beside is)
    quiets_are false beside is =
        all_append (Quiet repository.session (edition ∷ older) small) (file_puts repository (edition ∷ older) false) beside
        (puts_quiet repository.session (edition ∷ older) small (take 2 (named_entries repository.session (edition ∷ older)))
        (all_take (IsFile repository.session (edition ∷ older)) 2 (named_entries repository.session (edition ∷ older)) are))
        (beside_quiet repository.session (edition ∷ older) small beside is)

    removals_keep : (all : Bool) → AllByRecursion Keeps (removals_of repository (edition ∷ older) all)
    removals_keep true = tt
    removals_keep false =
        all_map Keeps (λ file. removal (path_of repository.session file)) (left_files repository.session (edition ∷ older))
        (all_filter (λ (f : FileName). serial_of f < 2 ^ 64) (λ (f : FileName). Keeps (removal (path_of repository.session f)))
        (λ (file : FileName). not (is_named file (named_files repository.session older)) && not (is_named file (named_files repository.session (edition ∷ older))))
        (λ f range test. removal_shows f range (not_true (is_named f (named_files repository.session (edition ∷ older)))
        (and_second (not (is_named f (named_files repository.session older))) (not (is_named f (named_files repository.session (edition ∷ older)))) test)))
        (named_files repository.session (drop 1 older))
        (all_map (λ (f : FileName). serial_of f < 2 ^ 64) (λ (entry : Entry). entry.name) (named_entries repository.session (drop 2 (edition ∷ older)))
        (all_so (IsFile repository.session (edition ∷ older)) (λ (entry : Entry). serial_of entry.name < 2 ^ 64) (in_range repository.session (edition ∷ older) small)
        (named_entries repository.session (drop 2 (edition ∷ older))) (earlier_are repository.session 2 (edition ∷ older)))))

    beside_stand : (puts beside : List Call) → AreBeside beside → (files : Files)
        → AllByRecursion (EntryStands repository.session (after_all puts files)) (named_entries repository.session (edition ∷ older))
        → AllByRecursion (EntryStands repository.session (after_all (puts ++ beside) files)) (named_entries repository.session (edition ∷ older))
    beside_stand puts beside is files stand =
        subst (λ (f : Files). AllByRecursion (EntryStands repository.session f) (named_entries repository.session (edition ∷ older))) (sym (after_append puts beside files))
        (quiet_along repository.session (edition ∷ older) small beside (beside_quiet repository.session (edition ∷ older) small beside is)
        (named_entries repository.session (edition ∷ older)) are (after_all puts files) stand)

    all_stand : (beside : List Call) → AreBeside beside → (files : Files)
        → AllByRecursion (EntryStands repository.session (after_all (file_puts repository (edition ∷ older) true ++ beside) files)) (named_entries repository.session (edition ∷ older))
    all_stand beside is files =
        beside_stand (file_puts repository (edition ∷ older) true) beside is files
        (all_put_stand repository.session (edition ∷ older) small (named_entries repository.session (edition ∷ older)) are files)

    newest_stand : (beside : List Call) → AreBeside beside → (files : Files)
        → AllByRecursion (λ (d : Delta). EntryStands repository.session files (delta_entry d)) (drop 1 (named_deltas repository.session (edition ∷ older)))
        → AllByRecursion (EntryStands repository.session (after_all (file_puts repository (edition ∷ older) false ++ beside) files)) (named_entries repository.session (edition ∷ older))
    newest_stand beside is files stand =
        beside_stand (file_puts repository (edition ∷ older) false) beside is files
        (two_put_stand repository.session (edition ∷ older) small (snapshot_entry (length older + 1) (edition_texts repository.session older edition).snapshot)
        (named_deltas repository.session (edition ∷ older)) are.0 are.1 files stand)

    stand_behind : FollowEachOther (edition ∷ older) → (files : Files) (later : ℕ) → later ≤ 1 → Shows repository (drop later (edition ∷ older)) files
        → AllByRecursion (λ (d : Delta). EntryStands repository.session files (delta_entry d)) (drop 1 (named_deltas repository.session (edition ∷ older)))
    stand_behind follow files zero near shows =
        all_drop (λ (d : Delta). EntryStands repository.session files (delta_entry d)) 1 (named_deltas repository.session (edition ∷ older))
        (all_unmap (EntryStands repository.session files) delta_entry (named_deltas repository.session (edition ∷ older)) shows.named.1)
    stand_behind follow files (suc zero) near shows =
        named_before (λ (d : Delta). EntryStands repository.session files (delta_entry d)) repository.session older edition follow
        (shown_before repository older files shows)
    stand_behind follow files (suc (suc later)) near shows = absurd (omega arith)

-- ---- the laws

pub all_along : (repository : Repository) (editions : List Edition) → length editions < 2 ^ 64 → (beside : List Call) → AreBeside beside → (files : Files)
    → Coherent repository editions files → (n : ℕ) → Coherent repository editions (after_all (take n (export_calls repository editions true beside)) files)
all_along repository [] small beside is files coherent n =
    subst (λ (calls : List Call). Coherent repository [] (after_all (take n calls) files)) (sym (append-nil (beside ++ []) ∙ append-nil beside))
    (along (Coherent repository []) beside (each_coherent repository [] small beside (beside_quiet repository.session [] small beside is)) n files coherent)
all_along repository (edition ∷ older) small beside is files coherent n =
    subst (λ (calls : List Call). Coherent repository (edition ∷ older) (after_all (take n calls) files)) (sym (calls_are repository older edition small true beside))
    (whole_along repository older edition small (file_puts repository (edition ∷ older) true ++ beside) (removals_of repository (edition ∷ older) true) files
    (quiets_are repository older edition small true beside is) (removals_keep repository older edition small true) coherent (all_stand repository older edition small beside is files) n)

pub all_end : (repository : Repository) (older : List Edition) (edition : Edition) → length (edition ∷ older) < 2 ^ 64 → (beside : List Call) → AreBeside beside → (files : Files)
    → Shows repository (edition ∷ older) (after_all (export_calls repository (edition ∷ older) true beside) files)
all_end repository older edition small beside is files =
    subst (λ (calls : List Call). ShowsEdition repository older edition (after_all calls files)) (sym (calls_are repository older edition small true beside))
    (whole_end repository older edition small (file_puts repository (edition ∷ older) true ++ beside) (removals_of repository (edition ∷ older) true) files
    (removals_keep repository older edition small true) (all_stand repository older edition small beside is files))

none_shown : (repository : Repository) (later : ℕ) (files : Files) → Shows repository (drop later []) files → ⊥
none_shown repository zero files shows = shows
none_shown repository (suc later) files shows = shows

pub newest_along : (repository : Repository) (editions : List Edition) → FollowEachOther editions → length editions < 2 ^ 64 → (beside : List Call) → AreBeside beside
    → (files : Files) (later : ℕ) → later ≤ 1 → Shows repository (drop later editions) files
    → (n : ℕ) → Coherent repository editions (after_all (take n (export_calls repository editions false beside)) files)
newest_along repository [] follow small beside is files later near shows n = absurd (none_shown repository later files shows)
newest_along repository (edition ∷ older) follow small beside is files later near shows n =
    subst (λ (calls : List Call). Coherent repository (edition ∷ older) (after_all (take n calls) files)) (sym (calls_are repository older edition small false beside))
    (whole_along repository older edition small (file_puts repository (edition ∷ older) false ++ beside) (removals_of repository (edition ∷ older) false) files
    (quiets_are repository older edition small false beside is) (removals_keep repository older edition small false) (inr (later, shows))
    (newest_stand repository older edition small beside is files (stand_behind repository older edition small follow files later near shows)) n)

pub newest_end : (repository : Repository) (editions : List Edition) → FollowEachOther editions → length editions < 2 ^ 64 → (beside : List Call) → AreBeside beside
    → (files : Files) (later : ℕ) → later ≤ 1 → Shows repository (drop later editions) files
    → Shows repository editions (after_all (export_calls repository editions false beside) files)
newest_end repository [] follow small beside is files later near shows = absurd (none_shown repository later files shows)
newest_end repository (edition ∷ older) follow small beside is files later near shows =
    subst (λ (calls : List Call). ShowsEdition repository older edition (after_all calls files)) (sym (calls_are repository older edition small false beside))
    (whole_end repository older edition small (file_puts repository (edition ∷ older) false ++ beside) (removals_of repository (edition ∷ older) false) files
    (removals_keep repository older edition small false)
    (newest_stand repository older edition small beside is files (stand_behind repository older edition small follow files later near shows)))
