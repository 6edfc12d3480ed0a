-- What is kept is enough: it is that of all editions, and so are the files that are made of it.
use Rattle.std.proofs.Common.{◌≡◌, ℕ, suc, ◌+◌, ◌-◌, true, false, cond, refl, sym, ◌∙◌, ap, arith, length, drop, map, List, [], ◌∷◌, ◌++◌, Bool, subst}
use Rattle.std.specs.Prelude.{nat_lt, nat_le, nat_eq, ◌&&◌, not, None, Some}
use Rattle.std.proofs.lemmas.Bool.{false≢true}
use Rattle.std.proofs.lemmas.Bool.Decides.{nat_tests}
use Rattle.std.proofs.lemmas.List.{take-map}
use Rattle.pub_set.specs.declared.objects.Object.{Object}
use Rattle.outlet_api.specs.Calls.{put, removal}
use Rattle.rrdp_text.specs.Texts.{snapshot_text, delta_text}
use Rattle.rrdp_state.specs.declared.next.NextDelta.{NextDelta}
use Rattle.rrdp_state.specs.declared.delta.Delta.{Delta}
use Rattle.rrdp_state.specs.Editions.{Edition, FollowEachOther, objects_of, edition_texts, edition_delta, delta_in, deltas_of}
use Rattle.rrdp_state.specs.Named.{FileName, Entry, fitting, most_named, snapshot_entry, delta_entry, named_deltas, named_files}
use Rattle.rrdp_state.specs.Named.FileName.{SnapshotOf, DeltaOf}
use Rattle.rrdp_state.specs.Paths.{path_of, notification_path}
use Rattle.rrdp_state.specs.Exported.{Repository, notification_of, entry_put, left_by, puts_of, removals_of}
use Rattle.rrdp_state.specs.Kept.{Kept, named_with, advanced, puts_with, kept_puts, kept_removals, down_from, run_files, left_runs}
use Rattle.rrdp_state.specs.State.{kept_of, StandsFor}
use Rattle.rrdp_state.proofs.Runs.{named_next, later_serial, later_delta}

-- A delta that can't be named is none, where none is named before the first.
pub named_with_is : (room serial : ℕ) (text : List ℕ) (first : Bool) (ds : List Delta) → (first ≡ true → ds ≡ [])
    → named_with serial room (cond (not first && nat_le (length text) room) (Some text) None) ds
    ≡ fitting most_named room (delta_in serial (cond first None (Some text)) ++ ds)
named_with_is room serial text true ds none = sym (ap (λ (l : List Delta). fitting most_named room l) (none refl))
named_with_is room serial text false ds none =
    let d : Delta = record { serial = serial; text = text } in
    elim (nat_le (length text) room) as (λ b. nat_le (length text) room ≡ b → named_with serial room (cond b (Some text) None) ds ≡ fitting most_named room (d ∷ ds)) [
      | true ↦ λ test. refl
      | false ↦ λ test. sym (ap (λ b. cond (nat_lt 0 most_named && b) (d ∷ fitting (most_named - 1) (room - length text) ds) []) test)
    ] refl

-- Before the first edition no delta is named.
pub first_none : (session : List ℕ) (older : List Edition) → nat_eq (length older + 1) 1 ≡ true → named_deltas session older ≡ []
first_none session [] first = refl
first_none session (last ∷ older) first = absurd (false≢true (sym (later_serial (length older)) ∙ first))

delta_named : (session : List ℕ) (older : List Edition) (edition : Edition) → FollowEachOther (edition ∷ older)
    → named_with (length older + 1) (length (edition_texts session older edition).snapshot) (edition_delta session older edition).delta (named_deltas session older)
    ≡ named_deltas session (edition ∷ older)
delta_named session older edition follow =
    named_with_is (length (edition_texts session older edition).snapshot) (length older + 1) (delta_text session (length older + 1) edition.changes)
    (nat_eq (length older + 1) 1) (named_deltas session older) (first_none session older)
    ∙ named_next session older edition follow

advanced_is : (repository : Repository) (older : List Edition) (edition : Edition) → FollowEachOther (edition ∷ older)
    → advanced (kept_of repository older) (length older + 1) (length (edition_texts repository.session older edition).snapshot)
    (edition_delta repository.session older edition).delta
    ≡ kept_of repository (edition ∷ older)
advanced_is repository [] edition follow =
    ap (λ (ds : List Delta). record (kept_of repository (edition ∷ [])) { deltas = ds }) (delta_named repository.session [] edition follow)
advanced_is repository (last ∷ older) edition follow =
    ap (λ (ds : List Delta). record (kept_of repository (edition ∷ (last ∷ older))) { deltas = ds }) (delta_named repository.session (last ∷ older) edition follow)

kept_session : (repository : Repository) (editions : List Edition) → (kept_of repository editions).session ≡ repository.session
kept_session repository [] = refl
kept_session repository (edition ∷ older) = refl

pub stands_next : (repository : Repository) (older : List Edition) (edition : Edition) (old new : Kept) (next : NextDelta) (objects : List Object)
    → StandsFor repository older old → FollowEachOther (edition ∷ older) → objects ≡ edition.objects → next ≡ edition_delta repository.session older edition
    → new ≡ advanced old next.serial (length (snapshot_text old.session next.serial objects)) next.delta → StandsFor repository (edition ∷ older) new
stands_next repository older edition old new next objects stands follow same delta is =
    let at : next.serial ≡ length older + 1 = ap (λ (n : NextDelta). n.serial) delta in
    let text : next.delta ≡ (edition_delta repository.session older edition).delta = ap (λ (n : NextDelta). n.delta) delta in
    let session : old.session ≡ repository.session = ap (λ (k : Kept). k.session) stands.state ∙ kept_session repository older in
    let long : length (snapshot_text old.session next.serial objects) ≡ length (edition_texts repository.session older edition).snapshot =
    λ i. length (snapshot_text (session i) (at i) (same i)) in
    record {
      follow = follow;
      state = is ∙ ((λ i. advanced (stands.state i) (at i) (long i) (text i)) ∙ advanced_is repository older edition follow);
    }

-- ---- puts

some_edition : (n : ℕ) → nat_lt 0 (n + 1) ≡ true
some_edition n = grind (arith, nat_tests)

kept_put : (repository : Repository) (older : List Edition) (edition : Edition) (all : Bool)
    → kept_puts (kept_of repository (edition ∷ older)) edition.objects all
    ≡ puts_with repository (length older + 1) (edition_texts repository.session older edition).snapshot (named_deltas repository.session (edition ∷ older)) all
kept_put repository older edition all =
    ap (λ b. cond b (puts_with repository (length older + 1) (edition_texts repository.session older edition).snapshot
    (named_deltas repository.session (edition ∷ older)) all) []) (some_edition (length older))

puts_are : (repository : Repository) (editions : List Edition) (all : Bool)
    → kept_puts (kept_of repository editions) (objects_of editions) all ≡ puts_of repository editions all
puts_are repository [] true = refl
puts_are repository [] false = refl
puts_are repository (edition ∷ older) true = kept_put repository older edition true
puts_are repository (edition ∷ older) false =
    kept_put repository older edition false
    ∙ ap (λ (l : List Entry). entry_put repository.session (snapshot_entry (length older + 1) (edition_texts repository.session older edition).snapshot)
    ∷ map (entry_put repository.session) l ++ put notification_path (notification_of repository older edition) ∷ [])
    (sym (take-map delta_entry 1 (named_deltas repository.session (edition ∷ older))))

pub stands_puts : (repository : Repository) (editions : List Edition) (kept : Kept) (objects : List Object) (all : Bool) → StandsFor repository editions kept
    → objects ≡ objects_of editions → kept_puts kept objects all ≡ puts_of repository editions all
stands_puts repository editions kept objects all stands same = (λ i. kept_puts (stands.state i) (same i) all) ∙ puts_are repository editions all

-- ---- removals

head_is : (a b : ℕ) (xs ys : List ℕ) → a ∷ xs ≡ b ∷ ys → a ≡ b
head_is a b xs ys h = cc

tail_is : (a b : ℕ) (xs ys : List ℕ) → a ∷ xs ≡ b ∷ ys → xs ≡ ys
tail_is a b xs ys h = cc

abbrev serial_in : Delta → ℕ
serial_in d = d.serial

serials_fit : (most room n : ℕ) (ds : List Delta) → map serial_in ds ≡ down_from n (length ds) → map serial_in (fitting most room ds) ≡ down_from n (length (fitting most room ds))
serials_fit most room n [] run = refl
serials_fit most room n (d ∷ ds) run =
    elim (nat_lt 0 most && nat_le (length d.text) room) as (λ b. map serial_in (cond b (d ∷ fitting (most - 1) (room - length d.text) ds) [])
    ≡ down_from n (length (cond b (d ∷ fitting (most - 1) (room - length d.text) ds) []))) [
      | true ↦
          (let first = head_is (serial_in d) n (map serial_in ds) (down_from (n - 1) (length ds)) run in
          let rest = serials_fit (most - 1) (room - length d.text) (n - 1) ds (tail_is (serial_in d) n (map serial_in ds) (down_from (n - 1) (length ds)) run) in
          cc)
      | false ↦ refl
    ]

serials_run : (session : List ℕ) (older : List Edition) (edition : Edition)
    → map serial_in (deltas_of session (edition ∷ older)) ≡ down_from (length older + 1) (length (deltas_of session (edition ∷ older)))
serials_run session [] edition = refl
serials_run session (last ∷ older) edition =
    let e : suc (length older) + 1 - 1 ≡ length older + 1 = omega arith in
    subst (λ (ds : List Delta). map serial_in (ds ++ deltas_of session (last ∷ older)) ≡ down_from (suc (length older) + 1) (length (ds ++ deltas_of session (last ∷ older))))
    (sym (later_delta session last edition older))
    (ap (λ (l : List ℕ). (suc (length older) + 1) ∷ l)
    (serials_run session older last ∙ ap (λ n. down_from n (length (deltas_of session (last ∷ older)))) (sym e)))

names_of : (ds : List Delta) → map (λ (entry : Entry). entry.name) (map delta_entry ds) ≡ map DeltaOf (map serial_in ds)
names_of [] = refl
names_of (d ∷ ds) = ap (λ (l : List FileName). DeltaOf d.serial ∷ l) (names_of ds)

files_run : (session : List ℕ) (older : List Edition) (edition : Edition)
    → named_files session (edition ∷ older) ≡ run_files (length older + 1) (length (named_deltas session (edition ∷ older)))
files_run session older edition =
    ap (λ (l : List FileName). SnapshotOf (length older + 1) ∷ l)
    (names_of (named_deltas session (edition ∷ older))
    ∙ ap (λ (l : List ℕ). map DeltaOf l) (serials_fit most_named (length (edition_texts session older edition).snapshot) (length older + 1) (deltas_of session (edition ∷ older)) (serials_run session older edition)))

runs_late : (serial named previous before : ℕ) → nat_lt serial 3 ≡ false
    → left_runs serial named previous before ≡ left_by (run_files (serial - 2) before) (run_files (serial - 1) previous) (run_files serial named)
runs_late serial named previous before late =
    ap (λ b. cond b [] (left_by (run_files (serial - 2) before) (run_files (serial - 1) previous) (run_files serial named))) late

left_is : (session : List ℕ) (older : List Edition) (edition : Edition)
    → left_runs (length older + 1) (length (named_deltas session (edition ∷ older))) (length (named_deltas session older)) (length (named_deltas session (drop 1 older)))
    ≡ left_by (named_files session (drop 1 older)) (named_files session older) (named_files session (edition ∷ older))
left_is session [] edition = refl
left_is session (last ∷ []) edition = refl
left_is session (last ∷ (first ∷ older)) edition =
    let serial = suc (suc (length older)) + 1 in
    let newest = named_files session (edition ∷ (last ∷ (first ∷ older))) in
    let named = length (named_deltas session (edition ∷ (last ∷ (first ∷ older)))) in
    let previous = length (named_deltas session (last ∷ (first ∷ older))) in
    let before = length (named_deltas session (first ∷ older)) in
    let late : nat_lt (suc (suc (length older)) + 1) 3 ≡ false = grind (arith, nat_tests) in
    let one : suc (suc (length older)) + 1 - 2 ≡ length older + 1 = omega arith in
    let two : suc (suc (length older)) + 1 - 1 ≡ suc (length older) + 1 = omega arith in
    runs_late (suc (suc (length older)) + 1) named previous before late
    ∙ (λ i. left_by
    ((ap (λ n. run_files n before) one ∙ sym (files_run session older first)) i)
    ((ap (λ n. run_files n previous) two ∙ sym (files_run session (first ∷ older) last)) i)
    (sym (files_run session (last ∷ (first ∷ older)) edition) i))

removals_are : (repository : Repository) (editions : List Edition) (all : Bool)
    → kept_removals (kept_of repository editions) all ≡ removals_of repository editions all
removals_are repository [] true = refl
removals_are repository [] false = refl
removals_are repository (edition ∷ older) true = refl
removals_are repository (edition ∷ older) false =
    ap (λ (l : List FileName). map (λ file. removal (path_of repository.session file)) l) (left_is repository.session older edition)

pub stands_removals : (repository : Repository) (editions : List Edition) (kept : Kept) (all : Bool) → StandsFor repository editions kept
    → kept_removals kept all ≡ removals_of repository editions all
stands_removals repository editions kept all stands = ap (λ (k : Kept). kept_removals k all) stands.state ∙ removals_are repository editions all
