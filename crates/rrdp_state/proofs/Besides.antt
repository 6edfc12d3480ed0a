-- Files beside are left as they are put.
use Rattle.std.proofs.Common.{◌≡◌, ℕ, true, false, cond, refl, sym, ◌∙◌, ap, map, List, [], ◌∷◌, ◌++◌, Bool, take}
use Rattle.std.specs.Prelude.{Option}
use Rattle.std.specs.List.{AllByRecursion}
use Rattle.std.specs.Str.{bytes_eq}
use Rattle.outlet_api.specs.Calls.{Files, Call, removal, after, after_all}
use Rattle.rrdp_state.specs.Editions.{Edition}
use Rattle.rrdp_state.specs.Named.{FileName, Entry, named_entries}
use Rattle.rrdp_state.specs.Paths.{path_of}
use Rattle.rrdp_state.specs.Exported.{Repository, entry_put, file_puts, notification_put, left_files, removals_of, IsBeside, export_calls}
use Rattle.rrdp_state.proofs.Places.{file_beside}
use Rattle.rrdp_state.proofs.Entries.{all_map}
use Rattle.rrdp_state.proofs.Exports.{after_append, untouched}

abbrev Elsewhere : List ℕ → List Call → Type 0
Elsewhere path calls = AllByRecursion (λ (call : Call). call.path ≡ path → ⊥) calls

elsewhere : (path : List ℕ) (calls : List Call) → Elsewhere path calls → (files : Files) → after_all calls files path ≡ files path
elsewhere path [] apart files = refl
elsewhere path (call ∷ calls) apart files = elsewhere path calls apart.1 (after call files) ∙ untouched call files path apart.0

same_there : (path : List ℕ) (calls : List Call) (one other : Files) → one path ≡ other path → after_all calls one path ≡ after_all calls other path
same_there path [] one other same = same
same_there path (call ∷ calls) one other same =
    same_there path calls (after call one) (after call other) (ap (λ (held : Option (List ℕ)). cond (bytes_eq call.path path) call.left held) same)

every : {X : Type 0} (P : X → Type 0) → ((x : X) → P x) → (xs : List X) → AllByRecursion P xs
every P holds [] = tt
every P holds (x ∷ xs) = (holds x, every P holds xs)

puts_elsewhere : (session path : List ℕ) → IsBeside path → (entries : List Entry) → Elsewhere path (map (entry_put session) entries)
puts_elsewhere session path is entries =
    all_map (λ (call : Call). call.path ≡ path → ⊥) (entry_put session) entries
    (every (λ (entry : Entry). path_of session entry.name ≡ path → ⊥) (λ entry same. file_beside session entry.name path is same) entries)

file_puts_elsewhere : (repository : Repository) (editions : List Edition) (all : Bool) (path : List ℕ) → IsBeside path → Elsewhere path (file_puts repository editions all)
file_puts_elsewhere repository editions true path is = puts_elsewhere repository.session path is (named_entries repository.session editions)
file_puts_elsewhere repository editions false path is = puts_elsewhere repository.session path is (take 2 (named_entries repository.session editions))

notification_elsewhere : (repository : Repository) (editions : List Edition) (path : List ℕ) → IsBeside path → Elsewhere path (notification_put repository editions)
notification_elsewhere repository [] path is = tt
notification_elsewhere repository (edition ∷ older) path is = (λ same. is.other (sym same), tt)

removals_elsewhere : (repository : Repository) (editions : List Edition) (all : Bool) (path : List ℕ) → IsBeside path → Elsewhere path (removals_of repository editions all)
removals_elsewhere repository editions true path is = tt
removals_elsewhere repository editions false path is =
    all_map (λ (call : Call). call.path ≡ path → ⊥) (λ file. removal (path_of repository.session file)) (left_files repository.session editions)
    (every (λ (file : FileName). path_of repository.session file ≡ path → ⊥) (λ file same. file_beside repository.session file path is same) (left_files repository.session editions))

pub beside_left : (repository : Repository) (editions : List Edition) (all : Bool) (beside : List Call) (files : Files) (path : List ℕ) → IsBeside path
    → after_all (export_calls repository editions all beside) files path ≡ after_all beside files path
beside_left repository editions all beside files path is =
    let puts = file_puts repository editions all in
    let note = notification_put repository editions in
    let gone = removals_of repository editions all in
    let one = after_all puts files in
    let two = after_all beside one in
    let three = after_all note two in
    ap (λ (f : Files). f path) (after_append (puts ++ beside ++ note) gone files)
    ∙ (ap (λ (f : Files). after_all gone f path) (after_append (puts ++ beside) note files)
    ∙ (ap (λ (f : Files). after_all gone (after_all note f) path) (after_append puts beside files)
    ∙ (elsewhere path gone (removals_elsewhere repository editions all path is) three
    ∙ (elsewhere path note (notification_elsewhere repository editions path is) two
    ∙ same_there path beside one files (elsewhere path puts (file_puts_elsewhere repository editions all path is) files)))))
