-- Files and what is seen of them.
use Rattle.std.proofs.Common.{◌≡◌, ℕ, Bool, true, ◌&&◌, List, [], ◌∷◌, map, refl, ap, ◌∙◌}
use Rattle.std.specs.List.{list_all}
use Rattle.std.proofs.lemmas.Bool.{and_parts}
use Rattle.der.specs.Forms.{AreAll}
use Rattle.payloads.specs.declared.values.ListedFile.{ListedFile}
use Rattle.payloads.specs.ManifestFormats.{IsFile, is_name, name_of, file_view, placed_file_view}

-- The names with the places at which they start.
pub names-placed : (items : List (ℕ × ListedFile)) → map (λ (f : (ℕ × List ℕ) × List ℕ). f.0) (map placed_file_view items) ≡ map (λ (x : ℕ × ListedFile). (x.0, name_of x.1)) items
names-placed [] = refl
names-placed (x ∷ items) = ap (λ (l : List (ℕ × List ℕ)). (x.0, name_of x.1) ∷ l) (names-placed items)

pub files-unplaced : (items : List (ℕ × ListedFile)) → map (λ (f : (ℕ × List ℕ) × List ℕ). (f.0.1, f.1)) (map placed_file_view items) ≡ map file_view (map (λ (x : ℕ × ListedFile). x.1) items)
files-unplaced [] = refl
files-unplaced (x ∷ items) = ap (λ (l : List (List ℕ × List ℕ)). file_view x.1 ∷ l) (files-unplaced items)

pub names-viewed : (items : List ListedFile) → map (λ (f : List ℕ × List ℕ). f.0) (map file_view items) ≡ map name_of items
names-viewed [] = refl
names-viewed (x ∷ items) = ap (λ (l : List (List ℕ)). name_of x ∷ l) (names-viewed items)

-- Whether a file's name is one.
abbrev pub is_named : ListedFile → Bool
is_named f = is_name (name_of f)

both-true : (a b : Bool) → a ≡ true → b ≡ true → (a && b) ≡ true
both-true a b first second = ap (λ (x : Bool). x && b) first ∙ second

pub all-named : (items : List ListedFile) → AreAll IsFile (map file_view items) → list_all is_named items ≡ true
all-named [] is = refl
all-named (x ∷ items) is = both-true (is_named x) (list_all is_named items) is.0.name (all-named items is.1)

pub all-files : (items : List ListedFile) → list_all is_named items ≡ true → AreAll IsFile (map file_view items)
all-files [] named = tt
all-files (x ∷ items) named =
    let p = and_parts (is_named x) (list_all is_named items) named in
    (record { name = p.0; hash = x.hash_size }, all-files items p.1)
