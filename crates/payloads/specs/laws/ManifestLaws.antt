-- The laws of files and of bodies of manifests.
use Rattle.std.proofs.Common.{◌≡◌, ℕ, true, false, Some, None, List, [], ◌∷◌, map, Result, Ok, refl, sym, ap, ◌∙◌}
use Rattle.der.specs.Tags as tag
use Rattle.der.specs.declared.shape_fault.ShapeFault.{ShapeFault}
use Rattle.der.specs.Part.{Place, ◌>>=◌, open_at}
use Rattle.der.specs.Form.{Whole, IsWhole, IsFront}
use Rattle.der.specs.Forms.{content, within, sole, both, many, AreAll}
use Rattle.der.specs.Leaves.{number, octet_bits}
use Rattle.der.specs.laws.FormLaws.{content-law, within-law, bind-ok, same-ok}
use Rattle.der.specs.laws.FrameLaws.{sole-law, preceded-law}
use Rattle.der.specs.laws.SequenceLaws.{both-law}
use Rattle.der.specs.laws.ValueLaws.{tested-law}
use Rattle.der.specs.laws.ListLaws.{IsMoving, front-moves, many-law}
use Rattle.der.specs.laws.LeafLaws.{number-law, octet_bits-law}
use Rattle.object_parts.specs.TimeFormats.{general_time}
use Rattle.object_parts.specs.laws.TimeLaws.{general_time-law}
use Rattle.object_parts.specs.FrameFormats.{identifier}
use Rattle.object_parts.specs.laws.FrameLaws.{identifier-law}
use Rattle.object_parts.specs.declared.identifiers.TheConstants.{SHA256}
use Rattle.payloads.specs.Order.{rises}
use Rattle.payloads.specs.laws.PlacedLaws.{pair, Sees, SeesFront, whole-sees, front-sees, placed-sees, within-sees, sole-sees, both-sees, preceded-sees, many-sees}
use Rattle.payloads.specs.laws.RoaLaws.{none-unordered, some-unordered}
use Rattle.payloads.specs.ManifestFormats.{is_name, name_content, file_name, file_content, file, files, ManifestOf, Manifest, manifest_body, unordered_manifest, placed_name, placed_manifest, is_name_below, is_rising_manifest, IsFile, IsManifest}
use Rattle.payloads.specs.ManifestReading.{manifest_value, unordered_name}

-- ---- an element whose content any reading reads

pub within-moves : {A : Type 0} (tag : ℕ) (f : Whole A) → IsMoving (within tag f)
within-moves {A = A} tag f = record {
  place = λ x p q is e. let t = split x p q e in moves.place t.0 p q is t.1;
  fewer = λ x p q is e. let t = split x p q e in moves.fewer t.0 p q is t.1;
}
  where
    moves : IsMoving (within tag content)
    moves = front-moves (within tag content) (within-law tag content content-law)

    split : (x : A) (p q : Place) → (within tag f).read p ≡ Ok (x, q)
        → (bytes : List ℕ) × ((within tag content).read p ≡ Ok (bytes, q))
    split x p q e =
        let a = bind-ok (open_at tag p)
        (λ (o : Place × Place). f.read o.0 >>= (λ (y : A). pair y o.1)) (x, q) e in
        let b = bind-ok (f.read a.0.0) (λ (y : A). pair y a.0.1) (x, q) a.2 in
        let same : (b.0, a.0.1) ≡ (x, q) = same-ok {A = A × Place} _ _ b.2 in (
          a.0.0.left,
          ap (λ (r : Result (Place × Place) ShapeFault).
              r >>= (λ (o : Place × Place). pair o.0.left o.1)) a.1
              ∙ ap (λ (y : A × Place). pair a.0.0.left y.1) same,
        )

-- ---- files and bodies

pub file_name-law : IsFront file_name
file_name-law = within-law tag.ia5_string name_content (tested-law content is_name content-law)

pub file-law : IsFront (file file_name)
file-law =
    within-law tag.sequence (file_content file_name)
    (both-law file_name (sole tag.bit_string (octet_bits 32)) file_name-law
    (sole-law tag.bit_string (octet_bits 32) (octet_bits-law 32)))

files-law : IsWhole (files file_name)
files-law =
    preceded-law (identifier SHA256) (sole tag.sequence (many (file file_name)))
    (identifier-law SHA256) tt
    (sole-law tag.sequence (many (file file_name)) (many-law (file file_name) file-law))

pub unordered_manifest-law : IsWhole unordered_manifest
unfolding manifest_body
unordered_manifest-law =
    sole-law tag.sequence (both number (both general_time (both general_time (files file_name))))
    (both-law number (both general_time (both general_time (files file_name))) number-law
    (both-law general_time (both general_time (files file_name)) general_time-law
    (both-law general_time (files file_name) general_time-law files-law)))

-- ---- what is good

each-file : (xs : List (List ℕ × List ℕ)) → AreAll IsFile xs → AreAll (file file_name).good xs
each-file [] is = tt
each-file (x ∷ xs) is = (((tt, is.0.name), is.0.hash), each-file xs is.1)

file-each : (xs : List (List ℕ × List ℕ)) → AreAll (file file_name).good xs → AreAll IsFile xs
file-each [] good = tt
file-each (x ∷ xs) good = (record { name = good.0.0.1; hash = good.0.1 }, file-each xs good.1)

pub manifest-unordered : (value : Manifest) → IsManifest value → unordered_manifest.good value
unfolding manifest_body
manifest-unordered value is =
    (is.number, (is.this_update, (is.next_update, each-file value.1.1.1 is.files)))

pub unordered-manifest : (value : Manifest) → unordered_manifest.good value
    → is_rising_manifest value ≡ true → IsManifest value
unfolding manifest_body
unordered-manifest value good up = record {
  number = good.0;
  this_update = good.1.0;
  next_update = good.1.1.0;
  files = file-each value.1.1.1 good.1.1.1;
  rises = up;
}

-- ---- the reading with places

abbrev seen_file : (ℕ × List ℕ) × List ℕ → List ℕ × List ℕ
seen_file x = (x.0.1, x.1)

abbrev seen_name : ℕ × List ℕ → List ℕ
seen_name x = x.1

abbrev same_bytes : List ℕ → List ℕ
same_bytes x = x

abbrev same_number : ℕ → ℕ
same_number x = x

file-sees : SeesFront seen_file (file file_name) (file placed_name)
file-sees =
    within-sees seen_file tag.sequence (file_content file_name) (file_content placed_name)
    (both-sees seen_name same_bytes file_name (sole tag.bit_string (octet_bits 32)) placed_name
    (sole tag.bit_string (octet_bits 32))
    (placed-sees file_name) (whole-sees (sole tag.bit_string (octet_bits 32))))

abbrev seen_files : List ((ℕ × List ℕ) × List ℕ) → List (List ℕ × List ℕ)
seen_files xs = map seen_file xs

files-sees : Sees seen_files (files file_name) (files placed_name)
files-sees =
    preceded-sees seen_files (identifier SHA256) (sole tag.sequence (many (file file_name)))
    (sole tag.sequence (many (file placed_name)))
    (sole-sees seen_files tag.sequence (many (file file_name)) (many (file placed_name))
    (many-sees seen_file (file file_name) (file placed_name) file-sees))

abbrev seen_next : ℕ × List ((ℕ × List ℕ) × List ℕ) → ℕ × List (List ℕ × List ℕ)
seen_next x = (x.0, seen_files x.1)

abbrev seen_times : ℕ × (ℕ × List ((ℕ × List ℕ) × List ℕ)) → ℕ × (ℕ × List (List ℕ × List ℕ))
seen_times x = (x.0, seen_next x.1)

pub manifest-sees : Sees manifest_value unordered_manifest placed_manifest
unfolding manifest_body
manifest-sees =
    sole-sees manifest_value tag.sequence
    (both number (both general_time (both general_time (files file_name))))
    (both number (both general_time (both general_time (files placed_name))))
    (both-sees same_number seen_times number
    (both general_time (both general_time (files file_name))) number
    (both general_time (both general_time (files placed_name))) (front-sees number)
    (both-sees same_number seen_next general_time (both general_time (files file_name))
    general_time (both general_time (files placed_name)) (front-sees general_time)
    (both-sees same_number seen_files general_time (files file_name) general_time
    (files placed_name) (front-sees general_time) files-sees)))

-- ---- the first name that isn't above the one before it

names-alike : (xs : List ((ℕ × List ℕ) × List ℕ))
    → map seen_name (map (λ (f : (ℕ × List ℕ) × List ℕ). f.0) xs)
    ≡ map (λ (f : List ℕ × List ℕ). f.0) (map seen_file xs)
names-alike [] = refl
names-alike (x ∷ xs) = ap (λ (l : List (List ℕ)). x.0.1 ∷ l) (names-alike xs)

pub none-name : (x : ManifestOf (ℕ × List ℕ)) → unordered_name x ≡ None
    → is_rising_manifest (manifest_value x) ≡ true
none-name x e = ap (rises is_name_below) (sym (names-alike x.1.1.1))
    ∙ none-unordered is_name_below (map (λ (f : (ℕ × List ℕ) × List ℕ). f.0) x.1.1.1) e

pub some-name : (x : ManifestOf (ℕ × List ℕ)) (at : ℕ) → unordered_name x ≡ Some at
    → is_rising_manifest (manifest_value x) ≡ false
some-name x at e = ap (rises is_name_below) (sym (names-alike x.1.1.1))
    ∙ some-unordered is_name_below (map (λ (f : (ℕ × List ℕ) × List ℕ). f.0) x.1.1.1) at e
