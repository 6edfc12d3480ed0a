-- What reading the body of a manifest answers (RFC 9286 section 4.2).
use Rattle.std.specs.Prelude.{ℕ, Option, List, map, Result}
use Rattle.der.specs.Object.{read_object}
use Rattle.payloads.specs.declared.fault.BodyFault.{BodyFault}
use Rattle.payloads.specs.declared.manifest.ManifestBody.{ManifestBody}
use Rattle.payloads.specs.declared.manifest.PlacedBody.{PlacedBody}
use Rattle.payloads.specs.Order.{first_unordered}
use Rattle.payloads.specs.Outcome.{ordered}
use Rattle.payloads.specs.ManifestFormats.{ManifestOf, Manifest, listed_files, placed_manifest, is_name_below, file_view, placed_file_view}

abbrev pub manifest_view : ManifestBody → Manifest
manifest_view body =
    (body.number, (body.this_update, (body.next_update, map file_view body.files.items)))

abbrev pub placed_view : PlacedBody → ManifestOf (ℕ × List ℕ)
placed_view body =
    (body.number, (body.this_update, (body.next_update, map placed_file_view body.files.items)))

abbrev pub without_place : (ℕ × List ℕ) × List ℕ → List ℕ × List ℕ
without_place ((at, name), hash) = (name, hash)

-- The value without the places, and the place of the first name that isn't above the one before it.
abbrev pub manifest_value : ManifestOf (ℕ × List ℕ) → Manifest
manifest_value (number, (this_update, (next_update, files))) =
    (number, (this_update, (next_update, map without_place files)))

abbrev pub unordered_name : ManifestOf (ℕ × List ℕ) → Option ℕ
unordered_name x = first_unordered is_name_below (map (λ file. file.0) (listed_files x))

-- The answer: the value where its names rise, and else the place of the first that isn't above
-- the one before it.
unfoldable pub manifest_read : List ℕ → Result Manifest BodyFault
manifest_read bytes = ordered manifest_value unordered_name (read_object placed_manifest bytes)
