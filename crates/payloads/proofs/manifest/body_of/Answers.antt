use Rattle.std.proofs.Common.{◌≡◌, ℕ, List, Ok, map, sym, ap, ◌∙◌}
use Rattle.payloads.specs.declared.values.ListedFile.{ListedFile}
use Rattle.payloads.specs.Order.{first_unordered}
use Rattle.payloads.specs.Outcome.{value_or}
use Rattle.payloads.specs.ManifestFormats.{is_name_below, name_of, file_view}
use Rattle.payloads.specs.ManifestReading.{placed_view, manifest_value, unordered_name}
use Rattle.payloads.proofs.ListedFiles.{names-placed, files-unplaced}
use Rattle.payloads.proofs.manifest.body_of.Goals as goal

pub returns-in-Some : goal.returns-in-Some
returns-in-Some c differs =
    let items = c.args.placed.files.items in
    let told : c.first_unordered.result ≡ unordered_name (placed_view c.args.placed) =
    c.first_unordered.ensures
    ∙ ap (λ (l : List (ℕ × ListedFile)). first_unordered is_name_below (map (λ (x : ℕ × ListedFile). (x.0, name_of x.1)) l)) c.deref.ensures.value
    ∙ ap (first_unordered is_name_below) (sym (names-placed items)) in
    ap (value_or (manifest_value (placed_view c.args.placed))) (sym told ∙ c.in-Some.is)

pub returns-in_ok-files-in-None : goal.returns-in_ok-files-in-None
returns-in_ok-files-in-None c =
    let items = c.args.placed.files.items in
    let told : c.first_unordered.result ≡ unordered_name (placed_view c.args.placed) =
    c.first_unordered.ensures
    ∙ ap (λ (l : List (ℕ × ListedFile)). first_unordered is_name_below (map (λ (x : ℕ × ListedFile). (x.0, name_of x.1)) l)) c.deref.ensures.value
    ∙ ap (first_unordered is_name_below) (sym (names-placed items)) in
    ap (value_or (manifest_value (placed_view c.args.placed))) (sym told ∙ c.in-None.is)
    ∙ ap (λ (l : List (List ℕ × List ℕ)). Ok (c.args.placed.number, (c.args.placed.this_update, (c.args.placed.next_update, l)))) (files-unplaced items ∙ ap (map file_view) (sym c.in_ok-files-in-None.ensures))
