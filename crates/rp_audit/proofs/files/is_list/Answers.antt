use Rattle.std.proofs.Common.{◌≡◌, ℕ, List, true, length, map, sym, ap, ◌∙◌}
use Rattle.std.specs.Prelude.{◌==◌}
use Rattle.std.specs.List.{filter, list_all}
use Rattle.std.proofs.lemmas.List.Folds.{list_all-map}
use Rattle.payloads.specs.declared.values.ListedFile.{ListedFile}
use Rattle.payloads.specs.ManifestFormats.{Manifest, names, name_of, file_view}
use Rattle.payloads.specs.ManifestReading.{manifest_view}
use Rattle.rp_rules.specs.Authorities.{listed_uri, manifest_place}
use Rattle.rp_rules.specs.Certificates.{File, is_among}
use Rattle.rp_rules.specs.Points.{files_of, is_crl_file, is_file_in_use}
use Rattle.rp_audit.specs.inner.Views.{authority_value}
use Rattle.rp_audit.proofs.Lists.{count_views, names_viewed, list_rising}
use Rattle.rp_audit.proofs.files.is_list.Goals as goal

pub returns : goal.returns
returns c =
    let files : List ListedFile = c.as_slice-files.result.now in
    let manifest : Manifest = manifest_view c.args.body.now in
    let a = authority_value c.args.authority.now in
    let same : files_of manifest ≡ map file_view files = ap (λ (fs : List ListedFile). map file_view fs) (sym c.as_slice-files.ensures.value) in
    let called : names manifest ≡ map name_of files = names_viewed files manifest same in
    c.are_all.ensures
    ∙ list_rising a manifest _ c.in_ok-own.own _ c.requires
    (ap (λ (n : ℕ). n == 1) (c.count_crls-one.ensures ∙ (count_views files ∙ ap (λ (fs : List File). length (filter is_crl_file fs)) (sym same))))
    (c.in_ok-own.ensures ∙ ap (λ (ns : List (List ℕ)). is_among (map (listed_uri a) ns) (manifest_place a)) (sym called))
    (c.are_in_use-used.ensures ∙ (sym (list_all-map is_file_in_use file_view files) ∙ ap (λ (fs : List File). list_all is_file_in_use fs) (sym same)))
