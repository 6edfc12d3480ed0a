use Rattle.std.proofs.Common.{◌≡◌, ℕ, List, map, sym, ap, ◌∙◌, rules}
use Rattle.std.specs.List.{list_all}
use Rattle.std.proofs.lemmas.Bool.{false≢true}
use Rattle.payloads.specs.declared.values.ListedFile.{ListedFile}
use Rattle.payloads.specs.Order.{rises}
use Rattle.payloads.specs.ManifestFormats.{is_name_below, name_of, file_view}
use Rattle.payloads.proofs.ListedFiles.{is_named, all-named, all-files, names-viewed}
use Rattle.payloads.proofs.manifest.ManifestBody.has_spelling.Goals as goal

pub returns-then-not-have_names : goal.returns-then-not-have_names
returns-then-not-have_names c = (
  λ yes. absurd (false≢true yes),
  λ is. sym c.if-not-have_names.true ∙ c.have_names.ensures ∙ ap (list_all is_named) c.deref.ensures.value ∙ all-named c.args.self.now.files.items is.files,
)

pub returns : goal.returns
returns c =
    let items = c.args.self.now.files.items in
    let told : c.are_rising.result ≡ rises is_name_below (map (λ (f : List ℕ × List ℕ). f.0) (map file_view items)) =
    c.are_rising.ensures ∙ ap (λ (l : List ListedFile). rises is_name_below (map name_of l)) c.deref-2.ensures.value ∙ ap (rises is_name_below) (sym (names-viewed items)) in (
      λ yes. record {
        number = search rules;
        this_update = c.is_moment.ensures.0 c.if-not-is_moment.false;
        next_update = c.is_moment-else-not-is_moment.ensures.0 c.if-not-is_moment-2.false;
        files = all-files items (sym (c.have_names.ensures ∙ ap (list_all is_named) c.deref.ensures.value) ∙ c.if-not-have_names.false);
        rises = sym told ∙ yes;
      },
      λ is. told ∙ is.rises,
    )
