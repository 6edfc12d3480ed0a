use Rattle.std.proofs.Common.{List, Option, String, Global, string_bytes, ap, subst, ◌∙◌}
use Rattle.std.specs.Option.{option_map}
use Rattle.authority_book.specs.Settings.{ConfigValue}
use Rattle.entitle.specs.Certified.{settings_of, names_of}
use Rattle.press_core.specs.inner.Resumed.{owed_places, yielded_places, IsOtherPlace}
use Rattle.press_core.proofs.Origins.{AreOriginLaws}
use Rattle.press_core.proofs.Compared.{origins-same, origins-other}
use Rattle.press_core.proofs.opening.compare_origins.Goals as goal

pub returns-in-Some-clause-refused : goal.returns-in-Some-clause-refused
returns-in-Some-clause-refused c =
    let laws : AreOriginLaws = record {
      apart = c.origins_are_told_apart.ensures;
      prefix = c.same_numbers_same_origin.ensures.prefix;
      origin = c.same_numbers_same_origin.ensures.origin;
    } in
    let names = c.names_of-names.result.now in
    let rows = c.deref-2.result.now in
    let found = c.origins.result.now in
    origins-other laws c.args.site.now c.args.owing.now names rows found c.args.audited.now.origins
    (c.names_of-names.ensures.names ∙ ap (λ (configs : List ConfigValue). names_of (settings_of configs)) c.deref.ensures.value) c.deref-2.ensures.value c.origins.ensures
    c.requires.owes c.names_of-names.ensures.plain c.requires.folders (string_bytes c.in-Some.uri)
    (subst (λ (o : Option (String Global)). IsOtherPlace (owed_places c.args.site.now names rows) (yielded_places found) (option_map string_bytes o)) c.in-Some.is c.in_ok-other.ensures)

pub returns-in-None-clause-same : goal.returns-in-None-clause-same
returns-in-None-clause-same c =
    let laws : AreOriginLaws = record {
      apart = c.origins_are_told_apart.ensures;
      prefix = c.same_numbers_same_origin.ensures.prefix;
      origin = c.same_numbers_same_origin.ensures.origin;
    } in
    let names = c.names_of-names.result.now in
    let rows = c.deref-2.result.now in
    let found = c.origins.result.now in
    origins-same laws c.args.site.now c.args.owing.now names rows found c.args.audited.now.origins
    (c.names_of-names.ensures.names ∙ ap (λ (configs : List ConfigValue). names_of (settings_of configs)) c.deref.ensures.value) c.deref-2.ensures.value c.origins.ensures
    c.requires.owes c.names_of-names.ensures.plain c.requires.folders
    (subst (λ (o : Option (String Global)). IsOtherPlace (owed_places c.args.site.now names rows) (yielded_places found) (option_map string_bytes o)) c.in-None.is c.in_ok-other.ensures)
