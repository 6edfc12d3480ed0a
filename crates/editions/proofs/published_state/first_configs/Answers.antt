use Rattle.std.proofs.Common.{◌≡◌, ◌+◌, List, [], ◌∷◌, ◌++◌, Some, length, sym, ap, subst, ◌∙◌, arith}
use Rattle.std.specs.Prelude.{slice_get}
use Rattle.std.proofs.lemmas.List.{length-map, length_push, map-append}
use Rattle.authority_book.specs.Settings.{Settings, ConfigValue}
use Rattle.authority_book.specs.Fold.{empty_settings}
use Rattle.entitle.specs.Certified.{settings_of}
use Rattle.editions.proofs.StateLemmas.Growing.{each-grown}
use Rattle.editions.proofs.published_state.first_configs.Goals as goal

pub loop-desk-preserved : goal.loop-desk-preserved
loop-desk-preserved c =
    let configs = c.loop-desk.configs.items in
    let settings : ConfigValue → Settings = λ config. config.settings in
    let new : ConfigValue = c.in_ok-new.field-0 in
    let put : c.push.new.self.items ≡ configs ++ new ∷ [] = c.in_ok-push.ensures.items in
    let both : settings_of c.push.new.self.items ≡ settings_of configs ++ new.settings ∷ [] = ap settings_of put ∙ map-append settings configs (new ∷ []) in
    let long : length (settings_of configs) ≡ length configs = length-map configs settings in
    let count : length (settings_of configs) ≡ c.loop-desk.desk = long ∙ c.loop-desk.invariant.count in
    let one_more : length (configs ++ new ∷ []) ≡ length configs + 1 = length_push configs new in
    let longer : length c.push.new.self.items ≡ length configs + 1 = ap length put ∙ one_more in
    record {
      count = omega (arith, longer, c.loop-desk.invariant.count);
      each = λ desk less.
          subst (λ (l : List Settings). slice_get l desk ≡ Some (empty_settings desk)) (sym both)
          (each-grown empty_settings (settings_of configs) new.settings (λ k inside. c.loop-desk.invariant.each k (omega (arith, inside, count)))
          (c.in_ok-new.ensures ∙ ap empty_settings (sym count)) desk (omega (arith, less, count)));
    }
