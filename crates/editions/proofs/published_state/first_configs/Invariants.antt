use Rattle.std.proofs.Common.{◌≡◌, ℕ, ◌<◌, length, Some}
use Rattle.std.specs.Prelude.{slice_get}
use Rattle.authority_book.specs.Fold.{empty_settings}
use Rattle.entitle.specs.Certified.{settings_of}
use Rattle.editions.proofs.published_state.first_configs.Given as goal

abbrev pub invariant-loop-desk : goal.invariant-loop-desk
invariant-loop-desk l = record {
  count : length l.configs.items ≡ l.desk;
  each : (desk : ℕ) → desk < l.desk → slice_get (settings_of l.configs.items) desk ≡ Some (empty_settings desk);
}
