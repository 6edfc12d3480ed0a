use Rattle.std.proofs.Common.{◌≡◌, List, subst}
use Rattle.std.specs.Prelude.{OnOk, option_map}
use Rattle.outlet_api.specs.Calls.{after_all}
use Rattle.editions.specs.Edition.{Edition}
use Rattle.press_core.specs.Files.{HasFilesOf}
use Rattle.press_core.specs.Exports.{export_of}
use Rattle.press_core.specs.Stored.{StoredValue}
use Rattle.press_core.proofs.stored.StoredPress.export_to.Goals as goal

pub returns-clause-done : goal.returns-clause-done
returns-clause-done g c =
    subst (λ (s : StoredValue _). OnOk c.export_to.result ((editions : List Edition) → HasFilesOf editions s.press
    → g.O.Outlet.files c.export_to.new.outlet ≡ option_map (after_all (export_of s.press editions)) (g.O.Outlet.files c.args.outlet.now)))
    c.self.view_is c.export_to.ensures.done
