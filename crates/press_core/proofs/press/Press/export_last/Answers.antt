use Rattle.std.proofs.Common.{ap, ◌∙◌, List, ℕ}
use Rattle.std.specs.Prelude.{option_map}
use Rattle.outlet_api.specs.Calls.{Call, after_all}
use Rattle.editions.specs.PublishedState.{PublishedStateValue}
use Rattle.rrdp_state.specs.Exported.{export_calls}
use Rattle.press_core.specs.Exports.{puts_all, anchor_puts}
use Rattle.press_core.proofs.AfterExports.{on_ok, calls_then}
use Rattle.press_core.proofs.press.Press.export_last.Goals as goal

pub returns-clause-done : goal.returns-clause-done
returns-clause-done g c =
    on_ok c.export.result _ _
    (λ done editions has. done
    ∙ ap (λ (calls : List Call). option_map (after_all calls) (g.O.Outlet.files c.args.outlet.now))
    (calls_then _ c.args.self.now c.self.view_is editions has c.self.invariant.1 c.requires c.in_ok-files.files _
    (c.puts_all-all.ensures ∙ ap (λ (serial : ℕ). puts_all c.self.inside.last_export serial) c.serial.ensures)
    (λ repository es stands set some.
    c.in_ok-files.ensures repository es stands (ap (λ (at : PublishedStateValue). at.set) c.state.ensures ∙ set) some
    ∙ ap (λ (at : PublishedStateValue). export_calls repository es c.puts_all-all.result (anchor_puts c.self.inside.site at)) c.state.ensures)))
    c.export.ensures.done
