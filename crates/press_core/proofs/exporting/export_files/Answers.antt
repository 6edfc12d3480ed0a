use Rattle.std.proofs.Common.{ap, ◌∙◌, List}
use Rattle.editions.specs.PublishedState.{PublishedStateValue}
use Rattle.outlet_api.specs.Calls.{Call}
use Rattle.rrdp_state.specs.Exported.{export_calls}
use Rattle.press_core.proofs.AfterExports.{calls_with}
use Rattle.press_core.proofs.exporting.export_files.Goals as goal

pub returns : goal.returns
returns c = λ repository editions stands set some.
    calls_with repository editions c.args.all c.in_ok-files.files.puts.items c.put_before_last.new.puts.items c.in_ok-beside.beside.items
    c.in_ok-files.files.removes.items some
    (c.in_ok-files.ensures.puts repository editions stands (ap (λ (at : PublishedStateValue). at.set) c.parts.ensures.parts ∙ set))
    (c.in_ok-files.ensures.removes repository editions stands)
    c.in_ok-put_before_last.ensures
    ∙ ap (λ (beside : List Call). export_calls repository editions c.args.all beside) c.in_ok-beside.ensures
