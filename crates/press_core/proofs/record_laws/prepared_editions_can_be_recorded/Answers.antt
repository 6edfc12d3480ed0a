use Rattle.press_core.proofs.Recorded.{can-be-recorded}
use Rattle.press_core.proofs.record_laws.prepared_editions_can_be_recorded.Goals as goal

pub returns : goal.returns
returns c = λ start ring prepared is kept staged hashes typed before alike.
    can-be-recorded c.the_plans_keys_are_next.ensures start ring prepared is kept staged hashes typed before alike
