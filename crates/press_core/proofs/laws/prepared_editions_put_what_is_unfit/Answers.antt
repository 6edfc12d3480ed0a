use Rattle.press_core.proofs.Incremental.{incremental}
use Rattle.press_core.proofs.laws.prepared_editions_put_what_is_unfit.Goals as goal

pub returns : goal.returns
returns c = λ start ring prepared is.
    incremental c.the_plans_keys_are_next.ensures c.signatures_are_of_the_work.ensures.counted start ring prepared is
