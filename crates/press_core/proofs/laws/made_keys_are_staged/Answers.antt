use Rattle.press_core.proofs.KeyStages.{made-staged}
use Rattle.press_core.proofs.laws.made_keys_are_staged.Goals as goal

pub returns : goal.returns
returns c = made-staged (record { planned = c.the_plans_keys_are_next.ensures; names = c.accepted_names_are_apart.ensures })
