use Rattle.std.proofs.Common.{arith}
use Rattle.std.proofs.lemmas.Grind.{common_steps}
use Rattle.res_sets.proofs.Lists.{RisesFrom-push, room_from-push}
use Rattle.res_sets.proofs.merging.push_before.Goals as goal

pub returns-in_ok-push-clause-rises : goal.returns-in_ok-push-clause-rises
returns-in_ok-push-clause-rises c = grind (arith, common_steps, RisesFrom-push)

pub returns-in_ok-push-clause-room : goal.returns-in_ok-push-clause-room
returns-in_ok-push-clause-room c = grind (arith, common_steps, room_from-push)
