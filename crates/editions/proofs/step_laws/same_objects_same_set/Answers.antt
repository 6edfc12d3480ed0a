use Rattle.std.proofs.Math.Path.{fun_ext}
use Rattle.editions.proofs.step_laws.same_objects_same_set.Goals as goal

pub returns : goal.returns
returns c = λ one other same. fun_ext same
