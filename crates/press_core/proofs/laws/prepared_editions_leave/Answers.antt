use Rattle.press_core.proofs.Following.{left-then}
use Rattle.press_core.proofs.laws.prepared_editions_leave.Goals as goal

pub returns : goal.returns
returns c = λ start ring prepared is lists editions left gathered. left-then start ring prepared lists editions (record {
  laws = record {
    left = c.editions_follow_one_another.ensures;
    configs = c.gathered_commands_go_on.ensures.configs;
    cut = c.gathered_commands_go_on.ensures.cut;
    same = c.same_objects_same_set.ensures;
  };
  is = is;
  left = left;
  gathered = gathered;
})
