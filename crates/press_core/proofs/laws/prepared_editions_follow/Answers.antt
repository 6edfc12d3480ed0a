use Rattle.press_core.proofs.Following.{prepared-follows}
use Rattle.press_core.proofs.laws.prepared_editions_follow.Goals as goal

pub returns : goal.returns
returns c = prepared-follows (record {
  left = record {
    left = c.editions_follow_one_another.ensures;
    configs = c.gathered_commands_go_on.ensures.configs;
    cut = c.gathered_commands_go_on.ensures.cut;
    same = c.same_objects_same_set.ensures;
  };
  manifests = c.manifests_rise.ensures;
  serials = c.certificates_have_own_serials.ensures;
  profile = c.editions_are_in_profile.ensures;
  steps = c.steps_come_one_by_one.ensures.another;
  follows = c.what_is_planned_and_made_follows.ensures;
  table = c.the_table_goes_on.ensures;
  called = c.called_for_by_what_stands.ensures;
  names = c.accepted_names_are_apart.ensures;
})
