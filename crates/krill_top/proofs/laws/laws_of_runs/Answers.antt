use Rattle.krill_top.proofs.laws.laws_of_runs.Goals as goal

pub returns : goal.returns
returns c = record {
  newest = c.more_editions_stay_shown.ensures.newest;
  records = c.edition_records_go_on.ensures;
  takes = c.what_a_press_holds.ensures.records;
  commands = c.commands_are_determined.ensures;
  editions = c.records_tell_one_store.ensures.one;
  apart = c.accepted_names_are_apart.ensures;
  named = c.listed_names_are_names.ensures;
  set = c.editions_leave_a_set.ensures;
  published = c.editions_are_published.ensures;
  stay = c.steps_stay_steps.ensures.all;
  work = c.what_was_done_goes_on.ensures;
  reopen = c.legal_histories_go_on.ensures.reopenings;
  steps = c.headline.ensures.steps;
  limits = c.headline.ensures.limits;
  press_limits = c.headline.ensures.press_limits;
  bytes = c.what_a_press_holds.ensures.bytes;
}
