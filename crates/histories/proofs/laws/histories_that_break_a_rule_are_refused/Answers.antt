use Rattle.histories.specs.Events.Event.{Commit}
use Rattle.histories.proofs.Ended.{stop_ends}
use Rattle.histories.proofs.Broken.{lost_commands, two_commands_in_doubt, two_editions_in_doubt, commands_found_later, editions_found_later, doubted_cuts, strange_editions, shut_press, shut_desks, vouched_no_more, other_serials, too_many_bytes, too_large_editions}
use Rattle.histories.proofs.laws.histories_that_break_a_rule_are_refused.Goals as goal

pub returns-clause-lost_commands : goal.returns-clause-lost_commands
returns-clause-lost_commands c = lost_commands

pub returns-clause-two_commands_in_doubt : goal.returns-clause-two_commands_in_doubt
returns-clause-two_commands_in_doubt c = two_commands_in_doubt

pub returns-clause-two_editions_in_doubt : goal.returns-clause-two_editions_in_doubt
returns-clause-two_editions_in_doubt c = two_editions_in_doubt

pub returns-clause-commands_found_later : goal.returns-clause-commands_found_later
returns-clause-commands_found_later c = commands_found_later

pub returns-clause-editions_found_later : goal.returns-clause-editions_found_later
returns-clause-editions_found_later c = editions_found_later

pub returns-clause-doubted_cuts : goal.returns-clause-doubted_cuts
returns-clause-doubted_cuts c = doubted_cuts

pub returns-clause-strange_editions : goal.returns-clause-strange_editions
returns-clause-strange_editions c = strange_editions

pub returns-clause-shut_press : goal.returns-clause-shut_press
returns-clause-shut_press c = shut_press

pub returns-clause-shut_desks : goal.returns-clause-shut_desks
returns-clause-shut_desks c = shut_desks

pub returns-clause-stopped_commits : goal.returns-clause-stopped_commits
returns-clause-stopped_commits c = λ site history signed later commands edition desk command.
    stop_ends site history signed later commands edition (Commit desk command)

pub returns-clause-vouched_no_more : goal.returns-clause-vouched_no_more
returns-clause-vouched_no_more c = vouched_no_more

pub returns-clause-other_serials : goal.returns-clause-other_serials
returns-clause-other_serials c = other_serials

pub returns-clause-too_many_bytes : goal.returns-clause-too_many_bytes
returns-clause-too_many_bytes c = too_many_bytes

pub returns-clause-too_large_editions : goal.returns-clause-too_large_editions
returns-clause-too_large_editions c = too_large_editions
