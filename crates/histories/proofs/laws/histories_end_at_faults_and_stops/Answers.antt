use Rattle.histories.proofs.Ended.{commit_refused, fault_refused, publish_refused, press_fault_refused, desk_doubts, press_doubts, stop_ends, stop_doubts, stop_press_doubts, settled}
use Rattle.histories.proofs.laws.histories_end_at_faults_and_stops.Goals as goal

pub returns-clause-commits : goal.returns-clause-commits
returns-clause-commits c = commit_refused

pub returns-clause-desk_faults : goal.returns-clause-desk_faults
returns-clause-desk_faults c = fault_refused

pub returns-clause-publications : goal.returns-clause-publications
returns-clause-publications c = publish_refused

pub returns-clause-press_faults : goal.returns-clause-press_faults
returns-clause-press_faults c = press_fault_refused

pub returns-clause-desk_doubts : goal.returns-clause-desk_doubts
returns-clause-desk_doubts c = desk_doubts

pub returns-clause-press_doubts : goal.returns-clause-press_doubts
returns-clause-press_doubts c = press_doubts

pub returns-clause-stops : goal.returns-clause-stops
returns-clause-stops c = stop_ends

pub returns-clause-stop_doubts : goal.returns-clause-stop_doubts
returns-clause-stop_doubts c = stop_doubts

pub returns-clause-stop_press_doubts : goal.returns-clause-stop_press_doubts
returns-clause-stop_press_doubts c = stop_press_doubts

pub returns-clause-settled : goal.returns-clause-settled
returns-clause-settled c = settled
