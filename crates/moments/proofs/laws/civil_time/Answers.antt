use Rattle.moments.specs.laws.CalendarLaws.{civil_of-civil, civil_of-at}
use Rattle.moments.proofs.laws.civil_time.Goals as goal

pub returns-clause-civil : goal.returns-clause-civil
returns-clause-civil c = civil_of-civil

pub returns-clause-at : goal.returns-clause-at
returns-clause-at c = civil_of-at
