use Rattle.press_core.specs.Exports.{ShowsEdition}
use Rattle.press_core.proofs.Shown.{coherent-more, last-more, last-newest, last-files}
use Rattle.press_core.proofs.laws.more_editions_stay_shown.Goals as goal

pub returns-clause-coherent : goal.returns-clause-coherent
returns-clause-coherent c = coherent-more

pub returns-clause-shown : goal.returns-clause-shown
returns-clause-shown c = λ session site. last-more (ShowsEdition session site)

pub returns-clause-newest : goal.returns-clause-newest
returns-clause-newest c = λ session site. last-newest (ShowsEdition session site)

pub returns-clause-files : goal.returns-clause-files
returns-clause-files c = last-files
