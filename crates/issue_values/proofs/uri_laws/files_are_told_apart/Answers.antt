use Rattle.issue_values.proofs.Told.{anchor-apart, file-once, flat-name}
use Rattle.issue_values.proofs.uri_laws.files_are_told_apart.Goals as goal

pub returns-clause-files : goal.returns-clause-files
returns-clause-files c = λ site a b f g is other e. file-once site a b f g (flat-name a is) (flat-name b other) e

pub returns-clause-anchor : goal.returns-clause-anchor
returns-clause-anchor c = anchor-apart
