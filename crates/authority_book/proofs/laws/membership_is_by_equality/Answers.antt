use Rattle.authority_book.proofs.Same.{is_same-iff, is_there-iff}
use Rattle.authority_book.proofs.laws.membership_is_by_equality.Goals as goal

pub returns-clause-same : goal.returns-clause-same
returns-clause-same c = is_same-iff

pub returns-clause-there : goal.returns-clause-there
returns-clause-there c = is_there-iff
