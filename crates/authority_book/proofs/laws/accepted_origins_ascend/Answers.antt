use Rattle.authority_book.proofs.Limits.{up-fold}
use Rattle.authority_book.proofs.laws.accepted_origins_ascend.Goals as goal

pub returns : goal.returns
returns c = up-fold
