use Rattle.histories.proofs.Worked.{edition_is_legal, doubted_edition_is_legal}
use Rattle.histories.proofs.laws.some_histories_with_editions_are_legal.Goals as goal

pub returns-clause-published : goal.returns-clause-published
returns-clause-published c = edition_is_legal

pub returns-clause-doubted : goal.returns-clause-doubted
returns-clause-doubted c = doubted_edition_is_legal
