use Rattle.test_histories.proofs.press.load_from.Goals as goal

pub returns-clause-found : goal.returns-clause-found
returns-clause-found c = (c.from_u128.result, c.in-Ok.ensures.found)

pub returns-clause-known : goal.returns-clause-known
returns-clause-known c = c.in-Ok.ensures.safe.known
