use Rattle.json_api.proofs.values.origin_of.Goals as goal

pub returns-in-Err : goal.returns-in-Err
returns-in-Err c origin spells = let other = c.in-Err.ensures.spelled origin spells in cc
