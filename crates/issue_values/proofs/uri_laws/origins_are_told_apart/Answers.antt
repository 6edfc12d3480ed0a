use Rattle.issue_values.proofs.Told.{roa-once, flat-name}
use Rattle.issue_values.proofs.uri_laws.origins_are_told_apart.Goals as goal

pub returns : goal.returns
returns c = λ site a b o p is other e.
    roa-once c.reads_own_text.ensures c.reads_origin_once.ensures c.same_numbers_same_origin.ensures.prefix
    c.same_numbers_same_origin.ensures.origin site a b o p (flat-name a is) (flat-name b other) e
