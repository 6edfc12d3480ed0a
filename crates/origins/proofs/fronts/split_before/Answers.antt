use Rattle.std.proofs.Common.{◌≡◌, take, drop, ap, ◌∙◌, rules, tests}
use Rattle.std.proofs.lemmas.Iterator.{YieldsList-from_slice}
use Rattle.std.proofs.lemmas.Iterator.Consumers.{count_from_yields_List}
use Rattle.std.proofs.lemmas.Iterator.Search.{YieldsList-from_take_while}
use Rattle.std.proofs.lemmas.List.Folds.{length-prefix_len}
use Rattle.std.specs.List.{prefix_len}
use Rattle.origins.specs.inner.Fronts.{is_none_of}
use Rattle.origins.proofs.fronts.split_before.Goals as goal

counted : (c : goal.After-split_at) → c.count-front.result ≡ prefix_len (is_none_of c.args.stops.now) c.args.text.now
counted c =
    let text = c.args.text.now in
    let test = is_none_of c.args.stops.now in
    count_from_yields_List c.take_while.result _ c.count-front.ensures.ran (YieldsList-from_take_while _ test (YieldsList-from_slice text (cc)) c.take_while.ensures.closure c.take_while.ensures.done (λ x b q k. search (rules, tests))) ∙ length-prefix_len test text

pub returns-clause-front : goal.returns-clause-front
returns-clause-front c = c.split_at.ensures.front ∙ ap (λ n. take n c.args.text.now) (counted c)

pub returns-clause-back : goal.returns-clause-back
returns-clause-back c = c.split_at.ensures.back ∙ ap (λ n. drop n c.args.text.now) (counted c)
