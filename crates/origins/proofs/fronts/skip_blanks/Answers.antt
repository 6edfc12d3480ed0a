use Rattle.std.proofs.Common.{◌≡◌, drop, ap, ◌∙◌, rules, tests}
use Rattle.std.proofs.lemmas.List.{take_rest}
use Rattle.std.proofs.lemmas.Iterator.{YieldsList-from_slice}
use Rattle.std.proofs.lemmas.Iterator.Consumers.{count_from_yields_List}
use Rattle.std.proofs.lemmas.Iterator.Search.{YieldsList-from_take_while}
use Rattle.std.proofs.lemmas.List.Folds.{length-prefix_len}
use Rattle.std.specs.List.{prefix_len}
use Rattle.origins.specs.inner.Fronts.{is_blank}
use Rattle.origins.proofs.fronts.skip_blanks.Goals as goal

pub returns : goal.returns
returns c =
    let text = c.args.text.now in
    let count : c.count-blanks.result ≡ prefix_len is_blank text =
    count_from_yields_List c.take_while.result _ c.count-blanks.ensures.ran (YieldsList-from_take_while _ is_blank (YieldsList-from_slice text (cc)) c.take_while.ensures.closure c.take_while.ensures.done (λ x b q k. search (rules, tests))) ∙ length-prefix_len is_blank text in
    let back = take_rest text c.count-blanks.result in
    back ∙ ap (λ n. drop n text) count
