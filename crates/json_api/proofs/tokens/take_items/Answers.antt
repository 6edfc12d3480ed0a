use Rattle.std.proofs.Common.{◌≡◌, List, ap, sym, subst, ◌∙◌}
use Rattle.json.specs.Json.{after_end_array}
use Rattle.origins.specs.declared.Origin.{Origin}
use Rattle.json_api.proofs.Passes.{PassedItems, PassedItems-step, PassedItems-end}
use Rattle.json_api.proofs.tokens.take_items.Goals as goal

pub items-preserved : goal.items-preserved
items-preserved c =
    let same : c.ends_list.new.self ≡ c.items.reader = c.items-test.ensures.left in
    let found = c.in-Some.ensures.good in
    let first = sym same ∙ found.1 in
    let step = PassedItems-step c.args.reader.now c.items.reader c.take_origin.new.reader found.0 c.items.origins.items c.in-Some.origin
    c.items.invariant (ap after_end_array first) first found.2 in
    subst (λ (os : List Origin). PassedItems c.args.reader.now c.take_origin.new.reader os) (sym c.in_ok-push.ensures.items) step

pub returns-clause-good : goal.returns-clause-good
returns-clause-good c =
    PassedItems-end c.args.reader.now c.items.reader c.ends_list.new.self c.items.origins.items c.items.invariant (ap after_end_array c.items-test.ensures.taken)
