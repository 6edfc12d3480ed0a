use Rattle.std.proofs.Common.{sym, ap, ◌∙◌, List}
use Rattle.res_sets.specs.declared.numbers.Range.{Range}
use Rattle.res_sets.specs.Merging.{room_from}
use Rattle.res_sets.proofs.Lists.{room_from-push}
use Rattle.res_sets.proofs.lookup.last_of.Goals as goal

pub returns-in-Some : goal.returns-in-Some
returns-in-Some c =
    let parts = c.in-Some.ensures in
    sym (ap (λ (rs : List Range). room_from 0 rs) parts.cases.0 ∙ room_from-push 0 c.in-Some.field-0-1.now c.in-Some.last.now)
