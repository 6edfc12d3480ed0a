use Rattle.std.proofs.Common.{◌≡◌, ◌∙◌, ◌+◌, ◌++◌, ◌∷◌, [], ℕ, take, sym, ap}
use Rattle.std.proofs.lemmas.List.{take_more}
use Rattle.std.specs.Prelude.{max}
use Rattle.authority_book.specs.declared.rows.NameRow.{NameRow}
use Rattle.krill_top.specs.Run.{signers_needed}
use Rattle.krill_top.proofs.Reading.{needed_more, larger}
use Rattle.krill_top.proofs.desks.signers_needed.Goals as goal

pub loop-row-preserved : goal.loop-row-preserved
loop-row-preserved c =
    let place = c.loop-row.row-index in
    let names = c.args.names.now in
    let row = c.row-item.result in
    let needed = c.loop-row.needed in
    let longer : take (place + 1) names ≡ take place names ++ row ∷ [] = take_more names place row c.loop-row-test.true ∙ ap (λ (r : NameRow). take place names ++ r ∷ []) (sym c.row-item.is) in
    c.max-needed.ensures
    ∙ larger needed (c.from.result + 1)
    ∙ ap (λ (n : ℕ). max n (c.from.result + 1)) c.loop-row.invariant
    ∙ ap (λ (n : ℕ). max (signers_needed (take place names)) (n + 1)) c.from.ensures
    ∙ sym (needed_more (take place names) row)
    ∙ ap signers_needed (sym longer)
