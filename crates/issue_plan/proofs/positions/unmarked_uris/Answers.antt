use Rattle.std.proofs.Common.{◌<◌, [], length, map, false, arith, rules}
use Rattle.std.proofs.lemmas.List.{map-append, get_or_default}
use Rattle.key_roll.specs.declared.issued.IssuedRow.{IssuedRow}
use Rattle.issue_plan.proofs.PositionLemmas.{unmarked-next}
use Rattle.issue_plan.proofs.positions.unmarked_uris.Goals as goal

pub loop-position-preserved : goal.loop-position-preserved
loop-position-preserved c =
    let rows = c.args.issued.now in
    let inside : c.loop-position.position < length rows = search rules in
    unmarked-next (map (λ (row : IssuedRow). row.uri)) (map-append (λ (row : IssuedRow). row.uri))
    c.args.marks.now rows c.loop-position.position _ c.index-issued-position.result
    [] c.loop-position.uris.items c.push_unmarked_uri.new.uris.items
    c.requires inside
    (get_or_default c.args.marks.now c.loop-position.position false _ (omega (arith, inside, c.requires))) c.index-issued-position.is
    c.loop-position.invariant c.in_ok-push_unmarked_uri.ensures
