use Rattle.std.proofs.Common.{◌≡◌, ◌<◌, List, ◌++◌, length, map, not, ap, ◌∙◌, false, arith, rules}
use Rattle.std.specs.Prelude.{filter}
use Rattle.std.proofs.lemmas.List.{map-append, get_or_default}
use Rattle.std.proofs.lemmas.List.Elements.{filter-append}
use Rattle.key_roll.specs.declared.issued.IssuedRow.{IssuedRow}
use Rattle.issue_plan.specs.Serves.{is_point}
use Rattle.issue_plan.specs.inner.Changed.{issuers_of_gone}
use Rattle.issue_plan.proofs.PositionLemmas.{unmarked-next}
use Rattle.issue_plan.proofs.changed.push_issuers_of_gone.Goals as goal

gone-append : (a b : List IssuedRow) → issuers_of_gone (a ++ b) ≡ issuers_of_gone a ++ issuers_of_gone b
gone-append a b =
    ap (map (λ (row : IssuedRow). row.issuer)) (filter-append (λ (row : IssuedRow). not (is_point row.what)) a b)
    ∙ map-append (λ (row : IssuedRow). row.issuer) (filter (λ (row : IssuedRow). not (is_point row.what)) a)
    (filter (λ (row : IssuedRow). not (is_point row.what)) b)

pub loop-position-preserved : goal.loop-position-preserved
loop-position-preserved c =
    let rows = c.args.issued.now in
    let inside : c.loop-position.position < length rows = search rules in
    unmarked-next issuers_of_gone gone-append
    c.args.marks.now rows c.loop-position.position _ c.index-issued-position.result
    c.args.changed.now.items c.loop-position.changed.items c.push_issuer.new.changed.items
    c.requires inside
    (get_or_default c.args.marks.now c.loop-position.position false _ (omega (arith, inside, c.requires))) c.index-issued-position.is
    c.loop-position.invariant c.in_ok-push_issuer.ensures
