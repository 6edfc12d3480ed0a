use Rattle.std.proofs.Common.{◌++◌, ◌∙◌, sym, ap, List, ℕ, arith}
use Rattle.der.specs.laws.ElementLaws.{element-taken, front-taken, longer}
use Rattle.der.proofs.parts.element_of.Goals as goal

pub slice_bounds-whole-count : goal.slice_bounds-whole-count
slice_bounds-whole-count c =
    let taken = element-taken c.args.at c.args.tag c.args.bytes.now _ (λ i. omega (arith, c.type_inv.bytes i)) c.in_ok-content.ensures in
    (front-taken c.args.bytes.now _ c.in_ok-content.rest.now taken.0).1

pub returns-clause-parts : goal.returns-clause-parts
returns-clause-parts c =
    let taken = element-taken c.args.at c.args.tag c.args.bytes.now _ (λ i. omega (arith, c.type_inv.bytes i)) c.in_ok-content.ensures in
    let front = front-taken c.args.bytes.now _ c.in_ok-content.rest.now taken.0 in
    taken.0 ∙ ap (λ (s : List ℕ). s ++ c.in_ok-content.rest.now) (sym front.0)

pub returns-clause-whole : goal.returns-clause-whole
returns-clause-whole c =
    let taken = element-taken c.args.at c.args.tag c.args.bytes.now _ (λ i. omega (arith, c.type_inv.bytes i)) c.in_ok-content.ensures in
    (front-taken c.args.bytes.now _ c.in_ok-content.rest.now taken.0).0

pub returns-clause-short : goal.returns-clause-short
returns-clause-short c =
    (element-taken c.args.at c.args.tag c.args.bytes.now _ (λ i. omega (arith, c.type_inv.bytes i)) c.in_ok-content.ensures).1

pub returns-clause-header : goal.returns-clause-header
returns-clause-header c =
    let taken = element-taken c.args.at c.args.tag c.args.bytes.now _ (λ i. omega (arith, c.type_inv.bytes i)) c.in_ok-content.ensures in
    rw (front-taken c.args.bytes.now _ c.in_ok-content.rest.now taken.0).0 (longer c.args.tag c.in_ok-content.content.now)
