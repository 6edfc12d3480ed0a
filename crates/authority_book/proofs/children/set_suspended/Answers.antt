use Rattle.std.proofs.Common.{◌≡◌, sym, ◌∙◌, ap, length, get_or, set, rules}
use Rattle.authority_book.specs.declared.rows.Child.{Child}
use Rattle.authority_book.specs.Listed.{suspended_as}
use Rattle.authority_book.proofs.ChildPlaces.{changed_at, unchanged, place_in, found_at, not_found}
use Rattle.authority_book.proofs.children.set_suspended.Goals as goal

pub returns-in-Some-clause-items : goal.returns-in-Some-clause-items
returns-in-Some-clause-items c =
    let xs = c.args.children.now.items in
    let name = c.args.name.now in
    let here = found_at (place_in xs name) (length xs) c.in-Some.place (search (rules)) in
    let child = c.index_mut.result.now in
    let is : child ≡ get_or xs c.in-Some.place child = search (rules) in
    ap (λ (other : Child). set xs c.in-Some.place (suspended_as c.args.suspended other)) is
    ∙ sym (changed_at xs name (suspended_as c.args.suspended) c.in-Some.place child here.0 here.1)

pub returns-in_default-clause-items : goal.returns-in_default-clause-items
returns-in_default-clause-items c =
    let xs = c.args.children.now.items in
    let name = c.args.name.now in
    sym (unchanged xs name (suspended_as c.args.suspended) (not_found (place_in xs name) (length xs) (search (rules))))
