use Rattle.std.proofs.Common.{◌≡◌, ◌<◌, sym, length, get_or, rules}
use Rattle.authority_book.specs.declared.rows.NameRow.{NameRow}
use Rattle.entitle.specs.Certified.{settings_of, names_of}
use Rattle.entitle.proofs.Those.{owed_next, first_row}
use Rattle.entitle.proofs.owing.owed.Goals as goal

pub loop-desk-preserved : goal.loop-desk-preserved
loop-desk-preserved c =
    let configs = settings_of c.args.configs.now in
    let desk = c.loop-desk.desk in
    let set = c.index.result.now in
    let within : desk < length (names_of configs) = rw c.names_of-desk-end.ensures.names at c.loop-desk-test.true in
    let made = c.in_ok-push_owed.ensures in
    let at : set ≡ get_or c.args.tree.now.sets.items desk set = search rules in
    let row : NameRow = first_row (names_of configs) desk within in
    owed_next configs c.args.tree.now.sets.items desk row set c.origins_at.result.now made.0 c.loop-desk.owed.items c.push_owed.new.owed.items
    c.requires within at (sym c.origins_at.ensures) c.loop-desk.invariant made.1 made.2
