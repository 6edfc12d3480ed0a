use Rattle.std.proofs.Common.{◌≡◌, ◌∙◌, ◌+◌, ◌++◌, ◌∷◌, [], ◌<◌, ℕ, List, length, get_or, ap, sym, subst, arith, rules}
use Rattle.std.proofs.lemmas.List.{length_push, get_or_default}
use Rattle.authority_book.specs.declared.rows.NameRow.{NameRow}
use Rattle.manager.specs.declared.locked_desks_answers.ListRow.{ListRow}
use Rattle.manager.specs.Reading.{IsListRow}
use Rattle.manager.proofs.Knowing.{knows_on, rest_on}
use Rattle.manager.proofs.Reading.{RowsSoFar, rows_push, tree_same}
use Rattle.manager.proofs.locked_desks.LockedDesks.list_rows.Goals as goal

pub deleted-deleted-requires-clause-tree : goal.deleted-deleted-requires-clause-tree
deleted-deleted-requires-clause-tree g c =
    tree_same c.args.pass.now.seats c.loop-desk.pass.seats c.args.tree.now.names.items c.args.tree.now.deleted c.loop-desk.invariant.2 c.requires.tree

pub returns-in_err-push-clause-more : goal.returns-in_err-push-clause-more
returns-in_err-push-clause-more g c =
    knows_on c.args.pass.now.seats c.loop-desk.pass.seats c.deleted-deleted.new.pass.seats c.loop-desk.invariant.1 c.deleted-deleted.ensures.more

pub loop-desk-preserved : goal.loop-desk-preserved
loop-desk-preserved g c =
    let before = c.loop-desk.invariant in
    let old = c.loop-desk.pass.seats in
    let new = c.deleted-deleted.new.pass.seats in
    let names = c.args.tree.now.names.items in
    let rows = c.loop-desk.rows.items in
    let row : ListRow = record { name = c.index.result.now.name; deleted = c.deleted-deleted.result } in
    let pushed : c.push.new.self.items ≡ rows ++ row ∷ [] = search rules in
    let within : c.loop-desk.desk < length names = omega (arith, c.loop-desk-test.true, c.loop-desk.auto.desk-end, c.args.tree.now.names.ok.0) in
    let found = c.deleted-deleted.ensures.deleted in (
      rest_on c.args.pass.now c.loop-desk.pass c.deleted-deleted.new.pass before.0 c.deleted-deleted.ensures.rest,
      knows_on c.args.pass.now.seats old new before.1 c.deleted-deleted.ensures.more,
      c.deleted-deleted.ensures.anchor ∙ before.2,
      ap length pushed ∙ (length_push rows row ∙ ap (λ (n : ℕ). n + 1) before.3),
      subst (λ (l : List ListRow). RowsSoFar new names l) (sym pushed)
          (rows_push old new names rows row
          (λ other away. c.deleted-deleted.ensures.others other (λ same. away (same ∙ sym before.3)))
          (λ name. subst (λ (n : ℕ). IsListRow new n (get_or names n name) row) (sym before.3) (record {
            name_is = ap (λ (r : NameRow). r.name) (c.index.ensures ∙ get_or_default names c.loop-desk.desk c.index.result.now name within);
            settings = found.0;
            known = found.1;
            deleted_is = found.2;
          }))
          before.4),
    )

pub returns-clause-rows : goal.returns-clause-rows
returns-clause-rows g c =
    let before = c.loop-desk.invariant in
    let seats = c.loop-desk.pass.seats in
    let names = c.args.tree.now.names.items in
    let tree = tree_same c.args.pass.now.seats seats names c.args.tree.now.deleted before.2 c.requires.tree in
    let long = ap length tree.names_are in
    record {
      settings = tree.settings;
      known = tree.known;
      count = omega (arith, before.3, c.loop-desk-test.false, c.loop-desk.auto.desk-end, c.args.tree.now.names.ok.0, long);
      each = λ desk name row below. subst (λ (l : List NameRow). IsListRow seats desk (get_or l desk name) (get_or c.loop-desk.rows.items desk row)) tree.names_are (before.4 desk name row below);
    }
