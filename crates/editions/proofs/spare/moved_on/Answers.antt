use Rattle.std.proofs.Common.{List, ◌++◌, sym, subst}
use Rattle.key_roll.specs.declared.issued.IssuedRow.{IssuedRow}
use Rattle.pub_set.specs.declared.steps.Change.{Change}
use Rattle.pub_set.specs.Objects.{Rise}
use Rattle.pub_set.specs.Changes.{uri_of, IsApplied}
use Rattle.editions.specs.Standing.{IsTableAfter}
use Rattle.editions.proofs.StateLemmas.InPlace.{applied_behind, tabled_twice}
use Rattle.editions.proofs.StateLemmas.Tabled.{row_uri}
use Rattle.editions.proofs.spare.moved_on.Goals as goal

pub changed_table-requires-clause-old : goal.changed_table-requires-clause-old
changed_table-requires-clause-old c =
    subst (λ (rows : List IssuedRow). Rise row_uri rows) (sym c.into_vec-rows.ensures) c.requires.old

pub changed_table-requires-clause-changes : goal.changed_table-requires-clause-changes
changed_table-requires-clause-changes c =
    subst (λ (changes : List Change). Rise uri_of changes) (sym c.as_slice.ensures) c.requires.last

pub changed_table-requires-clause-issued : goal.changed_table-requires-clause-issued
changed_table-requires-clause-issued c =
    subst (λ (rows : List IssuedRow). Rise row_uri rows) (sym c.as_slice-2.ensures) c.requires.told

pub returns-clause-set : goal.returns-clause-set
returns-clause-set c = λ at lead.
    applied_behind c.args.old.set at.set c.args.last c.args.changes.now c.in_ok-set.set lead.applied
    (subst (λ (last : List Change). IsApplied c.args.old.set (last ++ c.args.changes.now) c.in_ok-set.set) c.into_vec.ensures c.in_ok-set.ensures)

pub returns-clause-table : goal.returns-clause-table
returns-clause-table c = λ at lead.
    let first : IsTableAfter c.args.old.issued.rows c.args.last c.args.told c.in_ok-same.same.items =
    subst (λ (rows : List IssuedRow). IsTableAfter rows c.args.last c.args.told c.in_ok-same.same.items) c.into_vec-rows.ensures
    (subst (λ (changes : List Change). IsTableAfter c.into_vec-rows.result.items changes c.args.told c.in_ok-same.same.items) c.as_slice.ensures
    (subst (λ (told : List IssuedRow). IsTableAfter c.into_vec-rows.result.items c.as_slice.result.now told c.in_ok-same.same.items) c.as_slice-2.ensures c.in_ok-same.ensures)) in
    subst (IsTableAfter at.issued c.args.changes.now c.args.issued.now) (sym c.new.ensures)
    (tabled_twice c.args.old.issued.rows c.in_ok-same.same.items at.issued c.args.last c.args.changes.now c.args.told c.args.issued.now c.in_ok-table.table.items
    first lead.tabled c.in_ok-table.ensures)
