use Rattle.std.proofs.Common.{List, ◌∙◌, ap, sym, subst}
use Rattle.key_roll.specs.declared.issued.IssuedRow.{IssuedRow}
use Rattle.pub_set.specs.Objects.{Rise}
use Rattle.pub_set.specs.Changes.{IsApplied}
use Rattle.editions.specs.Standing.{IsTableAfter}
use Rattle.editions.specs.PublishedState.{PublishedStateValue}
use Rattle.editions.proofs.StateLemmas.Tabled.{row_uri}
use Rattle.editions.proofs.spare.copied.Goals as goal

pub next_table-requires-clause-old : goal.next_table-requires-clause-old
next_table-requires-clause-old c =
    subst (λ (rows : List IssuedRow). Rise row_uri rows)
    (sym (c.as_slice.ensures ∙ ap (λ (v : PublishedStateValue). v.issued) c.parts-parts.ensures.parts)) c.parts-parts.ensures.kept.rising

pub returns-clause-set : goal.returns-clause-set
returns-clause-set c =
    subst (λ (v : PublishedStateValue). IsApplied v.set c.args.changes.now c.in_ok-set.set) c.parts-parts.ensures.parts c.in_ok-set.ensures

pub returns-clause-table : goal.returns-clause-table
returns-clause-table c =
    subst (IsTableAfter c.args.at.now.issued c.args.changes.now c.args.issued.now) (sym c.new.ensures)
    (subst (λ (rows : List IssuedRow). IsTableAfter rows c.args.changes.now c.args.issued.now c.in_ok-table.table.items)
    (c.as_slice.ensures ∙ ap (λ (v : PublishedStateValue). v.issued) c.parts-parts.ensures.parts) c.in_ok-table.ensures)
