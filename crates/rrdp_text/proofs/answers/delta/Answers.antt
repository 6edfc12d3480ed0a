use Rattle.std.proofs.Common.{sym, ◌∙◌, length, codes}
use Rattle.std.proofs.lemmas.Bool.{eqb-true, eqb-false}
use Rattle.rrdp_text.specs.Template.{delta_in, opening_in, changes_in}
use Rattle.rrdp_text.specs.Texts.{head}
use Rattle.rrdp_text.proofs.Wholes.{ended, goes_on}
use Rattle.rrdp_text.proofs.answers.delta.Goals as goal

pub returns-then-is_empty : goal.returns-then-is_empty
unfolding delta_in head
returns-then-is_empty c = rw (c.from_bytes.ensures, c.new.ensures)
    (ended (opening_in (head (codes "delta")) c.args.bytes.now) changes_in (c.in_ok-session.session, c.in_ok-session.serial) c.in_ok-session.rest.now c.in_ok-changes.rest.now c.in_ok-changes.changes.items
    c.in_ok-session.ensures c.in_ok-changes.ensures (eqb-true (length c.in_ok-changes.rest.now) 0 (sym c.is_empty.ensures ∙ c.if-is_empty.true)))

pub returns-else-is_empty : goal.returns-else-is_empty
unfolding delta_in head
returns-else-is_empty c =
    goes_on (opening_in (head (codes "delta")) c.args.bytes.now) changes_in (c.in_ok-session.session, c.in_ok-session.serial) c.in_ok-session.rest.now c.in_ok-changes.rest.now c.in_ok-changes.changes.items
    c.in_ok-session.ensures c.in_ok-changes.ensures (eqb-false (length c.in_ok-changes.rest.now) 0 (sym c.is_empty.ensures ∙ c.if-is_empty.false))
