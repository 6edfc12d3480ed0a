use Rattle.std.proofs.Common.{sym, ◌∙◌, length, codes}
use Rattle.std.proofs.lemmas.Bool.{eqb-true, eqb-false}
use Rattle.rrdp_text.specs.Template.{snapshot_in, opening_in, objects_in}
use Rattle.rrdp_text.specs.Texts.{head}
use Rattle.rrdp_text.proofs.Wholes.{ended, goes_on}
use Rattle.rrdp_text.proofs.answers.snapshot.Goals as goal

pub returns-then-is_empty : goal.returns-then-is_empty
unfolding snapshot_in head
returns-then-is_empty c = rw (c.from_bytes.ensures)
    (ended (opening_in (head (codes "snapshot")) c.args.bytes.now) objects_in (c.in_ok-session.session, c.in_ok-session.serial) c.in_ok-session.rest.now c.in_ok-set.rest.now c.in_ok-set.set
    c.in_ok-session.ensures c.in_ok-set.ensures (eqb-true (length c.in_ok-set.rest.now) 0 (sym c.is_empty.ensures ∙ c.if-is_empty.true)))

pub returns-else-is_empty : goal.returns-else-is_empty
unfolding snapshot_in head
returns-else-is_empty c =
    goes_on (opening_in (head (codes "snapshot")) c.args.bytes.now) objects_in (c.in_ok-session.session, c.in_ok-session.serial) c.in_ok-session.rest.now c.in_ok-set.rest.now c.in_ok-set.set
    c.in_ok-session.ensures c.in_ok-set.ensures (eqb-false (length c.in_ok-set.rest.now) 0 (sym c.is_empty.ensures ∙ c.if-is_empty.false))
