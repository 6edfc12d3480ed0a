use Rattle.std.proofs.Common.{[], ◌∷◌, ◌++◌, length, get_or, filter, refl, ap, ◌∙◌}
use Rattle.std.proofs.lemmas.Option.{slice_get_read}
use Rattle.key_roll.specs.declared.rows.RevokedRow.{RevokedRow}
use Rattle.issue_drafts.specs.inner.Entries.{lasts}
use Rattle.issue_drafts.proofs.Found.{at-position}
use Rattle.issue_drafts.proofs.Lists.{ending}
use Rattle.issue_drafts.proofs.Filed.{no_position}
use Rattle.issue_drafts.proofs.revoking.push_ended.Goals as goal

pub loop-entry-preserved : goal.loop-entry-preserved
loop-entry-preserved c =
    let issued = c.args.issued.now in
    let i = c.loop-entry.entry-index in
    let position = get_or c.args.ended.now i no_position in
    ending c.args.cutoff c.args.moment issued c.args.all.now.items c.args.ended.now i no_position
    c.index-issued-entry.result c.loop-entry.all.items c.push_lasting.new.all.items
    c.loop-entry-test.true
    (at-position issued position c.index-issued-entry.result
    (slice_get_read issued (length issued) position.position c.index-issued-entry.result refl
    (c.requires i no_position c.loop-entry-test.true) c.index-issued-entry.is))
    c.loop-entry.invariant
    (c.in_ok-push_lasting.ensures ∙ ap (λ (r : RevokedRow). c.loop-entry.all.items ++ filter
    (lasts c.args.cutoff) (r ∷ [])) c.entry_of.ensures)
