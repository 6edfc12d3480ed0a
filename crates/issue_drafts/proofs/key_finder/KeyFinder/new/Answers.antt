use Rattle.std.proofs.Common.{map, refl, ap, ◌∙◌}
use Rattle.key_roll.specs.declared.rows.KeyRow.{KeyRow}
use Rattle.issue_drafts.proofs.NamedKeys.{finds-them}
use Rattle.issue_drafts.proofs.key_finder.KeyFinder.new.Goals as goal

pub returns : goal.returns
returns c =
    finds-them c.args.rows.now c.args.first_fresh _ _ c.requires.inside c.requires.rising c.in_ok-ids.ensures
    (c.deref.ensures.value ∙ c.in_ok-ids.ensures) c.in_ok-live.ensures
    (c.in_ok-desks.ensures ∙ ap (map (λ (row : KeyRow). row.desk)) c.behind-fresh.ensures) refl
