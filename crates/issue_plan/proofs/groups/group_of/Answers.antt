use Rattle.std.proofs.Common.{sym, ap, subst, ◌∙◌}
use Rattle.names.specs.Name.{IsName}
use Rattle.key_ids.specs.Uris.{folder_of}
use Rattle.issue_plan.proofs.GroupLemmas.{group-files}
use Rattle.issue_plan.proofs.groups.group_of.Goals as goal

pub returns : goal.returns
returns c =
    group-files c.args.standing.now c.args.desk c.in-Some.row.now c.as_str-2.result.now c.group_in.result.first
    c.group_in.result.end (sym c.in-Some.ensures)
    (subst IsName c.as_bytes-named.ensures.bytes c.as_bytes-named.ensures.rule)
    (c.as_str-2.ensures.value ∙ (c.in_ok-folder.ensures ∙ ap (folder_of c.args.standing.now.site.now) c.as_str.ensures))
    c.group_in.ensures
