use Rattle.std.proofs.Common.{◌∙◌}
use Rattle.issue_plan.proofs.GroupLemmas.{front-of}
use Rattle.issue_plan.proofs.groups.is_in.Goals as goal

pub returns-in-Some : goal.returns-in-Some
returns-in-Some c = λ so.
    front-of c.args.row.now.uri c.args.folder.now c.as_bytes-uri.result.now c.as_bytes.result.now
    (c.as_bytes-uri.ensures.value ∙ c.as_str.ensures) c.as_bytes.ensures.value c.in-Some.ensures.cases.0
