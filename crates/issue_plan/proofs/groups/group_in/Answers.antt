use Rattle.std.proofs.Common.{◌-◌, arith}
use Rattle.issue_plan.proofs.GroupLemmas.{all-between}
use Rattle.issue_plan.proofs.groups.group_in.Goals as goal

pub returns-then-is_in-2 : goal.returns-then-is_in-2
returns-then-is_in-2 c =
    let group = c.guess-group.result in
    let last = group.end - 1 in
    let some = c.if-group.false in
    let within = c.if-group-issued.false in
    record {
      within = omega (arith, within);
      each = λ k d after before.
          all-between c.args.issued.now c.args.folder.now group.first last c.index-issued-group.result
          c.index-issued-group-then-is_in.result c.requires (omega (arith, some, within)) (omega (arith, some))
          c.index-issued-group.is c.index-issued-group-then-is_in.is (c.is_in.ensures c.if-is_in.true)
          (c.is_in-then-is_in.ensures c.if-is_in-2.true) k d after (omega (arith, some, before));
    }
