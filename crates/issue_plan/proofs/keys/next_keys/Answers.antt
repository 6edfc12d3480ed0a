use Rattle.entitle.specs.Certified.{settings_of}
use Rattle.issue_plan.specs.Keys.{Basis}
use Rattle.issue_plan.proofs.KeyLemmas.{desk_more}
use Rattle.issue_plan.proofs.keys.next_keys.Goals as goal

pub loop-desk-preserved : goal.loop-desk-preserved
loop-desk-preserved c =
    let basis : Basis = record {
      rows = c.args.rows.now;
      configs = settings_of c.args.configs.now;
      sets = c.args.tree.now.sets.items;
      moment = c.args.moment;
    } in
    desk_more basis c.loop-desk.desk c.loop-desk.keys.items c.push_keys.new.keys.items c.loop-desk.invariant c.in_ok-push_keys.ensures
