use Rattle.disk_api.specs.declared.step.Step.TheVariants.{Cut}
use Rattle.disk_api.proofs.Taken.{held_after, fit_after}
use Rattle.disk_api.proofs.memory.MemoryDisk.shorten.Goals as goal

pub invariant_of-self-2 : goal.invariant_of-self-2
invariant_of-self-2 c =
    let disk = c.copy_first.new.self in
    record {
      held = held_after disk.is_copied disk.bytes.items c.truncate.new.self.items disk.first.items disk.steps.items c.push.new.self.items (Cut c.args.len) c.in_ok-copy_first.ensures.copied disk.held c.in_ok-push.ensures.items c.truncate.ensures.items;
      fit = fit_after disk.first.items disk.steps.items c.push.new.self.items (Cut c.args.len) disk.fit c.in_ok-push.ensures.items tt;
    }
