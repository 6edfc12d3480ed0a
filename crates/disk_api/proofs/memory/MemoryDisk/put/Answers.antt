use Rattle.std.proofs.Common.{◌≡◌, ◌++◌, [], ◌∷◌, ◌∙◌, List, sym, ap, ◌≤◌, length, subst, rules, is_ok, true}
use Rattle.disk_api.specs.Content.{overwritten}
use Rattle.disk_api.specs.declared.step.Step.TheVariants.{Write}
use Rattle.disk_api.proofs.Taken.{held_after, fit_after}
use Rattle.disk_api.proofs.memory.MemoryDisk.put.Goals as goal

pub invariant_of-self-2 : goal.invariant_of-self-2
invariant_of-self-2 c =
    let disk = c.copy_first.new.self in
    let step = Write c.args.at c.in_ok-kept.kept in
    let same : c.args.bytes.now ≡ c.in_ok-kept.kept.items = search rules in
    let ok : is_ok c.push.result ≡ true = search rules in
    let pushed : c.push.new.self.items ≡ disk.steps.items ++ step ∷ [] = search rules in
    record {
      held = held_after disk.is_copied disk.bytes.items c.overwrite.new.bytes.items disk.first.items disk.steps.items c.push.new.self.items step c.in_ok-copy_first.ensures.copied disk.held pushed
          (c.in_ok-overwrite.ensures.ok ∙ ap (λ (l : List _). overwritten c.args.at l disk.bytes.items) same);
      fit = fit_after disk.first.items disk.steps.items c.push.new.self.items step disk.fit pushed
          (subst (λ (l : List _). c.args.at ≤ length l) (sym c.in_ok-copy_first.ensures.file.bytes ∙ disk.held) c.requires);
    }

pub returns-clause-done : goal.returns-clause-done
returns-clause-done c =
    let same : c.in_ok-kept.kept.items ≡ c.args.bytes.now = search rules in
    let pushed : c.push.new.self.items ≡ c.args.self.now.steps.items ++ Write c.args.at c.in_ok-kept.kept ∷ [] = search rules in
    (c.in_ok-kept.kept, same, record { first = c.in_ok-copy_first.ensures.file.first; steps = pushed })
