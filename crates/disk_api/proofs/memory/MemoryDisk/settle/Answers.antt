use Rattle.std.proofs.Common.{◌≡◌, ◌++◌, [], ◌∷◌, ◌∙◌, inl, inr, List, sym, ap, is_ok}
use Rattle.std.proofs.lemmas.Bool.{cases_Bool, cond-true, cond-false}
use Rattle.disk_api.specs.Steps.{content_after, steps_fit}
use Rattle.disk_api.specs.declared.step.Step.{Step}
use Rattle.disk_api.specs.declared.step.Step.TheVariants.{Sync}
use Rattle.disk_api.proofs.Taken.{content_after-push, fit_after}
use Rattle.disk_api.proofs.memory.MemoryDisk.settle.Goals as goal

pub invariant_of-self : goal.invariant_of-self
invariant_of-self c =
    let disk = c.args.self.now in
    let first = disk.first.items in
    let steps = disk.steps.items in
    let more = c.push.new.self.items in
    elim (cases_Bool (is_ok c.push.result)) [
      | inl ok ↦
          let pushed : more ≡ steps ++ Sync ∷ [] = c.push.ensures.items ∙ cond-true (is_ok c.push.result) _ _ ok in
          record {
            held = disk.held ∙ sym (ap (λ (l : List Step). content_after first l) pushed ∙ content_after-push first steps Sync);
            fit = fit_after first steps more Sync disk.fit pushed tt;
          }
      | inr refused ↦
          let same : more ≡ steps = c.push.ensures.items ∙ cond-false (is_ok c.push.result) _ _ refused in
          record {
            held = disk.held ∙ sym (ap (λ (l : List Step). content_after first l) same);
            fit = ap (λ (l : List Step). steps_fit first l) same ∙ disk.fit;
          }
    ]
