use Rattle.std.proofs.Common.{◌∷◌, ℕ, subst}
use mathlib.Core.List.{IsPrefix}
use Rattle.manager.specs.Passes.{PassValue}
use Rattle.manager.specs.Sharing.{pass_at, AreShared}
use Rattle.session_lines.proofs.running.serve_store.Goals as goal

pub returns-clause-run : goal.returns-clause-run
returns-clause-run g c =
    let first = c.in-Ok-start.started.1 in
    let left = c.serve_passes-passes.result.passes.items in
    let ended = c.close_all-store.ensures.ends in
    record {
      first = first;
      is_first = c.in-Ok-start.ensures.first;
      first_shown = c.in-Ok-start.ensures.shown;
      left = left;
      sessions = c.serve_passes-passes.ensures.served;
      places = c.serve_passes-passes.new.pass.places;
      shared = subst (λ (p : PassValue). AreShared (p ∷ left) c.close_all-store.new.into.items) c.serve_passes-passes.ensures.rest c.close_all-store.ensures.shared;
      kept = c.close_all-store.ensures.left;
      faults = c.close_all-store.ensures.faults;
      limits = c.close_all-store.ensures.limits;
      viewed = ended.0;
      seen = subst (λ (p : PassValue). (number : ℕ) → IsPrefix (pass_at (p ∷ left) number).shown ended.0) c.serve_passes-passes.ensures.rest ended.1;
      ends = ended.2;
    }
