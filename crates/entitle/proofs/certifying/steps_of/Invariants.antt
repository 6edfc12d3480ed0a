use Rattle.std.proofs.Common.{◌≡◌, ℕ, ◌+◌, ◌<◌, false}
use Rattle.entitle.specs.Certified.{settings_of}
use Rattle.entitle.specs.inner.Steps.{reaches}
use Rattle.entitle.proofs.certifying.steps_of.Given as goal

-- What is behind the names that were passed is what is behind the one to be looked at.
abbrev pub invariant-loop-steps : goal.invariant-loop-steps
invariant-loop-steps l = record {
  passed : (fewer : ℕ) → fewer < l.steps → reaches (settings_of l.configs) fewer l.fn.name ≡ false;
  behind : (more : ℕ) → reaches (settings_of l.configs) (l.steps + more) l.fn.name ≡ reaches (settings_of l.configs) more l.at;
}
