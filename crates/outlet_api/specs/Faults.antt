-- An outlet's count of faults.
use Rattle.std.specs.Prelude.{◌≡◌, ◌≤◌, ℕ, Result, IsErrOf}
use Rattle.host_calls.specs.Rise.{HasRisen}
use Rattle.outlet_api.specs.declared.outlet.OutletStop.{OutletStop}
use Rattle.outlet_api.specs.declared.outlet.OutletStop.TheVariants.{Fault}
use Rattle.outlet_api.specs.declared.exports.ExportFault.{ExportFault}
use Rattle.outlet_api.specs.declared.exports.ExportFault.TheVariants.{OutletFault, Memory}

-- the count never falls, and rises at a fault
pub record CountsFaults {T : Type 0} (before after : ℕ) (result : Result T OutletStop) : Type 0 where
  pub later : before ≤ after
  pub fault : IsErrOf result Fault → HasRisen before after

-- An export that failed by a fault brings the counts before and after it, between which the count rose.
abbrev pub IsCauseOf : {O : Type 0} → ℕ → ℕ → ExportFault O → Type 0
IsCauseOf before after (OutletFault rose) = (rose ≡ (before, after)) × HasRisen before after
IsCauseOf before after Memory = Unit {0}
