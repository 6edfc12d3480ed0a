-- What is told of what was loaded and audited.
use Rattle.std.specs.Prelude.{ℕ, Option, None, Some, length}
use Rattle.rp_rules.specs.Yield.{AuditedValue}
use Rattle.krill_top.specs.declared.summary.Summary.{Summary}

abbrev pub summed : ℕ → ℕ → Option AuditedValue → Summary
summed serial moment None = record {
  serial = serial;
  moment = moment;
  objects = 0;
  points = 0;
  origins = 0;
}
summed serial moment (Some audited) = record {
  serial = serial;
  moment = moment;
  objects = audited.objects;
  points = length audited.points;
  origins = length audited.origins;
}
