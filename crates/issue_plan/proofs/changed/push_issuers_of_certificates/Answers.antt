use Rattle.std.proofs.Common.{arith}
use Rattle.std.proofs.lemmas.Grind.{common_steps}
use Rattle.std.proofs.lemmas.List.Elements.{filter_map-append}
use Rattle.issue_plan.proofs.changed.push_issuers_of_certificates.Goals as goal

pub loop-cert-preserved : goal.loop-cert-preserved
loop-cert-preserved c = grind (arith, common_steps, filter_map-append)
