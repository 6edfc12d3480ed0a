use Rattle.editions.proofs.PlanLemmas.Rest.{revoked-later}
use Rattle.editions.proofs.desk_laws.revoked_until_later.Goals as goal

pub returns : goal.returns
returns c = revoked-later
