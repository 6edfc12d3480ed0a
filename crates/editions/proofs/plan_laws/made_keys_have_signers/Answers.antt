use Rattle.editions.proofs.PlanLemmas.Makings.{keys-signers}
use Rattle.editions.proofs.plan_laws.made_keys_have_signers.Goals as goal

pub returns : goal.returns
returns c = keys-signers
