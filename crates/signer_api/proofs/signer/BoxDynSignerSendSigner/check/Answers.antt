use Rattle.std.proofs.Common.{sym, ap}
use Rattle.signer_api.proofs.MemoryLemmas.{told_same}
use Rattle.signer_api.proofs.signer.BoxDynSignerSendSigner.check.Goals as goal

pub returns-clause-answer : goal.returns-clause-answer
returns-clause-answer g c = told_same _ _ _ _ c.check.ensures.0
    (sym (ap (λ z. ((goal.Signer-dyn g z).state z.1).vouching) c.deref_box_mut-1.ensures.value.1))
