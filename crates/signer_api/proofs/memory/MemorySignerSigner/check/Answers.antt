use Rattle.std.proofs.Common.{◌∙◌, ap, List}
use Rattle.std.specs.List.{list_any}
use Rattle.signer_api.specs.State.{Signed}
use Rattle.signer_api.specs.declared.memory.Remembered.{Remembered}
use Rattle.signer_api.proofs.MemoryLemmas.{vouched_decides, is_same}
use Rattle.signer_api.proofs.memory.MemorySignerSigner.check.Goals as goal

pub returns-clause-answer : goal.returns-clause-answer
returns-clause-answer c =
    let one : Signed = record { key = c.args.key.now.bytes; digest = c.args.digest.now.bytes; signature = c.args.signature.now.bytes } in
    λ _. vouched_decides one c.begin.new.self.signed.items c.contains.result
    (c.contains.ensures.value ∙ ap (λ (ys : List Remembered). list_any (is_same one) ys) c.deref.ensures.value)
