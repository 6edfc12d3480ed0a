use Rattle.editions.proofs.MakingLemmas.Signatures.{told, counted}
use Rattle.editions.proofs.sparing_laws.signatures_are_of_the_work.Goals as goal

pub returns : goal.returns
returns c = record {
  told = λ s live old new made can is. told s live old new made can is;
  counted = λ s live old new made can is less. counted s live old new made can is less;
}
