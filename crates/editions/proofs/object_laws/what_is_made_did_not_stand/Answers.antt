use Rattle.editions.proofs.ObjectLemmas.Dated.{other-stood}
use Rattle.editions.proofs.object_laws.what_is_made_did_not_stand.Goals as goal

pub returns : goal.returns
returns c = λ premises editions m d bytes uri steps later is. other-stood premises editions steps m d bytes uri later is
