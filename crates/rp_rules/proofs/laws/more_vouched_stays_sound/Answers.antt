use Rattle.rp_rules.proofs.Vouching.{stays_sound}
use Rattle.rp_rules.proofs.laws.more_vouched_stays_sound.Goals as goal

pub returns : goal.returns
returns c = stays_sound
