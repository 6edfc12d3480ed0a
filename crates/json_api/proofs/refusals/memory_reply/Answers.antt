use Rattle.std.proofs.Common.{refl}
use Rattle.json.specs.Print.{escape_byte}
use Rattle.std.specs.Fmt.{digits}
use Rattle.json_api.proofs.refusals.memory_reply.Goals as goal

pub returns : goal.returns
unfolding escape_byte digits
returns c = refl
