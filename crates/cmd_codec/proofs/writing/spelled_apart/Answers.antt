use Rattle.cmd_codec.proofs.Apart.{spelling_apart}
use Rattle.cmd_codec.proofs.writing.spelled_apart.Goals as goal

pub returns : goal.returns
returns c = spelling_apart
