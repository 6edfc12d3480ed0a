use Rattle.cmd_codec.proofs.Named.{all_named}
use Rattle.cmd_codec.proofs.laws.listed_names_are_names.Goals as goal

pub returns : goal.returns
returns c = all_named
