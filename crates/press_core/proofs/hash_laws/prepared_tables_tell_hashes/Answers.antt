use Rattle.press_core.proofs.Hashed.{hashes-go-on}
use Rattle.press_core.proofs.hash_laws.prepared_tables_tell_hashes.Goals as goal

pub returns : goal.returns
returns c = λ start ring prepared is hashes. hashes-go-on start ring prepared is hashes
