use Rattle.std.proofs.Common.{arith, List, ℕ, length, take, subst}
use Rattle.disk_api.specs.Content.{Gives}
use Rattle.disk_api.specs.Memory.{memory_bytes}
use Rattle.disk_api.proofs.Pieces.{gives_front}
use Rattle.disk_api.proofs.played_file.PlayedFileRawFile.read_at.Goals as goal

pub returns-in-Ok-clause-bytes : goal.returns-in-Ok-clause-bytes
returns-in-Ok-clause-bytes c =
    gives_front (memory_bytes c.args.self.now.disk) c.args.at c.read_from.result c.in-Ok.most c.args.into.now c.read_from.new.into
    (subst (λ (bytes : List ℕ). Gives bytes c.args.at c.read_from.result (take c.in-Ok.most c.args.into.now) c.read_from.new.into) c.bytes.ensures c.read_from.ensures.gives)
    c.read_from.ensures.within c.read_from.auto.into c.in-Ok.ensures.some
