use Rattle.std.proofs.Common.{arith, length, take}
use Rattle.std.proofs.lemmas.List.{length-take}
use Rattle.disk_api.specs.Memory.{IsImage}
use Rattle.disk_api.proofs.Pieces.{follows_wider}
use Rattle.disk_api.proofs.played_file.PlayedFile.write_front.Goals as goal

pub returns-in-Ok-clause-images : goal.returns-in-Ok-clause-images
returns-in-Ok-clause-images c =
    follows_wider c.args.at (length (take c.args.n c.args.bytes.now)) (length c.args.bytes.now) (IsImage c.args.self.now.disk) (IsImage c.write_at.new.self)
    (omega (arith, length-take c.args.n c.args.bytes.now)) c.in-Ok.ensures.images

pub returns-in-Err-clause-images : goal.returns-in-Err-clause-images
returns-in-Err-clause-images c =
    follows_wider c.args.at (length (take c.args.n c.args.bytes.now)) (length c.args.bytes.now) (IsImage c.args.self.now.disk) (IsImage c.write_at.new.self)
    (omega (arith, length-take c.args.n c.args.bytes.now)) c.in-Err.ensures.images
