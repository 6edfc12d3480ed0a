use Rattle.std.proofs.Common.{length, arith}
use Rattle.manager.proofs.Commanded.{accepted_is, refused_by}
use Rattle.manager.proofs.locked_desks.LockedDesks.command.Goals as goal

pub returns-clause-accepted : goal.returns-clause-accepted
returns-clause-accepted g c =
    accepted_is c.commands_are_determined.ensures c.args.pass.now.seats c.find.new.pass.seats c.commit_at-answer.new.pass.seats c.args.name.now c.in-Some.desk c.find.ensures.more
    c.commit_at-answer.ensures.others c.commit_at-answer.ensures.count (c.desks.ensures.known 0 (omega arith)) c.in-Some.ensures.named
    c.args.command (length g.N.Names.named.signers) c.in-Ok.count c.in-Ok.ensures.taken

pub returns-in-Err-clause-refused : goal.returns-in-Err-clause-refused
returns-in-Err-clause-refused g c =
    refused_by c.commands_are_determined.ensures c.args.pass.now.seats c.find.new.pass.seats c.commit_at-answer.new.pass.seats c.args.name.now c.in-Some.desk c.find.ensures.more
    c.commit_at-answer.ensures.others c.commit_at-answer.ensures.count (c.desks.ensures.known 0 (omega arith)) c.in-Some.ensures.named
    c.args.command (length g.N.Names.named.signers) c.in-Err.fault c.in-Err.ensures.refused
