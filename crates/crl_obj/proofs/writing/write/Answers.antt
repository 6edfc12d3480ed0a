use Rattle.std.proofs.Common.{rules}
use Rattle.crl_obj.proofs.Written.{is-spelled}
use Rattle.crl_obj.proofs.writing.write.Goals as goal

pub returns-clause-spelled : goal.returns-clause-spelled
returns-clause-spelled c = is-spelled c.args.tbs.now c.args.signature.now.bytes c.in_ok-out.out.items c.is_whole.ensures.size (search rules)
