use Rattle.std.proofs.lemmas.Result.{IfOk-weaker}
use Rattle.cert_obj.proofs.Written.{is-spelled}
use Rattle.cert_obj.proofs.writing.write.Goals as goal

pub returns-clause-spelled : goal.returns-clause-spelled
returns-clause-spelled c = IfOk-weaker c.write_signed.result _ _ (λ out written. is-spelled c.args.tbs.now c.args.signature.now.bytes out.items c.is_whole.ensures written) c.write_signed.ensures
