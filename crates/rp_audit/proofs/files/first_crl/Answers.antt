use Rattle.std.proofs.Common.{sym, ◌∙◌}
use Rattle.rp_audit.proofs.Lists.{crl_here, crl_behind}
use Rattle.rp_audit.proofs.files.first_crl.Goals as goal

pub loop-file-preserved : goal.loop-file-preserved
loop-file-preserved c =
    c.loop-file.invariant
    ∙ crl_behind c.args.files.now c.loop-file.file-index c.file-item.result c.loop-file-test.true c.file-item.is (sym c.is_crl_file.ensures ∙ c.if-is_crl_file.false)

pub returns-then-is_crl_file : goal.returns-then-is_crl_file
returns-then-is_crl_file c =
    sym (c.loop-file.invariant
    ∙ crl_here c.args.files.now c.loop-file.file-index c.file-item.result c.loop-file-test.true c.file-item.is (sym c.is_crl_file.ensures ∙ c.if-is_crl_file.true))
