use Rattle.std.proofs.lemmas.Result.{err_from_is_err_and}
use Rattle.cmd_codec.specs.Spelling.{part_spelling}
use Rattle.cmd_codec.specs.Spelling.Part.{TheRanges}
use Rattle.cmd_codec.proofs.PartLemmas.{grant_read, grant_bad_asn, grant_bad_v4, grant_bad_v6}
use Rattle.cmd_codec.proofs.cursor.Cursor.resources.Goals as goal

pub returns-in_err-asn : goal.returns-in_err-asn
returns-in_err-asn c =
    let p = err_from_is_err_and c.from_residual.result c.from_residual.ensures.1 in
    rw (p.1, p.2) (grant_bad_asn c.args.self.now c.in_err-asn.field-0.0 c.in_err-asn.ensures.reads)

pub returns-in_err-v4 : goal.returns-in_err-v4
returns-in_err-v4 c =
    let p = err_from_is_err_and c.from_residual-in_err-v4.result c.from_residual-in_err-v4.ensures.1 in
    rw (p.1, p.2) (grant_bad_v4 c.args.self.now c.ranges-2.new.self (part_spelling (TheRanges c.in_ok-asn.asn)) c.in_err-v4.field-0.0 c.in_ok-asn.ensures.reads.1 c.in_err-v4.ensures.reads)

pub returns-in_err-v6 : goal.returns-in_err-v6
returns-in_err-v6 c =
    let p = err_from_is_err_and c.from_residual-in_err-v6.result c.from_residual-in_err-v6.ensures.1 in
    rw (p.1, p.2) (grant_bad_v6 c.args.self.now c.ranges-2.new.self c.ranges-3.new.self (part_spelling (TheRanges c.in_ok-asn.asn)) (part_spelling (TheRanges c.in_ok-v4.v4)) c.in_err-v6.field-0.0
    c.in_ok-asn.ensures.reads.1 c.in_ok-v4.ensures.reads.1 c.in_err-v6.ensures.reads)

pub returns : goal.returns
returns c =
    grant_read c.args.self.now c.ranges-2.new.self c.ranges-3.new.self c.ranges-4.new.self c.in_ok-asn.asn c.in_ok-v4.v4 c.in_ok-v6.v6
    c.in_ok-asn.ensures.reads.0 c.in_ok-v4.ensures.reads.0 c.in_ok-v6.ensures.reads.0 c.in_ok-asn.ensures.reads.1 c.in_ok-v4.ensures.reads.1 c.in_ok-v6.ensures.reads.1
