use Rattle.std.proofs.lemmas.Result.{err_from_is_err_and}
use Rattle.cmd_codec.specs.Fault.{field, is_any}
use Rattle.cmd_codec.proofs.PartLemmas.{number_passes, bad_ranges_count, ranges_read, family_read}
use Rattle.cmd_codec.proofs.cursor.Cursor.ranges.Goals as goal

pub returns-in_err-count-clause-reads : goal.returns-in_err-count-clause-reads
returns-in_err-count-clause-reads c =
    let p = err_from_is_err_and c.from_residual.result c.from_residual.ensures.1 in
    rw (p.1, p.2) (bad_ranges_count c.args.family c.args.self.now c.in_err-count.field-0.0 c.in_err-count.ensures.reads)

pub returns-clause-reads : goal.returns-clause-reads
returns-clause-reads c =
    let first = number_passes c.in_ok-count.count (field 4 is_any) c.args.self.now c.number.new.self c.in_ok-count.ensures.reads.1 in
    ranges_read c.args.family c.args.self.now c.number.new.self c.so_many_ranges.new.self c.in_ok-count.count c.so_many_ranges.result c.in_ok-count.ensures.reads.0 c.in_ok-count.ensures.value first c.so_many_ranges.ensures

pub returns-clause-family : goal.returns-clause-family
returns-clause-family c = family_read c.args.family c.in_ok-count.count c.number.new.self c.so_many_ranges.new.self c.so_many_ranges.result c.so_many_ranges.ensures
