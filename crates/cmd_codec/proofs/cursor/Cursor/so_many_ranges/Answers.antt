use Rattle.std.proofs.Common.{◌≡◌, ℕ, subst, arith, ◌∙◌}
use Rattle.std.specs.List.{flat_map}
use Rattle.std.proofs.lemmas.Result.{err_from_is_err_and}
use Rattle.cmd_codec.specs.Spelling.{range_spelling}
use Rattle.cmd_codec.specs.Fault.{range_fields}
use Rattle.cmd_codec.specs.Outcome.{Passes}
use Rattle.cmd_codec.proofs.Lists.{no_ranges, more_ranges, all_ranges, bad_range}
use Rattle.cmd_codec.proofs.cursor.Cursor.so_many_ranges.Goals as goal

pub loop-init : goal.loop-init
loop-init c = no_ranges c.args.family c.args.self.now c.in_ok-set.set c.in_ok-set.ensures

pub loop-preserved : goal.loop-preserved
loop-preserved c =
    let (range, behind, after, last, passes) = c.in_ok-range_into.ensures in
    more_ranges c.args.family c.args.self.now c.loop.self c.range_into.new.self c.loop.counter c.loop.set c.range_into.new.set range c.loop.invariant behind after last passes

pub returns-in_err-range_into : goal.returns-in_err-range_into
returns-in_err-range_into c =
    let p = err_from_is_err_and c.from_residual-in_err-range_into.result c.from_residual-in_err-range_into.ensures.1 in
    rw (p.1, p.2) (bad_range c.args.family c.args.self.now c.loop.self c.loop.counter c.args.count c.loop.set c.in_err-range_into.field-0.0 c.loop.invariant (omega arith) c.in_err-range_into.ensures)

pub returns : goal.returns
returns c =
    let all : c.loop.counter ≡ c.args.count = omega arith in
    let done = all_ranges c.args.family c.args.self.now c.loop.self c.loop.counter c.loop.set c.loop.invariant in (
      c.loop.invariant.family_is,
      c.loop.invariant.size ∙ all,
      c.loop.invariant.canonical,
      subst (λ (k : ℕ). Passes (flat_map range_spelling c.loop.set.ranges) (range_fields c.args.family k 0) c.args.self.now c.loop.self) all done,
    )
