use Rattle.std.proofs.Common.{List, subst, arith}
use Rattle.std.proofs.lemmas.List.{take_all}
use Rattle.std.specs.String.{string_bytes}
use Rattle.res_sets.specs.declared.numbers.Range.{Range}
use Rattle.res_sets.specs.Printed.{Prints}
use Rattle.res_sets.proofs.TextOf.{text_of}
use Rattle.res_sets.proofs.Prints.{prints_at, fits_at}
use Rattle.res_sets.proofs.printing.print_ranges.Goals as goal

pub push_next-requires : goal.push_next-requires
push_next-requires c = fits_at c.args.family c.args.ranges.now c.loop-place.place c.index-ranges-place.result c.requires c.loop-place-test.true c.index-ranges-place.is

pub loop-place-preserved : goal.loop-place-preserved
loop-place-preserved c =
    prints_at c.args.family c.args.ranges.now _ _ c.index-ranges-place.result c.loop-place.place c.loop-place-test.true c.index-ranges-place.is c.loop-place.invariant c.in_ok-push_next.ensures

pub returns : goal.returns
returns c =
    let printed : Prints c.args.family c.args.ranges.now (string_bytes c.loop-place.out) =
    subst (λ (rs : List Range). Prints c.args.family rs (string_bytes c.loop-place.out))
    (take_all c.loop-place.place c.args.ranges.now (omega arith)) c.loop-place.invariant in
    text_of c.args.family c.args.ranges.now _ printed
