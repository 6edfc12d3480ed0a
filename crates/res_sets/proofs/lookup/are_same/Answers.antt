use Rattle.std.proofs.lemmas.Slice.Eq.{slice_eq-Decides}
use Rattle.res_sets.proofs.Equal.{ranges_decide}
use Rattle.res_sets.proofs.lookup.are_same.Goals as goal

pub returns : goal.returns
returns c =
    let decides = slice_eq-Decides ranges_decide c.args.a.now c.args.b.now c.eq.result c.eq.ensures in
    decides
