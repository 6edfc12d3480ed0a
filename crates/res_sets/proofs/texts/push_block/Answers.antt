use Rattle.std.proofs.Common.{◌≡◌, ◌++◌, ◌∷◌, [], rules}
use Rattle.res_sets.proofs.texts.push_block.Goals as goal

pub returns-clause-read : goal.returns-clause-read
returns-clause-read c =
    let items : c.push.new.self.items ≡ c.args.ranges.now.items ++ c.in-Ok.range ∷ [] = search rules in
    (c.in-Ok.range, (c.in-Ok.ensures, items))
