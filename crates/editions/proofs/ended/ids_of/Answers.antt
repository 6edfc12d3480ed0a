use Rattle.std.proofs.Common.{rules}
use Rattle.issue_keys.specs.Keys.{id_of}
use Rattle.editions.proofs.StateLemmas.Growing.{map-grown}
use Rattle.editions.proofs.ended.ids_of.Goals as goal

pub loop-row-preserved : goal.loop-row-preserved
loop-row-preserved c =
    map-grown (λ id. id.bytes) id_of c.loop-row.ids.items c.push.new.self.items c.args.rows.now
    c.loop-row.row-index c.of.result c.row-item.result c.loop-row-test.true c.row-item.is c.loop-row.invariant
    (search rules) (search rules)
