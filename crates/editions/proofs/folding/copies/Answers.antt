use Rattle.std.proofs.Common.{rules}
use Rattle.editions.proofs.StateLemmas.Growing.{map-grown}
use Rattle.editions.proofs.folding.copies.Goals as goal

pub loop-config-preserved : goal.loop-config-preserved
loop-config-preserved c =
    map-grown (λ config. config.settings) (λ config. config.settings) c.loop-config.copies.items c.push.new.self.items c.args.configs.now
    c.loop-config.config-index c.in_ok-copy.field-0 c.config-item.result c.loop-config-test.true c.config-item.is c.loop-config.invariant
    (search rules) c.in_ok-copy.ensures
