use Rattle.std.specs.BTreeSet.{contains_text}
use Rattle.std.proofs.Common.{arith}
use Rattle.press_core.specs.inner.Resumed.{owed_place}
use Rattle.press_core.proofs.Added.{uri-added, all-added}
use Rattle.press_core.proofs.roa_uris.owed_uris.Goals as goal

pub loop-one-preserved : goal.loop-one-preserved
loop-one-preserved c = uri-added (owed_place c.args.site.now c.args.names.now) c.args.owed.now c.loop-one.one-index c.one-item.result c.loop-one-test.true c.one-item.is
    (contains_text c.loop-one.uris) (contains_text c.add_owed.new.uris) c.loop-one.invariant c.in_ok-add_owed.ensures

pub returns : goal.returns
returns c = all-added (owed_place c.args.site.now c.args.names.now) c.args.owed.now c.loop-one.one-index (omega arith) (contains_text c.loop-one.uris) c.loop-one.invariant
