use Rattle.std.proofs.Common.{inl, inr}
use Rattle.krill_top.proofs.running.work_one.Goals as goal

pub returns-in-Some : goal.returns-in-Some
returns-in-Some g c bases random ends before started one = inl (c.refuse_held.ensures bases random ends before started one)

pub returns-in-None : goal.returns-in-None
returns-in-None g c bases random ends before started one = inr (c.work_over.ensures bases random ends before started one)
