use Rattle.std.proofs.Common.{subst}
use Rattle.disk_api.specs.Runs.{LeavesOnly}
use Rattle.gate_journal.specs.inner.Kept.{shows}
use Rattle.gate_journal.specs.View.{View, RecoversToInDoubt, stake_of}
use Rattle.disk_api.specs.laws.RunLaws.{started}
use Rattle.gate_journal.proofs.Guarding.{stake_stands}
use Rattle.gate_journal.proofs.Refused.{refusal_answers}
use Rattle.gate_journal.proofs.journal.Journal.append.Goals as goal

pub returns-in-Some-clause-any_moment : goal.returns-in-Some-clause-any_moment
returns-in-Some-clause-any_moment g c =
    let j = c.self.inside in
    let content = g.D.Disk.content j.disk in
    let payload = c.args.payload.now in
    subst (λ (v : View _). LeavesOnly g.D.Disk v.disk v.disk (RecoversToInDoubt v.limit v.records (stake_of v.shut v.doubt payload))) c.self.view_is
    (started g.D.Disk j.disk (RecoversToInDoubt j.limit (shows j.count content) (stake_of j.shut j.doubt payload)) g.met.D.Disk.only_now
    (λ image left. stake_stands j.limit (shows j.count content) j.shut j.doubt payload image c.self.invariant.1.settled (c.self.invariant.1.images image left)))

pub returns-in-Some-clause-refused : goal.returns-in-Some-clause-refused
returns-in-Some-clause-refused g c = refusal_answers g.D.Disk c.in-Some.fault c.args.payload.now c.args.self.now c.in-Some.ensures.answer
