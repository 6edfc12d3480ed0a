use Rattle.std.proofs.Common.{ℕ, ◌+◌, subst}
use Rattle.gate_journal.specs.Answers.{IsRefusal}
use Rattle.gate_journal.specs.View.{RecoversToInDoubt, stake_of}
use Rattle.disk_api.specs.laws.RunLaws.{started}
use Rattle.gate_journal.proofs.Guarding.{stake_stands}
use Rattle.gate_journal.proofs.Refused.{refusal_answers}
use Rattle.gate_journal.proofs.journal.Journal.append_built.Goals as goal

pub returns-in-Some-clause-any_moment : goal.returns-in-Some-clause-any_moment
returns-in-Some-clause-any_moment g c =
    let journal = c.args.self.now in
    let safe = c.refusal.ensures.safe in
    started g.D.Disk journal.disk (RecoversToInDoubt journal.limit journal.records (stake_of journal.shut journal.doubt c.args.entry)) g.met.D.Disk.only_now
    (λ image left. stake_stands journal.limit journal.records journal.shut journal.doubt c.args.entry image safe.settled (safe.images image left))

pub returns-in-Some-clause-refused : goal.returns-in-Some-clause-refused
returns-in-Some-clause-refused g c =
    refusal_answers g.D.Disk c.in-Some.fault c.args.entry c.args.self.now (subst (λ (n : ℕ). IsRefusal c.in-Some.fault (n + 9) c.args.self.now) c.len.ensures c.in-Some.ensures.answer)
