use Rattle.std.proofs.Common.{◌∙◌, ℕ, Option, sym, subst, rules}
use Rattle.host_calls.specs.Rise.{HasRisen}
use Rattle.gate_journal.specs.inner.Kept.{IsConsistentJournal, IsGuarded}
use Rattle.gate_journal.proofs.Keeping.{kept_read, kept_shut, or_is}
use Rattle.gate_journal.proofs.Guarding.{guarded_read, guarded_shut}
use Rattle.gate_journal.proofs.journal.Journal.read_into.Goals as goal

pub invariant_of-self-in-Err-Fault : goal.invariant_of-self-in-Err-Fault
invariant_of-self-in-Err-Fault g c =
    let j = c.self.inside in
    let rests = c.fill_all.ensures.rests in
    let old = g.D.Disk.content j.disk in
    let content = g.D.Disk.content c.fill_all.new.disk in
    let may_leave = g.D.Disk.may_leave c.fill_all.new.disk in
    let doubt = j.doubt in
    let rose : ℕ × ℕ = (c.faults-before.result, c.faults-after.result) in
    let kept : IsConsistentJournal content may_leave j.count j.held j.places.items j.shut = kept_read old content (g.D.Disk.may_leave j.disk) may_leave j.count j.held j.places.items j.shut c.self.invariant.0 rests.content_stays rests.adds_none in
    let guarded : IsGuarded content may_leave j.limit j.count doubt j.shut = guarded_read j.limit j.count old content (g.D.Disk.may_leave j.disk) may_leave doubt j.shut c.self.invariant.1 rests.content_stays rests.adds_none in
    let risen : HasRisen c.faults-before.result c.faults-after.result = search rules in
    let is = sym (c.or-self-inside.ensures ∙ or_is j.shut rose) in (
      subst (λ (s : Option (ℕ × ℕ)). IsConsistentJournal content may_leave j.count j.held j.places.items s) is (kept_shut content may_leave j.count j.held j.places.items j.shut rose kept risen),
      subst (λ (s : Option (ℕ × ℕ)). IsGuarded content may_leave j.limit j.count doubt s) is (guarded_shut j.limit j.count content may_leave doubt j.shut rose guarded),
    )
