use Rattle.std.proofs.Common.{◌∙◌, ℕ, sym, subst}
use Rattle.gate_journal.specs.Format.{payloads}
use Rattle.gate_journal.specs.Answers.{CanAppend as HasJournalPlace, IsFullAnswer as IsJournalFull, IsRefusal}
use Rattle.gate_journal.specs.declared.fault.AppendFault.{AppendFault}
use Rattle.desk_core.specs.View.{View}
use Rattle.desk_core.specs.Answers.{CanCommit, IsDeskFault}
use Rattle.desk_core.specs.declared.faults.DeskFault.{DeskFault}
use Rattle.desk_core.specs.declared.faults.DeskFault.TheVariants.{Verdict, JournalFull}
use Rattle.desk_core.proofs.Committed.{kept_sizes}
use Rattle.desk_core.proofs.Refusals.{placed, full, judged}
use Rattle.desk_core.proofs.desk.Desk.refusal.Goals.{in-Err, in-Ok}
use Rattle.desk_core.proofs.desk.Desk.refusal.Goals as goal

pub returns-after-verdict-clause-answer : goal.returns-after-verdict-clause-answer
returns-after-verdict-clause-answer g c =
    let inside = c.self.inside in
    let command = c.args.command.now in
    let signers = c.args.signers in
    let records = payloads inside.journal.sizes inside.body.items in
    let sizes = kept_sizes g.D.Disk inside.number inside.config.settings inside.body.items inside.journal c.self.invariant in
    let answer : IsJournalFull c.in-Some-JournalFull.held c.in-Some-JournalFull.needed c.needed.result inside.journal inside.journal =
    subst (λ (f : AppendFault _). IsRefusal f c.needed.result inside.journal) c.in-Some-JournalFull.field-0-is c.in-Some-JournalFull.ensures.answer in
    let mine = subst (λ (n : ℕ). IsJournalFull c.in-Some-JournalFull.held c.in-Some-JournalFull.needed n inside.journal inside.journal) c.needed.ensures answer in
    elim c.match-verdict.branch [
      | in-Err w ↦
          subst (λ (f : DeskFault _). IsDeskFault g.D.Disk f command signers c.args.self.now c.args.self.now) (sym w.result-is)
          (subst (λ (v : View _). IsDeskFault g.D.Disk (Verdict w.in-Err.refusal) command signers v v) c.self.view_is
          (judged g.D.Disk inside.number inside.config.settings records inside.journal c.self.invariant.limit sizes command signers w.in-Err.refusal answer.is_open (sym c.verdict-verdict.ensures.verdict ∙ w.in-Err.is)))
      | in-Ok w ↦
          subst (λ (f : DeskFault _). IsDeskFault g.D.Disk f command signers c.args.self.now c.args.self.now) (sym w.result-is)
          (subst (λ (v : View _). IsDeskFault g.D.Disk (JournalFull c.in-Some-JournalFull.held c.in-Some-JournalFull.needed) command signers v v) c.self.view_is
          (full g.D.Disk inside.number inside.config.settings records inside.journal c.self.invariant.limit sizes command signers c.in-Some-JournalFull.held c.in-Some-JournalFull.needed mine (sym c.verdict-verdict.ensures.verdict ∙ w.in-Ok.is)))
    ]

pub returns-in-Ok-verdict-clause-answer : goal.returns-in-Ok-verdict-clause-answer
returns-in-Ok-verdict-clause-answer g c =
    let inside = c.self.inside in
    let command = c.args.command.now in
    let signers = c.args.signers in
    let sizes = kept_sizes g.D.Disk inside.number inside.config.settings inside.body.items inside.journal c.self.invariant in
    let place = subst (λ (n : ℕ). HasJournalPlace inside.journal n) c.needed.ensures c.in-None.ensures.answer in
    subst (λ (v : View _). CanCommit v command signers) c.self.view_is
    (placed g.D.Disk inside.number inside.config.settings (payloads inside.journal.sizes inside.body.items) inside.journal c.self.invariant.limit sizes command signers place (sym c.verdict-verdict.ensures.verdict ∙ c.in-Ok-verdict.is))
