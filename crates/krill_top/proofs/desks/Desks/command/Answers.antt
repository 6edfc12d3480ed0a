use Rattle.std.proofs.Common.{◌≡◌, ℕ, List, sym, subst}
use Rattle.std.proofs.lemmas.Option.{slice_get_read}
use Rattle.std.specs.Prelude.{Result, Some, slice_get, slice_set}
use Rattle.desk_core.specs.View.{View}
use Rattle.krill_top.specs.declared.command_fault.CommandFault.{CommandFault}
use Rattle.krill_top.specs.Outcomes.{Outcome, Commanded, outcome_of, fault_outcome}
use Rattle.krill_top.specs.Outcomes.Outcome.{Accepted}
use Rattle.krill_top.specs.DesksInStates.{AreIn, Leads}
use Rattle.krill_top.proofs.Commanding.{accepted_step, fault_step, commanded, not_named}
use Rattle.krill_top.proofs.desks.Desks.command.Goals.{in-Ok, in-Err}
use Rattle.krill_top.proofs.desks.Desks.command.Goals as goal

pub returns-in_default : goal.returns-in_default
returns-in_default g c = not_named g.D.Disk 0 c.args.command c.args.signers c.args.name.now c.args.self.now c.in_default.ensures.named

pub returns : goal.returns
returns g c =
    let D : Type 0 = g.row.D.Denot in
    let place = c.in-Some.place in
    let name = c.args.name.now in
    let command = c.args.command in
    let signers = c.args.signers in
    let desks = c.self.inside.desks.items in
    let old = c.index_mut.result.now in
    let new = c.commit.new.self in
    let here : slice_get desks place ≡ Some old = slice_get_read desks 64 place old (sym c.self.invariant) c.in-Some.ensures.there c.index_mut.ensures.value in
    let leads : (o : Outcome) → Leads g.D.Disk (λ b a. Commanded name command signers o b a) desks (slice_set desks place new) → Leads g.D.Disk (λ b a. Commanded name command signers o b a) c.args.self.now (slice_set desks place new) =
    λ o l. subst (λ (d : List (View D)). Leads g.D.Disk (λ b a. Commanded name command signers o b a) d (slice_set desks place new)) c.self.view_is l in
    elim c.match-commit.branch [
      | in-Ok w ↦
          subst (λ (r : Result ℕ (CommandFault D)). Leads g.D.Disk (λ b a. Commanded name command signers (outcome_of r) b a) c.args.self.now (slice_set desks place new)) (sym w.result-is)
          (leads _ (commanded g.D.Disk place command signers name (Accepted w.in-Ok.count) desks old new here
          (λ desk_states all. c.in-Some.ensures.named desk_states (subst (λ (d : List (View D)). AreIn d desk_states) c.self.view_is all))
          (accepted_step g.D.Disk place command signers old new w.in-Ok.count (record {
            place = w.in-Ok.ensures.place;
            commands = w.in-Ok.ensures.commands;
            counted = w.in-Ok.ensures.counted.0;
            is_open = w.in-Ok.ensures.open.0;
            settled = w.in-Ok.ensures.open.1;
            number_same = w.in-Ok.ensures.number;
            later = w.in-Ok.ensures.later;
            bytes = w.in-Ok.ensures.bytes;
          }))))
      | in-Err w ↦
          subst (λ (r : Result ℕ (CommandFault D)). Leads g.D.Disk (λ b a. Commanded name command signers (outcome_of r) b a) c.args.self.now (slice_set desks place new)) (sym w.result-is)
          (subst (λ (f : CommandFault D). Leads g.D.Disk (λ b a. Commanded name command signers (fault_outcome f) b a) c.args.self.now (slice_set desks place new)) (sym w.of_desk.ensures)
          (leads _ (commanded g.D.Disk place command signers name _ desks old new here
          (λ desk_states all. c.in-Some.ensures.named desk_states (subst (λ (d : List (View D)). AreIn d desk_states) c.self.view_is all))
          (fault_step g.D.Disk place command signers old new w.in-Err.fault w.in-Err.ensures.later w.in-Err.ensures.refused))))
    ]
