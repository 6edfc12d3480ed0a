use Rattle.std.proofs.Common.{◌≡◌, ◌∙◌, ℕ, length, map, sym, ap, subst, rules}
use Rattle.std.specs.Prelude.{Option, Vec, vec_len}
use Rattle.krill_top.specs.declared.ends.Ends.{Ends}
use Rattle.krill_top.specs.declared.faults.RunFault.{RunFault}
use Rattle.krill_top.specs.Statuses.{export_fault, graver, run_status}
use Rattle.krill_top.specs.inner.Opened.{AreClosed}
use Rattle.krill_top.specs.inner.Shared.{worst_of}
use Rattle.krill_top.proofs.sharing.close_served.Goals as goal

as_long : {X Z : Type 0} (v : Vec X Z) → vec_len v ≡ length v.items
as_long v = search rules

pub returns-clause-desks : goal.returns-clause-desks
returns-clause-desks g c =
    subst (λ (e : Ends g.row.D.Denot g.row.G.Denot g.row.O.Denot). AreClosed g.D.Disk c.args.desks.items e.desks.items) (sym c.run_end.ensures.ends) c.close_desks.ensures

pub returns-clause-press : goal.returns-clause-press
returns-clause-press g c = ap (λ (e : Ends g.row.D.Denot g.row.G.Denot g.row.O.Denot). e.press) c.run_end.ensures.ends

pub returns-clause-signers : goal.returns-clause-signers
returns-clause-signers g c =
    ap (λ (e : Ends g.row.D.Denot g.row.G.Denot g.row.O.Denot). map g.G.Signer.state e.signers.items) c.run_end.ensures.ends ∙ c.take_back.ensures

pub returns-clause-outlet : goal.returns-clause-outlet
returns-clause-outlet g c = ap (λ (e : Ends g.row.D.Denot g.row.G.Denot g.row.O.Denot). e.outlet) c.run_end.ensures.ends

pub returns-clause-fault : goal.returns-clause-fault
returns-clause-fault g c =
    let outcomes = c.args.served.outcomes.items in
    let worst : c.come_to-fault.result.fault ≡ worst_of (length c.args.sessions.items) outcomes =
    c.come_to-fault.ensures.fault ∙ ap (λ (n : ℕ). worst_of n outcomes) (c.len.ensures ∙ as_long c.args.sessions) in
    c.run_end.ensures.fault ∙ c.graver.ensures
    ∙ ap (λ (f : Option RunFault). graver f c.export_fault.result) worst
    ∙ ap (λ (f : Option RunFault). graver (worst_of (length c.args.sessions.items) outcomes) f) c.export_fault.ensures

pub returns-clause-status : goal.returns-clause-status
returns-clause-status g c = c.run_end.ensures.status ∙ ap run_status (sym c.run_end.ensures.fault)
