use Rattle.std.proofs.Common.{◌≡◌, ◌∙◌, List, length, map, sym, refl, subst, arith}
use Rattle.krill_top.specs.declared.faults.OpenFault.{OpenFault}
use Rattle.krill_top.specs.declared.faults.OpenFault.TheVariants.{WrongCount}
use Rattle.signer_api.specs.State.{SignerState}
use Rattle.krill_top.specs.InstanceState.{outlet_state}
use Rattle.krill_top.specs.PressDisk.{Given, AreAsked}
use Rattle.krill_top.specs.Run.{IsClosedAgain}
use Rattle.krill_top.proofs.Answering.{if_ok_so, if_err_so}
use Rattle.krill_top.proofs.PressFound.{found_state, stands_opened}
use Rattle.krill_top.proofs.StartedInstance.{closed_again, ready_with, unopened_behind, lacks_behind}
use Rattle.krill_top.proofs.starting.open_behind.Goals as goal

pub open_instance-requires-clause-stands : goal.open_instance-requires-clause-stands
open_instance-requires-clause-stands g c =
    let found = c.requires.found in
    let beside = c.args.beside in
    let given : Given = record { site = c.args.site.now; session = c.args.session; found = found.0; signers = c.args.ring; outlet = outlet_state g.O.Outlet beside.outlet } in
    let opened = c.in-Ok.ensures.opened given (record { site_is = refl; session_is = refl; are = record { found = found.1; signers_are = refl } }) in
    let needed = c.signers_needed-needed.ensures found.0 found.1 in (
      found_state g.D.Disk given c.args.press c.in-Ok.opened.press c.in-Ok.opened.summary opened,
      stands_opened g.D.Disk given c.args.press c.in-Ok.opened.press c.in-Ok.opened.summary opened g.O.Outlet beside.desks c.len-signers.result beside.outlet found.1 c.requires.all
          (omega (arith, needed, c.if-found-needed.false, c.from-found.ensures, c.len.ensures)) c.len-signers.ensures refl,
    )

pub returns-in-Ok-clause-started : goal.returns-in-Ok-clause-started
returns-in-Ok-clause-started g c =
    let found = c.requires.found in
    if_ok_so c.open_instance.result _ _ c.open_instance.ensures.started (λ made so ends of same. so c.args.site.now c.args.session ends
    (ready_with g.D.Disk g.G.Signer.state g.O.Outlet c.args.site.now c.args.session ends c.args.beside.desks c.args.ring c.args.beside.outlet of c.args.press c.in-Ok.opened.press c.in-Ok.opened.summary c.len-signers.result same
    c.requires.all c.len-signers.ensures
    (λ in_desks all. let needed = c.signers_needed-needed.ensures in_desks all in omega (arith, needed, c.if-found-needed.false, c.from-found.ensures, c.len.ensures, c.len-signers.ensures))
    found.0 found.1 c.in-Ok.ensures.opened))

pub returns-in-Ok-clause-refused : goal.returns-in-Ok-clause-refused
returns-in-Ok-clause-refused g c =
    let found = c.requires.found in
    if_err_so c.open_instance.result _ _ c.open_instance.ensures.refused (λ refused so ends of same. so c.args.site.now c.args.session ends
    (ready_with g.D.Disk g.G.Signer.state g.O.Outlet c.args.site.now c.args.session ends c.args.beside.desks c.args.ring c.args.beside.outlet of c.args.press c.in-Ok.opened.press c.in-Ok.opened.summary c.len-signers.result same
    c.requires.all c.len-signers.ensures
    (λ in_desks all. let needed = c.signers_needed-needed.ensures in_desks all in omega (arith, needed, c.if-found-needed.false, c.from-found.ensures, c.len.ensures, c.len-signers.ensures))
    found.0 found.1 c.in-Ok.ensures.opened))

pub returns-then-found-needed-clause-refused : goal.returns-then-found-needed-clause-refused
returns-then-found-needed-clause-refused g c ends of same =
    let made = c.give_up.ensures in
    let back = c.give_up.result.ends in
    let count : c.from-found.result ≡ length c.args.ring = c.from-found.ensures ∙ c.len.ensures in
    subst (λ (f : OpenFault). IsClosedAgain g.D.Disk g.G.Signer.state g.O.Outlet c.args.site.now c.args.session f ends back) (sym made.fault)
    (closed_again g.D.Disk g.G.Signer.state g.O.Outlet c.args.site.now c.args.session (WrongCount 1 c.signers_needed-needed.result c.from-found.result) ends back c.args.beside.desks of.desks_are made.desks
    (λ found all. made.signers ∙ sym of.signers_are)
    (lacks_behind g.D.Disk g.G.Signer.state g.O.Outlet c.args.site.now c.args.session ends c.args.beside.desks c.args.ring c.args.beside.outlet of c.args.press back c.from-found.result c.signers_needed-needed.result same made.press made.outlet
    count c.if-found-needed.true c.signers_needed-needed.ensures))

pub returns-in-Err-clause-refused : goal.returns-in-Err-clause-refused
returns-in-Err-clause-refused g c ends of same =
    let made = c.give_up-in-Err.ensures in
    let back = c.give_up-in-Err.result.ends in
    let fault = c.in-Err.field-0.fault in
    subst (λ (f : OpenFault). IsClosedAgain g.D.Disk g.G.Signer.state g.O.Outlet c.args.site.now c.args.session f ends back) (sym made.fault)
    (closed_again g.D.Disk g.G.Signer.state g.O.Outlet c.args.site.now c.args.session fault ends back c.args.beside.desks of.desks_are made.desks
    (λ found all. subst (λ (s : List SignerState). AreAsked fault s (map g.G.Signer.state back.signers.items)) (sym of.signers_are)
    (subst (λ (s : List SignerState). AreAsked fault c.args.ring s) (sym made.signers) c.in-Err.ensures.asked))
    (unopened_behind g.D.Disk g.G.Signer.state g.O.Outlet c.args.site.now c.args.session ends c.args.beside.desks c.args.ring c.args.beside.outlet of c.args.press fault back c.in-Err.field-0.disk c.in-Err.field-0.ring same made.press made.signers made.outlet
    (λ found all. let needed = c.signers_needed-needed.ensures found all in omega (arith, needed, c.if-found-needed.false, c.from-found.ensures, c.len.ensures))
    c.in-Err.ensures.refused))
