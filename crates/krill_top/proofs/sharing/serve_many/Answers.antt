use Rattle.std.proofs.Common.{◌≡◌, ◌∙◌, List, [], ◌∷◌, length, sym, ap, subst, inl, inr, arith, rules}
use Rattle.std.specs.Prelude.{Vec, vec_len}
use Rattle.desk_core.specs.View.{View}
use Rattle.gate_journal.specs.View.{IsSafe}
use Rattle.press_core.specs.Stored.{StoredValue}
use Rattle.manager.specs.Ready.{IsReady, named_of}
use Rattle.manager.specs.Run.{shown_at}
use Rattle.manager.specs.Starting.{AreCounted}
use Rattle.krill_top.specs.Statuses.{run_status}
use Rattle.krill_top.specs.inner.Instances.{stored_in}
use Rattle.krill_top.specs.inner.Opened.{AreClosed}
use Rattle.krill_top.specs.inner.Shared.{IsServedRun}
use Rattle.krill_top.proofs.ManyServed.{Laws, named_in}
use Rattle.krill_top.proofs.Served.{serves_none}
use Rattle.krill_top.proofs.ServedMany.{desks_of, ready_in, serves_all}
use Rattle.krill_top.proofs.sharing.serve_many.Goals as goal

pub serve_ready-requires-clause-ready : goal.serve_ready-requires-clause-ready
serve_ready-requires-clause-ready g c = λ lifetimes lives.
    let D : Type 0 = g.row.D.Denot in
    let O : Type 0 = g.row.O.Denot in
    let instance = c.args.started.instance in
    let parts = c.into_parts-desks.ensures in
    let is = c.in-Ok.ensures in
    let opened = c.in-Ok.ready.opened in
    let desks : AreCounted instance.desks opened.desks.items = subst (λ (l : List (View D)). AreCounted l opened.desks.items) (c.into_inner.ensures.desks ∙ parts.desks) is.desks in
    let press : opened.press ≡ stored_in instance = is.press.0 ∙ parts.press in
    let outlet : opened.outlet ≡ instance.outlet = is.press.1 ∙ parts.outlet in
    let shown : opened.board.shown ≡ shown_at instance.press.at ∷ [] = is.shown ∙ ap (λ (s : StoredValue D). shown_at s.press.at ∷ []) parts.press in
    let whole = ready_in g.O.Outlet instance c.requires.resumed.0 c.requires.resumed.1 opened.desks.items desks opened.board shown in
    record {
      is = subst (λ (o : O). IsReady g.O.Outlet opened.desks.items opened.press opened.board o) (sym outlet)
          (subst (λ (s : StoredValue D). IsReady g.O.Outlet opened.desks.items s opened.board instance.outlet) (sym press) whole);
      counted = parts.signers ∙ sym (ap (λ (s : StoredValue D). length s.press.ring) press);
      many = is.viewers.0;
      viewers = is.viewers.1;
      empty = is.room.0;
      room = omega (arith, is.room.1, c.into_inner.ensures.all);
    }

as_long : {X Z : Type 0} (v : Vec X Z) → vec_len v ≡ length v.items
as_long v = search rules

pub unserved-requires-clause-room : goal.unserved-requires-clause-room
unserved-requires-clause-room g c =
    omega (arith, ap length c.in-Err.ensures.refused.0, c.into_inner.ensures.all, as_long c.in-Err.field-0.desks, c.requires.room)

pub returns-in-Ok : goal.returns-in-Ok
returns-in-Ok g c bases random ends started =
    let D : Type 0 = g.row.D.Denot in
    let O : Type 0 = g.row.O.Denot in
    let instance = c.args.started.instance in
    let parts = c.into_parts-desks.ensures in
    let is = c.in-Ok.ensures in
    let opened = c.in-Ok.ready.opened in
    let run = c.serve_ready.result in
    let before = c.args.sessions.items in
    let desks : AreCounted instance.desks opened.desks.items = subst (λ (l : List (View D)). AreCounted l opened.desks.items) (c.into_inner.ensures.desks ∙ parts.desks) is.desks in
    let press : opened.press ≡ stored_in instance = is.press.0 ∙ parts.press in
    let outlet : opened.outlet ≡ instance.outlet = is.press.1 ∙ parts.outlet in
    let shown : opened.board.shown ≡ shown_at instance.press.at ∷ [] = is.shown ∙ ap (λ (s : StoredValue D). shown_at s.press.at ∷ []) parts.press in
    let laws : Laws g.D.Disk g.O.Outlet = record {
      run = c.laws_of_runs.ensures;
      left = c.more_commands_stand.ensures.left;
      stand = c.more_commands_stand.ensures.stands;
      found = c.ready_stores_can_start.ensures.found;
    } in
    elim c.serve_ready.ensures [
      | inl served ↦ inl (
          let here : IsServedRun g.D.Disk g.G.Signer.state g.O.Outlet g.S.Source g.K.Sink g.C.Clock (named_in g.D.Disk g.O.Outlet instance opened.desks.items opened.board) opened.board.shown before run =
          subst (λ (o : O). IsServedRun g.D.Disk g.G.Signer.state g.O.Outlet g.S.Source g.K.Sink g.C.Clock (named_of g.D.Disk g.O.Outlet opened.desks.items (stored_in instance) opened.board o) opened.board.shown before run) outlet
          (subst (λ (s : StoredValue D). IsServedRun g.D.Disk g.G.Signer.state g.O.Outlet g.S.Source g.K.Sink g.C.Clock (named_of g.D.Disk g.O.Outlet opened.desks.items s opened.board opened.outlet) opened.board.shown before run) press served) in
          serves_all g.D.Disk g.G.Signer.state g.O.Outlet g.S.Source g.K.Sink g.C.Clock laws c.more_commands_stay_published.ensures c.sessions_make_what_is_accepted.ensures bases random ends before run c.args.started started
          opened.desks.items desks opened.board shown here)
      | inr unserved ↦ inr (serves_none g.D.Disk g.G.Signer.state g.O.Outlet g.S.Source g.K.Sink g.C.Clock c.laws_of_runs.ensures bases random ends before run c.args.started started
          (record {
            handed_back = record {
              desks = subst (λ (l : List (View D)). AreClosed g.D.Disk l run.ends.desks.items) (desks_of instance.desks opened.desks.items desks) unserved.closed;
              press = unserved.press ∙ ap (λ (s : StoredValue D). s.journal.disk) press;
              safe = subst (λ (s : StoredValue D). IsSafe g.D.Disk s.journal) press unserved.safe;
              signers = unserved.signers ∙ ap (λ (s : StoredValue D). s.press.ring) press;
              outlet = unserved.outlet_is ∙ outlet;
            };
            sessions = unserved.untouched;
            kept = unserved.kept;
            status = unserved.status ∙ ap run_status unserved.fault;
            fault = unserved.fault;
          }))
    ]

pub returns-in-Err : goal.returns-in-Err
returns-in-Err g c bases random ends started =
    let D : Type 0 = g.row.D.Denot in
    let instance = c.args.started.instance in
    let parts = c.into_parts-desks.ensures in
    let was = c.in-Err.ensures.refused in
    let unserved = c.unserved.ensures in
    let run = c.unserved.result in
    let press = was.1 ∙ parts.press in
    inr (serves_none g.D.Disk g.G.Signer.state g.O.Outlet g.S.Source g.K.Sink g.C.Clock c.laws_of_runs.ensures bases random ends c.args.sessions.items run c.args.started started
    (record {
      handed_back = record {
        desks = subst (λ (l : List (View D)). AreClosed g.D.Disk l run.ends.desks.items) (was.0 ∙ c.into_inner.ensures.desks ∙ parts.desks) unserved.closed;
        press = unserved.press ∙ ap (λ (s : StoredValue D). s.journal.disk) press;
        safe = subst (λ (s : StoredValue D). IsSafe g.D.Disk s.journal) press unserved.safe;
        signers = unserved.signers ∙ ap (λ (s : StoredValue D). s.press.ring) press;
        outlet = unserved.outlet_is ∙ was.2 ∙ parts.outlet;
      };
      sessions = unserved.untouched;
      kept = unserved.kept;
      status = unserved.status ∙ ap run_status unserved.fault;
      fault = unserved.fault;
    }))
