use Rattle.std.proofs.Common.{◌≡◌, ◌∙◌, ◌≤◌, ℕ, suc, List, [], ◌∷◌, length, map, sym, ap, refl, subst, inl, inr, arith, rules}
use Rattle.std.specs.Prelude.{◌⊎◌, Vec, vec_len, vec_capacity}
use Rattle.std.proofs.lemmas.List.{length-map}
use Rattle.std.specs.declared.alloc.Global.{Global}
use Rattle.disk_api.specs.declared.disk.Disk.{Ghosts as DiskGhosts}
use Rattle.line_loop.specs.declared.traits.Source.{Ghosts as SourceGhosts}
use Rattle.line_loop.specs.declared.traits.Sink.{Ghosts as SinkGhosts}
use Rattle.line_loop.specs.declared.traits.Clock.{Ghosts as ClockGhosts}
use Rattle.desk_core.specs.View.{View}
use Rattle.desk_core.specs.Counted.{CountedView}
use Rattle.gate_journal.specs.View.{IsSafe}
use Rattle.press_core.specs.Stored.{StoredValue}
use Rattle.manager.specs.Passes.{PassValue}
use Rattle.manager.specs.Ready.{desk_in, named_of}
use Rattle.session_lines.specs.Runs.{AllServed, AreServedWith, IsRun, NoneServed}
use Rattle.session_lines.specs.declared.running.SessionEnds.{SessionEnds}
use Rattle.session_lines.specs.declared.running.SessionOutcome.{SessionOutcome}
use Rattle.krill_top.specs.DeskStates.{most_desks}
use Rattle.krill_top.specs.Statuses.{export_fault, graver}
use Rattle.krill_top.specs.inner.Opened.{AreClosed}
use Rattle.krill_top.specs.inner.Shared.{worst_of}
use Rattle.krill_top.proofs.sharing.serve_ready.Goals as goal

-- the sessions' ends are as many as they were
module _ {D O S K C : Type 0} (disk_of : DiskGhosts D) (signers : ℕ) (source_of : SourceGhosts S) (sink_of : SinkGhosts K) (clock_of : ClockGhosts C) where
  as_many_ends : (given left : List PassValue) (olds news : List (SessionEnds S K C)) (outcomes : List (SessionOutcome D O)) → AreServedWith disk_of signers source_of sink_of clock_of given left olds news outcomes
      → length news ≡ length olds
  as_many_ends [] [] [] [] [] are = refl
  as_many_ends (given ∷ more) (left ∷ others) (old ∷ olds) (new ∷ news) (outcome ∷ outcomes) are = ap suc (as_many_ends more others olds news outcomes are.1)
  as_many_ends [] [] [] [] (outcome ∷ outcomes) are = absurd are
  as_many_ends [] [] [] (new ∷ news) outcomes are = absurd are
  as_many_ends [] [] (old ∷ olds) news outcomes are = absurd are
  as_many_ends [] (left ∷ others) olds news outcomes are = absurd are
  as_many_ends (given ∷ more) [] olds news outcomes are = absurd are
  as_many_ends (given ∷ more) (left ∷ others) [] news outcomes are = absurd are
  as_many_ends (given ∷ more) (left ∷ others) (old ∷ olds) [] outcomes are = absurd are
  as_many_ends (given ∷ more) (left ∷ others) (old ∷ olds) (new ∷ news) [] are = absurd are

  as_many_there : (first : PassValue) (left : List PassValue) (olds news : List (SessionEnds S K C)) (outcomes : List (SessionOutcome D O))
      → AllServed disk_of signers source_of sink_of clock_of first left olds news outcomes ⊎ NoneServed left olds news outcomes → length news ≡ length olds
  as_many_there first left olds news outcomes (inl all) = as_many_ends all.given left olds news outcomes all.served
  as_many_there first left olds news outcomes (inr none) = ap length none.same

as_long : {X Z : Type 0} (v : Vec X Z) → vec_len v ≡ length v.items
as_long v = search rules

pub serve_store-served-requires-clause-desks : goal.serve_store-served-requires-clause-desks
serve_store-served-requires-clause-desks g c = λ lifetimes lives.
    let can = c.ready_stores_can_start.ensures.start c.args.ready.opened.desks.items c.args.ready.opened.press c.args.ready.opened.board c.args.ready.opened.outlet c.requires.ready.is in
    (can.count, can.desks)

pub serve_store-served-requires-clause-press : goal.serve_store-served-requires-clause-press
serve_store-served-requires-clause-press g c = λ lifetimes lives.
    (c.ready_stores_can_start.ensures.start c.args.ready.opened.desks.items c.args.ready.opened.press c.args.ready.opened.board c.args.ready.opened.outlet c.requires.ready.is).press

pub serve_store-served-requires-clause-desk_faults : goal.serve_store-served-requires-clause-desk_faults
serve_store-served-requires-clause-desk_faults g c = λ lifetimes lives.
    (c.ready_stores_can_start.ensures.start c.args.ready.opened.desks.items c.args.ready.opened.press c.args.ready.opened.board c.args.ready.opened.outlet c.requires.ready.is).desk_faults

pub serve_store-served-requires-clause-press_faults : goal.serve_store-served-requires-clause-press_faults
serve_store-served-requires-clause-press_faults g c = λ lifetimes lives.
    (c.ready_stores_can_start.ensures.start c.args.ready.opened.desks.items c.args.ready.opened.press c.args.ready.opened.board c.args.ready.opened.outlet c.requires.ready.is).press_faults

pub close_served-requires-clause-room : goal.close_served-requires-clause-room
close_served-requires-clause-room g c =
    let is = c.in-Ok.ensures.run in
    let long : length c.serve_store-served.new.into.items ≡ most_desks = is.shared.count ∙ is.is_first.count in
    omega (arith, long, as_long c.serve_store-served.new.into, c.requires.room)

pub into_parts-requires : goal.into_parts-requires
into_parts-requires g c =
    let can = c.ready_stores_can_start.ensures.start c.args.ready.opened.desks.items c.args.ready.opened.press c.args.ready.opened.board c.args.ready.opened.outlet c.requires.ready.is in
    let was = c.in-Err.ensures in
    let same : c.serve_store-served.new.into ≡ c.args.ready.room = was.unserved.1 in
    let Desks : Type 0 = Vec (View g.row.D.Denot) Global in
    let room : vec_capacity c.serve_store-served.new.into ≡ vec_capacity c.args.ready.room = ap (λ (v : Desks). vec_capacity v) same in
    record { room = (ap (λ (v : Desks). v.items) same ∙ c.requires.ready.empty, omega (arith, ap length was.desks, can.count, room, c.requires.ready.room)) }

pub unserved-requires-clause-room : goal.unserved-requires-clause-room
unserved-requires-clause-room g c =
    let can = c.ready_stores_can_start.ensures.start c.args.ready.opened.desks.items c.args.ready.opened.press c.args.ready.opened.board c.args.ready.opened.outlet c.requires.ready.is in
    let desks = c.into_parts.ensures.desks ∙ ap (map desk_in) c.in-Err.ensures.desks in
    let long : length c.into_parts.result.desks.items ≡ most_desks = ap length desks ∙ length-map c.args.ready.opened.desks.items desk_in ∙ can.count in
    omega (arith, long, as_long c.into_parts.result.desks, c.requires.room)

pub returns-in-Ok : goal.returns-in-Ok
returns-in-Ok g c =
    let Session : Type 0 = SessionEnds g.row.S.Denot g.row.K.Denot g.row.C.Denot in
    let D : Type 0 = g.row.D.Denot in
    let O : Type 0 = g.row.O.Denot in
    let opened = c.args.ready.opened in
    let named = named_of g.D.Disk g.O.Outlet opened.desks.items opened.press opened.board opened.outlet in
    let before = c.args.sessions.items in
    let after = c.serve_store-served.new.sessions.items in
    let served = c.in-Ok.served in
    let is = c.in-Ok.ensures.run in
    let closed = c.close_served.ensures in
    let many : length after ≡ length before =
    as_many_there {D = D} {O = O} g.D.Disk (length named.signers) g.S.Source g.K.Sink g.C.Clock is.first is.left before after served.outcomes.items is.sessions in
    inl (record {
      served = served;
      desks = c.serve_store-served.new.into.items;
      is = subst (λ (list : List Session). IsRun g.D.Disk g.O.Outlet g.S.Source g.K.Sink g.C.Clock named opened.board.shown before list c.serve_store-served.new.into.items served) (sym closed.sessions) is;
      closed = closed.desks;
      press = closed.press;
      signers = closed.signers;
      outlet = closed.outlet;
      kept = closed.kept;
      fault = closed.fault ∙ ap (λ (n : ℕ). graver (worst_of n served.outcomes.items) (export_fault served.store.repeated)) many;
      status = closed.status;
    })

pub returns-in-Err : goal.returns-in-Err
returns-in-Err g c =
    let Session : Type 0 = SessionEnds g.row.S.Denot g.row.K.Denot g.row.C.Denot in
    let D : Type 0 = g.row.D.Denot in
    let run = c.unserved.result in
    let was = c.in-Err.ensures in
    let parts = c.into_parts.ensures in
    let unserved = c.unserved.ensures in
    let desks = parts.desks ∙ ap (λ (l : List (CountedView D)). map desk_in l) was.desks in
    let press = parts.press ∙ was.rest.0 in
    inr (record {
      closed = subst (λ (l : List (View D)). AreClosed g.D.Disk l run.ends.desks.items) desks unserved.closed;
      press = unserved.press ∙ ap (λ (s : StoredValue D). s.journal.disk) press;
      safe = subst (λ (s : StoredValue D). IsSafe g.D.Disk s.journal) press unserved.safe;
      signers = unserved.signers ∙ ap (λ (s : StoredValue D). s.press.ring) press;
      outlet_is = unserved.outlet_is ∙ parts.outlet ∙ was.rest.2;
      untouched = unserved.untouched ∙ ap (λ (v : Vec Session Global). v.items) was.unserved.0;
      kept = unserved.kept;
      fault = unserved.fault;
      status = unserved.status;
    })
