use Rattle.std.proofs.Common.{◌∙◌, ℕ, List, sym, ap, subst}
use Rattle.std.specs.Prelude.{IfSome}
use Rattle.commit_word.specs.Seats.{FollowerSeat}
use Rattle.notice_board.specs.Seats.{BoardSeat}
use Rattle.notice_board.specs.declared.shown.ShownEdition.{ShownEdition}
use Rattle.press_core.specs.Press.{PressValue}
use Rattle.press_core.specs.PrepareInput.{start_of}
use Rattle.press_core.specs.StoredAnswers.{IsPrepareFault, rose_of}
use Rattle.manager.specs.Locked.{LockedValue}
use Rattle.manager.specs.Made.{HasMade, HasMadeNone}
use Rattle.manager.specs.Answers.{IsAnswered, IsShownTo, IsBehind, IsNextShown, nothing_behind, IsFailedBy}
use Rattle.manager.specs.declared.publish_fault.Unmade.TheVariants.{Unprepared}
use Rattle.manager.proofs.Answered.{shown_serial, asks_gathered, asks_accepted, asks_live, asks_names, answered, refused_shown}
use Rattle.manager.proofs.Risen.{press_asked, press_committed, press_doubted}
use Rattle.manager.proofs.Pressed.{Since, since_inside, unready_locked, pressed_locked, pressed_some, pressed_behind, pressed_next, pressed_shown, doubted_locked, doubted_for, doubted_shown}
use Rattle.manager.proofs.locked_press.LockedPress.press.Goals as goal

-- ---- what is asked for

pub make_ready-requires-clause-gathered : goal.make_ready-requires-clause-gathered
make_ready-requires-clause-gathered g c = λ lifetimes lives.
    let inside = c.self.inside in
    let groups = c.args.gathered.items in
    let since : Since g.N.Names.named inside.press inside.followers groups = since_inside g.N.Names.named groups _ _ c.self.view_is c.requires in
    asks_gathered g.O.Outlet g.N.Names.named inside.press inside.followers inside.board inside.outlet c.self.invariant.0 c.args.now groups since

pub make_ready-requires-clause-accepted : goal.make_ready-requires-clause-accepted
make_ready-requires-clause-accepted g c = λ lifetimes lives.
    let inside = c.self.inside in
    let groups = c.args.gathered.items in
    let since : Since g.N.Names.named inside.press inside.followers groups = since_inside g.N.Names.named groups _ _ c.self.view_is c.requires in
    asks_accepted g.O.Outlet g.N.Names.named inside.press inside.followers inside.board inside.outlet c.self.invariant.0 c.args.now groups since

pub make_ready-requires-clause-live_signers : goal.make_ready-requires-clause-live_signers
make_ready-requires-clause-live_signers g c = λ lifetimes lives.
    let inside = c.self.inside in
    let groups = c.args.gathered.items in
    let since : Since g.N.Names.named inside.press inside.followers groups = since_inside g.N.Names.named groups _ _ c.self.view_is c.requires in
    asks_live g.O.Outlet g.N.Names.named inside.press inside.followers inside.board inside.outlet c.self.invariant.0 c.args.now groups since

pub make_ready-requires-clause-name_signers : goal.make_ready-requires-clause-name_signers
make_ready-requires-clause-name_signers g c = λ lifetimes lives.
    let inside = c.self.inside in
    let groups = c.args.gathered.items in
    let since : Since g.N.Names.named inside.press inside.followers groups = since_inside g.N.Names.named groups _ _ c.self.view_is c.requires in
    asks_names g.O.Outlet g.N.Names.named inside.press inside.followers inside.board inside.outlet c.self.invariant.0 c.args.now groups since c.gathered_commands_go_on.ensures.configs

pub make_ready-requires-clause-serial : goal.make_ready-requires-clause-serial
make_ready-requires-clause-serial g c = λ lifetimes lives.
    let inside = c.self.inside in
    let groups = c.args.gathered.items in
    let since : Since g.N.Names.named inside.press inside.followers groups = since_inside g.N.Names.named groups _ _ c.self.view_is c.requires in
    shown_serial g.O.Outlet g.N.Names.named inside.press inside.followers inside.board inside.outlet c.self.invariant.0

-- ---- none was prepared

pub invariant_of-self : goal.invariant_of-self
invariant_of-self g c =
    let inside = c.self.inside in
    let groups = c.args.gathered.items in
    let since : Since g.N.Names.named inside.press inside.followers groups = since_inside g.N.Names.named groups _ _ c.self.view_is c.requires in (
      unready_locked g.O.Outlet g.N.Names.named inside.press inside.followers inside.board inside.outlet c.self.invariant.0 c.args.now groups c.make_ready.new.press c.make_ready.new.board c.in-Err.fault c.in-Err.ensures.same c.in-Err.ensures.refused,
      press_asked g.D.Disk g.O.Outlet g.N.Names.named inside.press.journal c.make_ready.new.press.journal inside.outlet c.self.invariant.1 c.in-Err.ensures.refused.journal,
    )

pub returns-in-Err-clause-nothing : goal.returns-in-Err-clause-nothing
returns-in-Err-clause-nothing g c =
    let inside = c.self.inside in
    let groups = c.args.gathered.items in
    let since : Since g.N.Names.named inside.press inside.followers groups = since_inside g.N.Names.named groups _ _ c.self.view_is c.requires in
    let known : List FollowerSeat = inside.followers in
    subst (λ (l : LockedValue _ _). IfSome (nothing_behind (Unprepared c.in-Err.fault)) (λ (serial : ℕ). IsShownTo serial l.seats c.make_ready.new.board.shown)) c.self.view_is
    (subst (λ (shown : List ShownEdition). IfSome (nothing_behind (Unprepared c.in-Err.fault)) (λ (serial : ℕ). IsShownTo serial known shown)) (sym (ap (λ (b : BoardSeat). b.shown) c.in-Err.ensures.same))
    (refused_shown g.O.Outlet g.N.Names.named inside.press inside.followers inside.board inside.outlet c.self.invariant.0 c.args.now groups since c.make_ready.new.press.press.ring c.in-Err.fault c.in-Err.ensures.refused.cause))

pub returns-in-Err-clause-cause : goal.returns-in-Err-clause-cause
returns-in-Err-clause-cause g c =
    let inside = c.self.inside in
    let groups = c.args.gathered.items in
    let since : Since g.N.Names.named inside.press inside.followers groups = since_inside g.N.Names.named groups _ _ c.self.view_is c.requires in
    subst (λ (l : LockedValue _ _). IsPrepareFault (start_of l.press.press c.args.now groups) c.make_ready.new.press.press.ring l.press.journal c.in-Err.fault) c.self.view_is c.in-Err.ensures.refused.cause

pub returns-in-Err-clause-held : goal.returns-in-Err-clause-held
returns-in-Err-clause-held g c = subst (λ (l : LockedValue _ _). HasMadeNone l.press c.make_ready.new.press) c.self.view_is c.in-Err.ensures.refused.held

-- ---- the disk failed

pub invariant_of-self-in-Err-commit_shown : goal.invariant_of-self-in-Err-commit_shown
invariant_of-self-in-Err-commit_shown g c =
    let inside = c.self.inside in
    let groups = c.args.gathered.items in
    let since : Since g.N.Names.named inside.press inside.followers groups = since_inside g.N.Names.named groups _ _ c.self.view_is c.requires in (
      doubted_locked g.O.Outlet g.N.Names.named inside.press inside.followers inside.board inside.outlet c.self.invariant.0 c.args.now groups c.vouching_signers_vouch_for_editions.ensures since c.make_ready.new.press c.make_ready.new.board c.in-Ok.prepared c.in-Ok.ensures.ready c.in-Ok.ensures.board
          g.D.Disk (rose_of c.in-Err-commit_shown.fault) c.commit_shown.new.press c.commit_shown.new.board c.in-Err-commit_shown.ensures.refused c.commit_shown.ensures.limit c.in-Err-commit_shown.ensures.same,
      press_doubted g.D.Disk g.O.Outlet g.N.Names.named c.make_ready.new.press.journal c.commit_shown.new.press.journal inside.outlet (press_asked g.D.Disk g.O.Outlet g.N.Names.named inside.press.journal c.make_ready.new.press.journal inside.outlet c.self.invariant.1 c.in-Ok.ensures.ready.journal) (rose_of c.in-Err-commit_shown.fault)
          c.in-Err-commit_shown.ensures.refused.before c.in-Err-commit_shown.ensures.refused.after c.in-Err-commit_shown.ensures.refused.risen c.in-Err-commit_shown.ensures.refused.shut,
    )

pub returns-in-Err-commit_shown-clause-same : goal.returns-in-Err-commit_shown-clause-same
returns-in-Err-commit_shown-clause-same g c =
    let inside = c.self.inside in
    let groups = c.args.gathered.items in
    let since : Since g.N.Names.named inside.press inside.followers groups = since_inside g.N.Names.named groups _ _ c.self.view_is c.requires in
    doubted_shown g.O.Outlet g.N.Names.named inside.press inside.followers inside.board inside.outlet c.self.invariant.0 c.args.now groups c.vouching_signers_vouch_for_editions.ensures since c.make_ready.new.press c.make_ready.new.board c.in-Ok.prepared c.in-Ok.ensures.ready c.in-Ok.ensures.board c.commit_shown.new.board c.in-Err-commit_shown.ensures.same
    ∙ ap (λ (l : LockedValue _ _). l.board.shown) c.self.view_is

pub returns-in-Err-commit_shown-clause-cause : goal.returns-in-Err-commit_shown-clause-cause
returns-in-Err-commit_shown-clause-cause g c =
    let inside = c.self.inside in
    let groups = c.args.gathered.items in
    let since : Since g.N.Names.named inside.press inside.followers groups = since_inside g.N.Names.named groups _ _ c.self.view_is c.requires in
    subst (λ (l : LockedValue _ _). IsFailedBy g.D.Disk (rose_of c.in-Err-commit_shown.fault) l.press.journal c.commit_shown.new.press.journal) c.self.view_is
    (doubted_for g.O.Outlet g.N.Names.named inside.press inside.followers inside.board inside.outlet c.self.invariant.0 c.args.now groups c.vouching_signers_vouch_for_editions.ensures since c.make_ready.new.press c.make_ready.new.board c.in-Ok.prepared c.in-Ok.ensures.ready c.in-Ok.ensures.board g.D.Disk (rose_of c.in-Err-commit_shown.fault) c.commit_shown.new.press c.in-Err-commit_shown.ensures.refused)

pub returns-in-Err-commit_shown-clause-held : goal.returns-in-Err-commit_shown-clause-held
returns-in-Err-commit_shown-clause-held g c =
    subst (λ (l : LockedValue _ _). HasMadeNone l.press c.commit_shown.new.press) c.self.view_is
    (subst (λ (p : PressValue). HasMadeNone c.self.inside.press (record { press = p; journal = c.commit_shown.new.press.journal })) (sym c.in-Err-commit_shown.ensures.refused.press) c.in-Ok.ensures.ready.held)

-- ---- one was made

pub invariant_of-self-2 : goal.invariant_of-self-2
invariant_of-self-2 g c =
    let inside = c.self.inside in
    let groups = c.args.gathered.items in
    let since : Since g.N.Names.named inside.press inside.followers groups = since_inside g.N.Names.named groups _ _ c.self.view_is c.requires in (
      pressed_locked g.O.Outlet g.N.Names.named inside.press inside.followers inside.board inside.outlet c.self.invariant.0 c.args.now groups c.vouching_signers_vouch_for_editions.ensures since c.make_ready.new.press c.make_ready.new.board c.in-Ok.prepared c.in-Ok.ensures.ready c.in-Ok.ensures.board
          c.more_editions_stay_shown.ensures.coherent c.more_editions_stay_shown.ensures.shown c.edition_records_go_on.ensures g.D.Disk c.in-Ok-commit_shown.told c.commit_shown.new.press c.commit_shown.new.board c.in-Ok-commit_shown.ensures.committed c.in-Ok-commit_shown.ensures.shown,
      press_committed g.D.Disk g.O.Outlet g.N.Names.named c.make_ready.new.press.journal c.commit_shown.new.press.journal inside.outlet (press_asked g.D.Disk g.O.Outlet g.N.Names.named inside.press.journal c.make_ready.new.press.journal inside.outlet c.self.invariant.1 c.in-Ok.ensures.ready.journal)
          c.in-Ok-commit_shown.ensures.committed.is_open c.in-Ok-commit_shown.ensures.committed.later,
    )

pub returns-clause-some : goal.returns-clause-some
returns-clause-some g c =
    let inside = c.self.inside in
    let groups = c.args.gathered.items in
    let since : Since g.N.Names.named inside.press inside.followers groups = since_inside g.N.Names.named groups _ _ c.self.view_is c.requires in
    pressed_some g.O.Outlet g.N.Names.named inside.press inside.followers inside.board inside.outlet c.self.invariant.0 c.args.now groups c.vouching_signers_vouch_for_editions.ensures since c.make_ready.new.press c.make_ready.new.board c.in-Ok.prepared c.in-Ok.ensures.ready c.in-Ok.ensures.board g.D.Disk c.in-Ok-commit_shown.told c.commit_shown.new.press c.in-Ok-commit_shown.ensures.committed

pub returns-clause-behind : goal.returns-clause-behind
returns-clause-behind g c =
    let inside = c.self.inside in
    let groups = c.args.gathered.items in
    let since : Since g.N.Names.named inside.press inside.followers groups = since_inside g.N.Names.named groups _ _ c.self.view_is c.requires in
    subst (λ (l : LockedValue _ _). IsBehind c.args.now l.press.press.at c.in-Ok-commit_shown.told) c.self.view_is
    (pressed_behind g.O.Outlet g.N.Names.named inside.press inside.followers inside.board inside.outlet c.self.invariant.0 c.args.now groups c.vouching_signers_vouch_for_editions.ensures since c.make_ready.new.press c.make_ready.new.board c.in-Ok.prepared c.in-Ok.ensures.ready c.in-Ok.ensures.board c.in-Ok-commit_shown.told c.in-Ok-commit_shown.ensures.committed.told_is)

pub returns-clause-next : goal.returns-clause-next
returns-clause-next g c =
    let inside = c.self.inside in
    let groups = c.args.gathered.items in
    let since : Since g.N.Names.named inside.press inside.followers groups = since_inside g.N.Names.named groups _ _ c.self.view_is c.requires in
    subst (λ (l : LockedValue _ _). IsNextShown c.args.now l.board.shown c.in-Ok-commit_shown.told c.commit_shown.new.board.shown) c.self.view_is
    (pressed_next g.O.Outlet g.N.Names.named inside.press inside.followers inside.board inside.outlet c.self.invariant.0 c.args.now groups c.vouching_signers_vouch_for_editions.ensures since c.make_ready.new.press c.make_ready.new.board c.in-Ok.prepared c.in-Ok.ensures.ready c.in-Ok.ensures.board c.in-Ok-commit_shown.told c.in-Ok-commit_shown.ensures.committed.told_is c.commit_shown.new.board c.in-Ok-commit_shown.ensures.shown)

pub returns-clause-answered : goal.returns-clause-answered
returns-clause-answered g c =
    let inside = c.self.inside in
    let groups = c.args.gathered.items in
    let since : Since g.N.Names.named inside.press inside.followers groups = since_inside g.N.Names.named groups _ _ c.self.view_is c.requires in
    subst (λ (l : LockedValue _ _). IsAnswered c.in-Ok-commit_shown.told l.seats c.commit_shown.new.board.shown) c.self.view_is
    (answered g.O.Outlet g.N.Names.named inside.press inside.followers inside.board inside.outlet c.self.invariant.0 c.args.now groups since c.make_ready.new.press.press.ring c.in-Ok.prepared.edition c.in-Ok-commit_shown.told c.commit_shown.new.board.shown
    c.in-Ok.ensures.ready.edition c.in-Ok-commit_shown.ensures.committed.told_is
    (pressed_shown g.O.Outlet g.N.Names.named inside.press inside.followers inside.board inside.outlet c.self.invariant.0 c.args.now groups c.vouching_signers_vouch_for_editions.ensures since c.make_ready.new.press c.make_ready.new.board c.in-Ok.prepared c.in-Ok.ensures.ready c.in-Ok.ensures.board c.commit_shown.new.board c.in-Ok-commit_shown.ensures.shown))

pub returns-clause-made : goal.returns-clause-made
returns-clause-made g c =
    subst (λ (l : LockedValue _ _). HasMade (start_of l.press.press c.args.now c.args.gathered.items) l.press c.commit_shown.new.press) c.self.view_is (record {
      made = c.make_ready.new.press.press.ring;
      prepared = c.in-Ok.prepared.edition;
      edition = c.in-Ok.ensures.ready.edition;
      held = c.in-Ok.ensures.ready.held;
      stands = c.in-Ok-commit_shown.ensures.committed.at;
      dropped = c.in-Ok-commit_shown.ensures.committed.dropped;
      ended = c.in-Ok-commit_shown.ensures.committed.ended;
    })
