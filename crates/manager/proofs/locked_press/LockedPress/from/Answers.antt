use Rattle.std.proofs.Common.{◌<◌, ℕ, List, length, get_or, sym, ap, subst, arith}
use Rattle.commit_word.specs.Seats.{FollowerSeat}
use Rattle.press_core.specs.Press.{PressValue}
use Rattle.manager.specs.Lists.{seat_at}
use Rattle.manager.specs.Locked.{LockedValue}
use Rattle.manager.proofs.Learned.{cut_within, cut_held}
use Rattle.manager.proofs.locked_press.LockedPress.from.Goals as goal

pub bounds-cut-place : goal.bounds-cut-place
bounds-cut-place g c =
    let inside = c.self.inside in
    let within : c.args.place < length {A = FollowerSeat} inside.followers = subst (λ (l : LockedValue _ _). c.args.place < length l.seats) (sym c.self.view_is) c.requires in
    let below = cut_within g.O.Outlet g.N.Names.named inside.press inside.followers inside.board inside.outlet c.args.place within c.self.invariant.0 in
    let cut = ap length c.cut.ensures in
    let press = ap (λ (p : PressValue). length p.at.cut) c.press.ensures.press in
    omega (arith, below, cut, press)

pub offset_bounds-cut-place : goal.offset_bounds-cut-place
offset_bounds-cut-place g c =
    let inside = c.self.inside in
    let within : c.args.place < length {A = FollowerSeat} inside.followers = subst (λ (l : LockedValue _ _). c.args.place < length l.seats) (sym c.self.view_is) c.requires in
    let below = cut_within g.O.Outlet g.N.Names.named inside.press inside.followers inside.board inside.outlet c.args.place within c.self.invariant.0 in
    let cut = ap length c.cut.ensures in
    let press = ap (λ (p : PressValue). length p.at.cut) c.press.ensures.press in
    omega (arith, below, cut, press, c.cut.type_inv)

pub returns-clause-held : goal.returns-clause-held
returns-clause-held g c =
    let inside = c.self.inside in
    let place = c.args.place in
    let within : place < length {A = FollowerSeat} inside.followers = subst (λ (l : LockedValue _ _). place < length l.seats) (sym c.self.view_is) c.requires in
    let held = cut_held g.O.Outlet g.N.Names.named inside.press inside.followers inside.board inside.outlet place within c.self.invariant.0 in
    let cut = ap (λ (l : List ℕ). get_or l place 0) c.cut.ensures in
    let press = ap (λ (p : PressValue). get_or p.at.cut place 0) c.press.ensures.press in
    let same = ap (λ (l : LockedValue _ _). length (seat_at l.seats place).seen) c.self.view_is in
    omega (arith, held, cut, press, same)
