use Rattle.std.proofs.Common.{◌≤◌, ◌-◌, ℕ, List, length, sym, vec_capacity, ap, subst, cond}
use Rattle.std.specs.Prelude.{nat_lt}
use Rattle.gate_journal.specs.inner.Kept.{IsGuarded}
use Rattle.gate_journal.specs.View.{View}
use Rattle.gate_journal.proofs.Keeping.{kept_places, more_room}
use Rattle.gate_journal.proofs.journal.Journal.reserve_place.Goals as goal

pub invariant_of-self : goal.invariant_of-self
invariant_of-self g c =
    let j = c.self.inside in
    (kept_places (g.D.Disk.content j.disk) (g.D.Disk.may_leave j.disk) j.count j.held j.places.items c.add_place.new.places.items j.shut c.self.invariant.0 c.add_place.ensures.counted c.add_place.ensures.same, c.self.invariant.1)

pub returns-clause-room : goal.returns-clause-room
returns-clause-room g c =
    let j = c.self.inside in
    let after = cond (nat_lt j.count (length c.add_place.new.places.items)) (vec_capacity j.buffer - 8) 0 in
    subst (λ (n : ℕ). n ≤ after) (ap (λ (v : View _). v.room) c.self.view_is) (more_room j.count (length j.places.items) (length c.add_place.new.places.items) (vec_capacity j.buffer - 8) c.add_place.ensures.more)
