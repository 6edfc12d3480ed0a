-- The instance in a state, and what a call makes of it.
use Rattle.std.proofs.Common.{refl, ◌∙◌}
use Rattle.disk_api.specs.declared.disk.Disk.{Ghosts as DiskGhosts}
use Rattle.outlet_api.specs.declared.outlet.Outlet.{Ghosts as OutletGhosts}
use Rattle.krill_top.specs.InstanceState.{InstanceState, TimedInstanceState, at_clock}
use Rattle.krill_top.specs.inner.Instances.{InstanceValue, TimedInstance, IsInState, Arrives, Moves, MovesTimed}
use Rattle.krill_top.proofs.Standing.{go_on_same, go_on_then}
use Rattle.krill_top.proofs.PressStanding.{press_kept, press_then, grow_same, grow_then}
use Rattle.krill_top.proofs.Vouching.{keeps_same, keeps_then, vouch_same, vouch_then}

module _ {D O : Type 0} (disk_of : DiskGhosts D) (outlet_of : OutletGhosts O) where
  -- nothing changes
  pub arrive_here : (P : InstanceState → InstanceState → Type 0) (instance : InstanceValue D O) (before : InstanceState) → P before before → IsInState outlet_of instance before
      → Arrives disk_of outlet_of P instance instance before
  arrive_here P instance before step stands = record {
    after = before;
    same_site = refl;
    same_session = refl;
    same_found = refl;
    step = step;
    stands = stands;
    disks = go_on_same disk_of instance.desks before.desk_states stands.desks;
    press = press_kept disk_of instance.journal.disk before before refl;
    grown = grow_same before before refl;
    kept = keeps_same before.signers;
    vouch = vouch_same before;
    coherent = λ is. is;
  }

  pub stay_in : (P : InstanceState → InstanceState → Type 0) (instance : InstanceValue D O) → ((before : InstanceState) → IsInState outlet_of instance before → P before before)
      → Moves disk_of outlet_of P instance instance
  stay_in P instance so before stands = arrive_here P instance before (so before stands) stands

  pub arrives_so : (P Q : InstanceState → InstanceState → Type 0) (old new : InstanceValue D O) (before : InstanceState) → Arrives disk_of outlet_of P old new before
      → ((after : InstanceState) → P before after → Q before after) → Arrives disk_of outlet_of Q old new before
  arrives_so P Q old new before is so = record {
    after = is.after;
    same_site = is.same_site;
    same_session = is.same_session;
    same_found = is.same_found;
    step = so is.after is.step;
    stands = is.stands;
    disks = is.disks;
    press = is.press;
    grown = is.grown;
    kept = is.kept;
    vouch = is.vouch;
    coherent = is.coherent;
  }

  -- one call after another
  unfoldable pub arrives_then : (P Q R : InstanceState → InstanceState → Type 0) (old mid new : InstanceValue D O) (before : InstanceState) (first : Arrives disk_of outlet_of P old mid before) → Arrives disk_of outlet_of Q mid new first.after
      → ((after : InstanceState) → Q first.after after → R before after) → Arrives disk_of outlet_of R old new before
  arrives_then P Q R old mid new before first rest so = record {
    after = rest.after;
    same_site = rest.same_site ∙ first.same_site;
    same_session = rest.same_session ∙ first.same_session;
    same_found = rest.same_found ∙ first.same_found;
    step = so rest.after rest.step;
    stands = rest.stands;
    disks = go_on_then disk_of old.desks mid.desks new.desks before.desk_states first.after.desk_states rest.after.desk_states first.disks rest.disks;
    press = press_then disk_of old.journal.disk mid.journal.disk new.journal.disk before first.after rest.after first.press rest.press;
    grown = grow_then before first.after rest.after first.grown rest.grown;
    kept = keeps_then before.signers first.after.signers rest.after.signers first.kept rest.kept;
    vouch = vouch_then before first.after rest.after first.kept rest.kept first.vouch rest.vouch;
    coherent = λ is. rest.coherent (first.coherent is);
  }

  pub moves_then : (P Q R : InstanceState → InstanceState → Type 0) (old mid new : InstanceValue D O) → Moves disk_of outlet_of P old mid → Moves disk_of outlet_of Q mid new
      → ((before between after : InstanceState) → IsInState outlet_of mid between → P before between → Q between after → R before after) → Moves disk_of outlet_of R old new
  moves_then P Q R old mid new first rest so before stands =
      let done = first before stands in
      arrives_then P Q R old mid new before done (rest done.after done.stands) (λ after step. so before done.after after done.stands done.step step)

  -- what is known of the instance before the call says more of it
  pub moves_in : (P Q : InstanceState → InstanceState → Type 0) (old new : InstanceValue D O) → Moves disk_of outlet_of P old new
      → ((before after : InstanceState) → IsInState outlet_of old before → P before after → Q before after) → Moves disk_of outlet_of Q old new
  moves_in P Q old new moves so before stands = arrives_so P Q old new before (moves before stands) (λ after step. so before after stands step)

  pub moves_so : (P Q : InstanceState → InstanceState → Type 0) (old new : InstanceValue D O) → Moves disk_of outlet_of P old new
      → ((before after : InstanceState) → P before after → Q before after) → Moves disk_of outlet_of Q old new
  moves_so P Q old new moves so before stands = arrives_so P Q old new before (moves before stands) (so before)

  -- ---- with the clock

  -- nothing changes, and the clock isn't read
  pub stay_timed : (P : TimedInstanceState → TimedInstanceState → Type 0) (timed : TimedInstance D O)
      → ((before : InstanceState) → IsInState outlet_of timed.instance before → P (at_clock timed.clock timed.kept before) (at_clock timed.clock timed.kept before)) → MovesTimed disk_of outlet_of P timed timed
  stay_timed P timed so = stay_in (λ b a. P (at_clock timed.clock timed.kept b) (at_clock timed.clock timed.kept a)) timed.instance so

  -- a call of the instance, and what the clock tells before it and then
  pub moves_at : (P : InstanceState → InstanceState → Type 0) (Q : TimedInstanceState → TimedInstanceState → Type 0) (old new : TimedInstance D O) → Moves disk_of outlet_of P old.instance new.instance
      → ((before after : InstanceState) → P before after → Q (at_clock old.clock old.kept before) (at_clock new.clock new.kept after)) → MovesTimed disk_of outlet_of Q old new
  moves_at P Q old new moves so = moves_so P (λ b a. Q (at_clock old.clock old.kept b) (at_clock new.clock new.kept a)) old.instance new.instance moves so

  pub timed_so : (P Q : TimedInstanceState → TimedInstanceState → Type 0) (old new : TimedInstance D O) → MovesTimed disk_of outlet_of P old new
      → ((before after : TimedInstanceState) → P before after → Q before after) → MovesTimed disk_of outlet_of Q old new
  timed_so P Q old new moves so =
      moves_at (λ b a. P (at_clock old.clock old.kept b) (at_clock new.clock new.kept a)) Q old new moves (λ before after. so (at_clock old.clock old.kept before) (at_clock new.clock new.kept after))
