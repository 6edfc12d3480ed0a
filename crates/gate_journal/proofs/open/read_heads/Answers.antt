use Rattle.std.proofs.Common.{◌≡◌, Err, Some, Result, Option, ℕ, IfErr, IfSome, sym, subst, refl, arith, rules, List, ◌-◌, drop}
use Rattle.gate_journal.specs.Format.{damaged_at}
use Rattle.gate_journal.specs.inner.Reading.{IsHead, StandsAt, IsWindow}
use Rattle.gate_journal.proofs.Windows.{empty_window}
use Rattle.gate_journal.specs.declared.open.Head.{Head}
use Rattle.gate_journal.specs.declared.open.Head.TheVariants.{Closed, Record}
use Rattle.gate_journal.specs.declared.open.Layout.{Layout}
use Rattle.gate_journal.specs.declared.fault.JournalFault.{JournalFault}
use Rattle.gate_journal.specs.declared.fault.JournalFault.TheVariants.{Damaged}
use Rattle.disk_api.specs.laws.RunLaws.{rests_started, rests_far}
use Rattle.gate_journal.proofs.Opened.{read_none_known, read_more_known, read_all_known, closed_only}
use Rattle.gate_journal.proofs.Damage.{damaged_known}
use Rattle.gate_journal.proofs.Sizes.{none_in_turn, more_in_turn, all_measured}
use Rattle.gate_journal.proofs.open.read_heads.Goals as goal

pub loop-places-init : goal.loop-places-init
loop-places-init g c = record {
  above = omega arith;
  within = omega (arith, c.requires.long);
  turn = none_in_turn c.new-places.result.items c.new-places.ensures.items;
  window = empty_window (g.D.Disk.content c.args.disk.now) c.empty-window.result.start c.empty-window.result.bytes.items c.empty-window.ensures;
  known = read_none_known (g.D.Disk.content c.args.disk.now) c.args.limit c.args.len c.new-places.result.items c.new-places.ensures.items c.requires.long c.requires.known;
  rests = rests_started g.D.Disk c.args.disk.now g.met.D.Disk.only_now;
  later = omega arith;
}

pub loop-places-preserved : goal.loop-places-preserved
loop-places-preserved g c =
    let so_far = c.loop-places.invariant in
    let content = g.D.Disk.content c.args.disk.now in
    let same : g.D.Disk.content c.loop-places.disk ≡ content = so_far.rests.content_stays in
    let at = c.loop-places.at in
    let size = c.in-Record.size in
    let head : IsHead (c.args.len - at) c.args.limit (Record size) = subst (λ (h : Head). IsHead (c.args.len - at) c.args.limit h) c.in-Record.is c.in_ok-size.ensures.head in
    let stands : IfSome content (λ bytes. StandsAt (drop at bytes) (Record size)) =
    subst (λ (o : Option (List ℕ)). IfSome o (λ bytes. StandsAt (drop at bytes) (Record size))) same (subst (λ (h : Head). IfSome (g.D.Disk.content c.loop-places.disk) (λ bytes. StandsAt (drop at bytes) h)) c.in-Record.is c.in_ok-size.ensures.stands) in
    record {
      above = omega (arith, so_far.above);
      within = omega (arith, so_far.within, head.0);
      turn = more_in_turn at _ c.loop-places.places.items c.push.new.self.items _ so_far.turn c.in_ok-push.ensures.items refl refl;
      window = subst (λ (o : Option (List ℕ)). IfSome o (IsWindow c.read_head.new.window.start c.read_head.new.window.bytes.items)) same c.in_ok-size.ensures.window;
      known = read_more_known content c.args.limit c.args.len at size c.loop-places.places.items c.push.new.self.items _ so_far.known stands c.requires.known (omega (arith, so_far.within, head.0)) head.1 (omega (arith, head.1, c.ranges.limit.fits)) refl c.in_ok-push.ensures.items;
      rests = rests_far g.D.Disk c.args.disk.now c.loop-places.disk c.read_head.new.disk so_far.rests c.in_ok-size.ensures.rests;
      later = omega (arith, so_far.later, c.in_ok-size.ensures.later);
    }

pub returns-clause-measured : goal.returns-clause-measured
returns-clause-measured g c = all_measured c.loop-places.at c.loop-places.places.items c.loop-places.invariant.turn

pub returns-clause-found : goal.returns-clause-found
returns-clause-found g c =
    let so_far = c.loop-places.invariant in
    let at = c.loop-places.at in
    read_all_known (g.D.Disk.content c.args.disk.now) c.args.limit at c.loop-places.places.items so_far.known
    (subst (λ (o : Option (List ℕ)). IfSome o (λ bytes. StandsAt (drop at bytes) Closed)) so_far.rests.content_stays (closed_only (g.D.Disk.content c.loop-places.disk) at c.in_ok-size.field-0 c.in_ok-size.ensures.stands c.in_default.not-Record))

pub returns-in_err-size-clause-harmed : goal.returns-in_err-size-clause-harmed
returns-in_err-size-clause-harmed g c =
    let so_far = c.loop-places.invariant in
    let fault = c.in_err-size.field-0.0 in
    let is : c.from_residual.result ≡ Err fault = search rules in
    subst (λ (r : Result Layout JournalFault). IfErr r (λ f. (a : ℕ) → f ≡ Damaged a → IfSome (g.D.Disk.content c.args.disk.now) (λ bytes. damaged_at c.args.limit bytes ≡ Some a))) (sym is)
    (λ a eq. damaged_known (g.D.Disk.content c.args.disk.now) (g.D.Disk.content c.loop-places.disk) c.args.limit c.args.len c.loop-places.at a c.loop-places.places.items so_far.rests.content_stays so_far.known c.requires.known c.requires.long
    (c.in_err-size.ensures.harmed a eq))
