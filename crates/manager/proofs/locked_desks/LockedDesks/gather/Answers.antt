use Rattle.std.proofs.Common.{◌≡◌, ◌<◌, ◌+◌, [], ◌∷◌, ◌++◌, ℕ, List, length, get_or, refl, sym, subst, ap, ◌∙◌, length-append, arith}
use Rattle.editions.specs.declared.gathered.Gathered.{Gathered}
use Rattle.authority_book.specs.Verdict.{most_authorities}
use Rattle.manager.specs.Locked.{LockedValue}
use Rattle.manager.specs.inner.Gathering.{no_group, IsSinceSeen}
use Rattle.manager.proofs.Knowing.{knows_none, knows_on, rest_on}
use Rattle.manager.proofs.Gathering.{since_more, alike_more, alike_all, gathered_since, seats_on}
use Rattle.manager.proofs.locked_desks.LockedDesks.gather.Goals as goal

pub loop-place-init : goal.loop-place-init
loop-place-init g c = record {
  long = ap length c.in_ok-groups.ensures.items;
  press = refl;
  count = c.desks-count.ensures.followers;
  pass = refl;
  more = knows_none c.args.pass.now.seats;
  since = λ k below. absurd (omega (arith, below));
  alike = λ k below. absurd (omega (arith, below));
}

pub loop-place-preserved : goal.loop-place-preserved
loop-place-preserved g c =
    let so = c.loop-place.invariant in
    let one = c.gather_one.ensures in
    let items : c.push.new.self.items ≡ c.loop-place.groups.items ++ c.in_ok-group.group ∷ [] = c.in_ok-push.ensures.items in
    let cut : List ℕ = c.args.press.now.press.press.at.cut in
    let place = c.loop-place.place in
    let was = c.loop-place.press.seats in
    let now = c.gather_one.new.press.seats in
    let last : IsSinceSeen now cut place c.in_ok-group.group =
    subst (λ (l : LockedValue _ _). IsSinceSeen now l.press.press.at.cut place c.in_ok-group.group) so.press c.in_ok-group.ensures.since in
    record {
      long = ap length items ∙ (length-append c.loop-place.groups.items (c.in_ok-group.group ∷ []) ∙ ap (λ (n : ℕ). n + 1) so.long);
      press = seats_on c.args.press.now c.loop-place.press c.gather_one.new.press so.press one.press;
      count = one.count ∙ so.count;
      pass = rest_on c.args.pass.now c.loop-place.pass c.gather_one.new.pass so.pass one.pass;
      more = knows_on c.args.pass.now.seats c.loop-place.pass.seats c.gather_one.new.pass.seats so.more one.more;
      since = subst (λ (l : List Gathered). (k : ℕ) → k < place + 1 → IsSinceSeen now cut k (get_or l k no_group)) (sym items)
          (since_more was now cut c.loop-place.groups.items place c.in_ok-group.group so.long so.since one.others last);
      alike = alike_more was c.loop-place.pass.seats now c.gather_one.new.pass.seats place so.alike one.others one.apart one.alike;
    }

pub returns-clause-alike : goal.returns-clause-alike
returns-clause-alike g c =
    let so = c.loop-place.invariant in
    alike_all c.loop-place.press.seats c.loop-place.pass.seats most_authorities so.count (so.more.count ∙ c.desks.ensures.all)
    (λ k below. so.alike k (omega (arith, below, c.loop-place-test.false, c.loop-place.auto.place-end, c.desks-count.ensures.count)))

pub returns-clause-since : goal.returns-clause-since
returns-clause-since g c =
    let so = c.loop-place.invariant in
    gathered_since (length g.N.Names.named.signers) c.loop-place.press.seats c.args.press.now.press.press.at.cut c.loop-place.groups.items
    (omega (arith, so.long, so.count, c.loop-place-test.false, c.loop-place.auto.place-end, c.desks-count.ensures.count))
    (c.desks-count.ensures.cut ∙ sym so.count)
    (λ k below. so.since k (omega (arith, below, so.long)))

-- ---- memory ran out

pub returns-in_err-group-clause-more : goal.returns-in_err-group-clause-more
returns-in_err-group-clause-more g c = knows_on c.args.pass.now.seats c.loop-place.pass.seats c.gather_one.new.pass.seats c.loop-place.invariant.more c.gather_one.ensures.more

pub returns-in_err-push-clause-more : goal.returns-in_err-push-clause-more
returns-in_err-push-clause-more g c = knows_on c.args.pass.now.seats c.loop-place.pass.seats c.gather_one.new.pass.seats c.loop-place.invariant.more c.gather_one.ensures.more
