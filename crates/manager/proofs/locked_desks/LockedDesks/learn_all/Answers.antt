use Rattle.std.proofs.Common.{refl, ◌∙◌, arith}
use Rattle.authority_book.specs.Verdict.{most_authorities}
use Rattle.manager.proofs.Knowing.{knows_none, knows_on, rest_on}
use Rattle.manager.proofs.Gathering.{alike_more, alike_all, seats_on}
use Rattle.manager.proofs.locked_desks.LockedDesks.learn_all.Goals as goal

pub loop-place-init : goal.loop-place-init
loop-place-init g c = record {
  press = refl;
  count = c.desks-place-end.ensures.followers;
  pass = refl;
  more = knows_none c.args.pass.now.seats;
  alike = λ k below. absurd (omega (arith, below));
}

pub loop-place-preserved : goal.loop-place-preserved
loop-place-preserved g c =
    let so = c.loop-place.invariant in
    let one = c.learn_one.ensures in record {
      press = seats_on c.args.press.now c.loop-place.press c.learn_one.new.press so.press one.press;
      count = one.count ∙ so.count;
      pass = rest_on c.args.pass.now c.loop-place.pass c.learn_one.new.pass so.pass one.pass;
      more = knows_on c.args.pass.now.seats c.loop-place.pass.seats c.learn_one.new.pass.seats so.more one.more;
      alike = alike_more c.loop-place.press.seats c.loop-place.pass.seats c.learn_one.new.press.seats c.learn_one.new.pass.seats c.loop-place.place so.alike one.others one.apart one.alike;
    }

pub returns-clause-alike : goal.returns-clause-alike
returns-clause-alike g c =
    let so = c.loop-place.invariant in
    alike_all c.loop-place.press.seats c.loop-place.pass.seats most_authorities so.count (so.more.count ∙ c.desks.ensures.all)
    (λ k below. so.alike k (omega (arith, below, c.loop-place-test.false, c.loop-place.auto.place-end, c.desks-place-end.ensures.count)))
