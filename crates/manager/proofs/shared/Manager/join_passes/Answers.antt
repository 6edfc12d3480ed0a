use Rattle.std.proofs.Common.{◌≡◌, ◌∙◌, ◌∷◌, ℕ, length, sym, ap, subst, arith}
use Rattle.std.proofs.lemmas.List.{take_all, length_push}
use Rattle.manager.proofs.Seating.{popped}
use Rattle.manager.proofs.Sharing.{JoinedBehind, joined_none, joined_popped, joined_of_all}
use Rattle.manager.proofs.shared.Manager.join_passes.Goals as goal

pub loop-init : goal.loop-init
loop-init g c = record {
  long = omega arith;
  front = sym (take_all (length c.args.others.items) c.args.others.items (omega arith));
  joined = joined_none c.args.pass.now c.args.others.items;
}

pub loop-preserved : goal.loop-preserved
loop-preserved g c =
    let so = c.loop.invariant in
    let new = c.pop.new.self.items in
    let other = c.in-Some.other in
    let less = ap length c.in-Some.ensures.items ∙ length_push new other in record {
      long = omega (arith, less, so.long);
      front = (popped c.args.others.items c.loop.others.items new other so.front c.in-Some.ensures.items).0;
      joined = joined_popped c.joined_has_both.ensures.both c.args.pass.now c.args.others.items c.loop.others.items new other c.loop.pass c.join_pass.new.pass
          so.front c.in-Some.ensures.items so.joined c.join_pass.ensures;
    }

pub returns : goal.returns
returns g c =
    let so = c.loop.invariant in
    let none : length c.loop.others.items ≡ 0 = omega (arith, so.long, c.loop-test.false, c.loop.auto.counter-end, c.args.others.ok.0) in
    joined_of_all (c.args.pass.now ∷ c.args.others.items) c.loop.pass
    (subst (λ (n : ℕ). JoinedBehind n (c.args.pass.now ∷ c.args.others.items) c.loop.pass) none so.joined)
