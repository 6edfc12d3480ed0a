use Rattle.std.proofs.Common.{◌≡◌, ap, ◌∙◌, sym, subst, arith}
use mathlib.Core.List.{IsPrefix}
use Rattle.commit_word.specs.Entries.{Has}
use Rattle.commit_word.specs.Seats.{FollowerSeat, OwnerSeat}
use Rattle.desk_core.proofs.Words.{prefix_trans, prefix_length, same_owner}
use Rattle.desk_core.proofs.counting.tell_whole.Goals as goal

pub hear-requires-clause-begins : goal.hear-requires-clause-begins
hear-requires-clause-begins c =
    let owner : c.join.new.self ≡ c.args.owner.now = same_owner c.args.owner.now c.join.new.self c.in-Ok.note (ap (λ (f : FollowerSeat). f.mine) c.in-Ok.ensures.given) c.join.ensures.both in
    let begun : IsPrefix c.load.new.self.seen c.args.owner.now.seen = subst (λ (f : FollowerSeat). IsPrefix f.seen c.args.owner.now.seen) c.in-Ok.ensures.given c.join.ensures.begins in
    subst (λ (f : FollowerSeat). IsPrefix f.seen c.join.new.self.seen) (sym c.split.ensures.same)
    (subst (λ (o : OwnerSeat). IsPrefix c.load.new.self.seen o.seen) (sym owner) begun)

pub returns-clause-same : goal.returns-clause-same
returns-clause-same c = c.hear.ensures.same ∙ same_owner c.args.owner.now c.join.new.self c.in-Ok.note (ap (λ (f : FollowerSeat). f.mine) c.in-Ok.ensures.given) c.join.ensures.both

pub returns-clause-told : goal.returns-clause-told
returns-clause-told c =
    let owner : c.join.new.self ≡ c.args.owner.now = same_owner c.args.owner.now c.join.new.self c.in-Ok.note (ap (λ (f : FollowerSeat). f.mine) c.in-Ok.ensures.given) c.join.ensures.both in
    c.hear.ensures.told
    ∙ (ap (λ (f : FollowerSeat). record f { seen = c.join.new.self.seen }) (c.split.ensures.same ∙ c.load.ensures.rest)
    ∙ ap (λ (o : OwnerSeat). record c.args.follower.now { seen = o.seen }) owner)

pub returns-clause-grows : goal.returns-clause-grows
returns-clause-grows c =
    prefix_trans c.args.follower.now.seen c.load.new.self.seen c.args.owner.now.seen c.load.ensures.grows
    (subst (λ (f : FollowerSeat). IsPrefix f.seen c.args.owner.now.seen) c.in-Ok.ensures.given c.join.ensures.begins)

pub returns-clause-near : goal.returns-clause-near
returns-clause-near c place entry h =
    let near = c.load.ensures.near place entry (subst (λ (f : FollowerSeat). Has f.mine place entry) (sym c.load.ensures.rest) h) in
    let long = prefix_length c.load.new.self.seen c.args.owner.now.seen (subst (λ (f : FollowerSeat). IsPrefix f.seen c.args.owner.now.seen) c.in-Ok.ensures.given c.join.ensures.begins) in
    omega (arith, near, long, c.load.ensures.counted)
