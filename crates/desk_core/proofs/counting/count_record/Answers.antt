use Rattle.std.proofs.Common.{ℕ, ◌++◌, [], ◌∷◌, List, length, ap, ◌∙◌, sym, subst}
use mathlib.Core.List.{IsPrefix}
use Rattle.commit_word.specs.Seats.{FollowerSeat, OwnerSeat}
use Rattle.cmd_codec.specs.Spelling.{spelling}
use Rattle.desk_core.proofs.Words.{owner_counted, seat_taken, prefix_more}
use Rattle.desk_core.proofs.counting.count_record.Goals as goal

pub hear-requires-clause-begins : goal.hear-requires-clause-begins
hear-requires-clause-begins c =
    let record_of : List ℕ = spelling c.args.accepted.now.value in
    let owner : OwnerSeat = c.args.owner.now in
    let counted = owner_counted record_of owner c.set_aside-seat.new.owner c.bump.new.self c.requires.none c.set_aside-seat.ensures.noted c.bump.ensures.set_aside in
    let taken = seat_taken record_of c.args.follower.now c.set_aside-seat.result c.join.new.self owner c.joined_has_both.ensures.last c.set_aside-seat.ensures.given c.requires.seen c.requires.near c.join.ensures.apart c.join.ensures.both in
    subst (λ (f : FollowerSeat). IsPrefix f.seen c.bump.new.self.seen) (sym taken)
    (subst (λ (o : OwnerSeat). IsPrefix owner.seen o.seen) (sym counted) (prefix_more owner.seen (record_of ∷ [])))

pub returns-clause-counted : goal.returns-clause-counted
returns-clause-counted c =
    c.hear.ensures.same
    ∙ owner_counted (spelling c.args.accepted.now.value) c.args.owner.now c.set_aside-seat.new.owner c.bump.new.self c.requires.none c.set_aside-seat.ensures.noted c.bump.ensures.set_aside

pub returns-clause-made : goal.returns-clause-made
returns-clause-made c =
    let record_of : List ℕ = spelling c.args.accepted.now.value in
    let owner : OwnerSeat = c.args.owner.now in
    let counted = owner_counted record_of owner c.set_aside-seat.new.owner c.bump.new.self c.requires.none c.set_aside-seat.ensures.noted c.bump.ensures.set_aside in
    let taken = seat_taken record_of c.args.follower.now c.set_aside-seat.result c.join.new.self owner c.joined_has_both.ensures.last c.set_aside-seat.ensures.given c.requires.seen c.requires.near c.join.ensures.apart c.join.ensures.both in
    c.hear.ensures.told
    ∙ (ap (λ (f : FollowerSeat). record f { seen = c.bump.new.self.seen }) taken
    ∙ ap (λ (o : OwnerSeat). record c.args.follower.now { seen = o.seen; mine = c.args.follower.now.mine ++ (length owner.seen, record_of) ∷ [] }) counted)
