use Rattle.std.proofs.Common.{◌≡◌, ◌+◌, ◌++◌, List, ℕ, [], length, map, inr, sym, ap, ◌∙◌, subst, arith}
use mathlib.Core.List.{IsPrefix}
use Rattle.commit_word.specs.Entries.{Has, ShareNoPlace, joined}
use Rattle.commit_word.specs.Seats.{FollowerSeat, OwnerSeat}
use Rattle.test_threads.proofs.Commits.{one_more, prefix_trans, joined_one, owner_grown}
use Rattle.test_threads.proofs.words.commit.commit.Goals as goal

pub returns-clause-listed : goal.returns-clause-listed
returns-clause-listed g c =
    owner_grown g.E.Entries.list c.args.len c.args.owner.now c.split.new.self c.split_for.new.self c.bump.new.self c.requires.one c.requires.none c.requires.len c.split.ensures.same c.split_for.ensures.noted c.bump.ensures.set_aside

pub returns-clause-seen : goal.returns-clause-seen
returns-clause-seen g c =
    let entries : List (List ℕ) = g.E.Entries.list in
    let list : List (List ℕ) = c.args.owner.now.seen in
    let found : List (List ℕ) = c.wait_for.new.caller.seen in
    let given = ap (λ (f : FollowerSeat). f.seen) c.in_ok-note.ensures.given in
    let noted = subst (λ l. IsPrefix l c.join.new.self.seen) given c.join.ensures.begins in
    let begins : IsPrefix list found =
    prefix_trans list c.join.new.self.seen found noted
    (prefix_trans c.join.new.self.seen c.load.new.self.seen found c.load.ensures.grows (prefix_trans c.load.new.self.seen c.join-2.new.self.seen found c.join-2.ensures.grows c.wait_for.ensures.grows)) in
    let made : c.in_ok-seat.seat.mine ≡ map (λ entry. (length list, entry)) entries =
    ap (λ (f : FollowerSeat). f.mine) c.in_ok-seat.ensures.given ∙ ap (λ (o : OwnerSeat). map (λ entry. (length o.seen, entry)) entries) c.split.ensures.same in
    let mine = ap (λ (f : FollowerSeat). f.mine) c.wait_for.ensures.rest ∙ ap (λ (f : FollowerSeat). f.mine) c.join-2.ensures.both in
    let long : length found ≡ length list + 1 = c.wait_for.ensures.counted ∙ ap (λ (n : ℕ). n + 1) (sym c.requires.len) in
    let listed = owner_grown entries c.args.len c.args.owner.now c.split.new.self c.split_for.new.self c.bump.new.self c.requires.one c.requires.none c.requires.len c.split.ensures.same c.split_for.ensures.noted c.bump.ensures.set_aside in
    one_more entries list found c.requires.one begins long
    (λ e h. c.wait_for.ensures.placed.stands (length list) e
    (subst (λ m. Has m (length list) e) (sym mine) ((c.joined_has_both.ensures.both c.load.new.self.mine c.in_ok-seat.seat.mine (length list) e).1 (inr (subst (λ m. Has m (length list) e) (sym made) h))))
    (omega arith))
    ∙ sym (ap (λ (o : OwnerSeat). o.seen) listed.0)

pub returns-clause-made : goal.returns-clause-made
returns-clause-made g c =
    let entries : List (List ℕ) = g.E.Entries.list in
    let mine : List (ℕ × List ℕ) = c.args.caller.now.mine in
    let note : c.in_ok-note.note.mine ≡ [] = ap (λ (f : FollowerSeat). f.mine) c.in_ok-note.ensures.given in
    let before : c.load.new.self.mine ≡ mine =
    ap (λ (f : FollowerSeat). f.mine) c.load.ensures.rest ∙ (ap (λ (f : FollowerSeat). f.mine) c.join.ensures.both ∙ ap (λ m. joined mine m) note) in
    let made : c.in_ok-seat.seat.mine ≡ map (λ entry. (c.args.len, entry)) entries =
    ap (λ (f : FollowerSeat). f.mine) c.in_ok-seat.ensures.given
    ∙ (ap (λ (o : OwnerSeat). map (λ entry. (length o.seen, entry)) entries) c.split.ensures.same ∙ ap (λ (n : ℕ). map (λ entry. (n, entry)) entries) c.requires.len) in
    let found = c.if-load-len.false in
    let apart = subst (λ m. ShareNoPlace c.load.new.self.mine m) made c.join-2.ensures.apart in
    ap (λ (f : FollowerSeat). f.mine) c.wait_for.ensures.rest
    ∙ (ap (λ (f : FollowerSeat). f.mine) c.join-2.ensures.both
    ∙ (ap (λ m. joined c.load.new.self.mine m) made
    ∙ (joined_one joined c.load.new.self.mine entries c.args.len c.requires.one c.joined_has_both.ensures.last (λ p e h. let near = c.load.ensures.near p e h in omega arith) apart
    ∙ ap (λ m. m ++ map (λ entry. (c.args.len, entry)) entries) before)))
