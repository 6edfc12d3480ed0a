use Rattle.std.specs.Prelude.{None}
use Rattle.std.proofs.Common.{◌≡◌, ◌∙◌, ◌++◌, ◌∷◌, [], ℕ, List, length, map, get_or, ap, sym, subst, arith, inl}
use Rattle.std.specs.Vec.Iter.{into_iter_items}
use Rattle.std.proofs.lemmas.List.{nil_from_length, length_push}
use Rattle.atomic_table.specs.Seated.{TableId}
use Rattle.desk_core.specs.Counted.{CountedView}
use Rattle.manager.specs.Starting.{AreOpenedDesks, first_seat}
use Rattle.manager.specs.Ready.{desk_in}
use Rattle.manager.specs.Risen.{IsRisenDesk, AreRisenDesks}
use Rattle.manager.specs.Limits.{IsWithinLimit}
use Rattle.manager.proofs.Starting.{moved, moved_all}
use Rattle.manager.proofs.locked_desks_starting.put_all.Goals as goal

pub put-requires-clause-faults : goal.put-requires-clause-faults
put-requires-clause-faults g c =
    let here = subst (λ (l : List (CountedView _)). AreRisenDesks g.D.Disk g.N.Names.named (map desk_in l)) c.in-Some.ensures.steps.0 c.loop-desk.invariant.faults in
    subst (λ (d : CountedView _). IsRisenDesk g.D.Disk g.N.Names.named d.desk) (sym c.into_parts-counted.ensures.desk) here.0

pub put-requires-clause-is_open : goal.put-requires-clause-is_open
put-requires-clause-is_open g c =
    let here = subst (λ (l : List (CountedView _)). AreOpenedDesks g.N.Names.words g.N.Names.named (length c.loop-desk.parts.words.items) l) c.in-Some.ensures.steps.0 c.loop-desk.invariant.desks in
    subst (λ (d : CountedView _). d.desk.shut ≡ None) (sym c.into_parts-counted.ensures.desk) here.0.is_open

-- it has the records that were found
pub put-requires-clause-limit : goal.put-requires-clause-limit
put-requires-clause-limit g c =
    let here = subst (λ (l : List (CountedView _)). AreOpenedDesks g.N.Names.words g.N.Names.named (length c.loop-desk.parts.words.items) l) c.in-Some.ensures.steps.0 c.loop-desk.invariant.desks in
    subst (λ (d : CountedView _). IsWithinLimit g.N.Names.named d.desk) (sym c.into_parts-counted.ensures.desk)
    (inl (here.0.found ∙ ap (λ (n : ℕ). get_or g.N.Names.named.records n []) (sym here.0.number_is)))

pub loop-desk-preserved : goal.loop-desk-preserved
loop-desk-preserved g c =
    let before = c.loop-desk.invariant in
    let parts = c.loop-desk.parts in
    let next = c.put.new.parts in
    let desk = c.in-Some.desk in
    let still = into_iter_items c.loop-desk.desk-iterator in
    let rest = into_iter_items c.next.new.self in
    let step : still ≡ desk ∷ rest = c.in-Some.ensures.steps.0 in
    let shorter = ap length step in
    let opened = subst (λ (l : List (CountedView _)). AreOpenedDesks g.N.Names.words g.N.Names.named (length parts.words.items) l) step before.desks in
    let word : next.words.items ≡ parts.words.items ++ desk.word ∷ [] =
    c.put.ensures.words.0 ∙ ap (λ (w : TableId). parts.words.items ++ w ∷ []) c.into_parts-counted.ensures.word in
    let seat : next.seats.items ≡ parts.seats.items ++ first_seat desk ∷ [] =
    c.put.ensures.seats.0 ∙ ap (λ (d : CountedView _). parts.seats.items ++ first_seat d ∷ []) c.into_parts-counted.ensures.desk in
    let follower : next.followers.items ≡ parts.followers.items ++ first_seat desk ∷ [] =
    c.put.ensures.followers.0 ∙ ap (λ (d : CountedView _). parts.followers.items ++ first_seat d ∷ []) c.into_parts-counted.ensures.desk in
    let words_long = ap length word ∙ length_push parts.words.items desk.word in
    let seats_long = ap length seat ∙ length_push parts.seats.items (first_seat desk) in
    let followers_long = ap length follower ∙ length_push parts.followers.items (first_seat desk) in
    record {
      desks = subst (λ (n : ℕ). AreOpenedDesks g.N.Names.words g.N.Names.named n rest) (omega (arith, words_long)) opened.1;
      faults = (subst (λ (l : List (CountedView _)). AreRisenDesks g.D.Disk g.N.Names.named (map desk_in l)) step before.faults).1;
      count = omega (arith, shorter, before.count, c.in-Some.ensures.steps.1);
      words = moved (λ (d : CountedView _). d.word) parts.words.items still _ before.words next.words.items desk rest word step;
      locks = omega (arith, c.put.ensures.locks.0, shorter, before.locks);
      seats = moved first_seat parts.seats.items still _ before.seats next.seats.items desk rest seat step;
      followers = moved first_seat parts.followers.items still _ before.followers next.followers.items desk rest follower step;
      words_room = omega (arith, words_long, shorter, before.words_room, c.put.ensures.words.1);
      locks_room = omega (arith, c.put.ensures.locks.0, shorter, before.locks_room, c.put.ensures.locks.1);
      seats_room = omega (arith, seats_long, shorter, before.seats_room, c.put.ensures.seats.1);
      followers_room = omega (arith, followers_long, shorter, before.followers_room, c.put.ensures.followers.1);
    }

pub returns-clause-words : goal.returns-clause-words
returns-clause-words g c =
    let still = into_iter_items c.loop-desk.desk-iterator in
    let none : still ≡ [] = nil_from_length still (sym c.loop-desk.invariant.count ∙ c.in-None.ensures.steps.0) in
    moved_all (λ (d : CountedView _). d.word) c.loop-desk.parts.words.items still _ c.loop-desk.invariant.words none

pub returns-clause-seats : goal.returns-clause-seats
returns-clause-seats g c =
    let still = into_iter_items c.loop-desk.desk-iterator in
    let none : still ≡ [] = nil_from_length still (sym c.loop-desk.invariant.count ∙ c.in-None.ensures.steps.0) in
    moved_all first_seat c.loop-desk.parts.seats.items still _ c.loop-desk.invariant.seats none

pub returns-clause-followers : goal.returns-clause-followers
returns-clause-followers g c =
    let still = into_iter_items c.loop-desk.desk-iterator in
    let none : still ≡ [] = nil_from_length still (sym c.loop-desk.invariant.count ∙ c.in-None.ensures.steps.0) in
    moved_all first_seat c.loop-desk.parts.followers.items still _ c.loop-desk.invariant.followers none
