use Rattle.std.proofs.Common.{◌≡◌, ◌∙◌, ℕ, List, [], ◌∷◌, length, reverse, refl, ap, sym, subst, arith}
use Rattle.std.proofs.lemmas.List.{take_all, length_push, reverse-append}
use Rattle.desk_core.specs.View.{View}
use Rattle.manager.specs.Ended.{IsEndedDesk, AreLeftDesks}
use Rattle.manager.specs.Risen.{AreRisenDesks}
use Rattle.manager.specs.Limits.{AreWithinLimit}
use Rattle.manager.proofs.Seating.{popped}
use Rattle.manager.proofs.Ending.{EndedFrom, ended_start, ended_all, ended_popped, word_popped, seat_popped}
use Rattle.manager.proofs.locked_desks_ending.end_all.Goals as goal

pub loop-init : goal.loop-init
loop-init g c = (
  omega arith,
  sym (take_all (length c.args.seats.items) c.args.seats.items (omega arith)),
  c.requires.words.0,
  sym (take_all (length c.args.words.items) c.args.words.items (omega arith)),
  c.requires.locks,
  refl,
  ended_start c.args.seats.items c.args.into.now.items c.requires.empty,
  subst (λ (l : List (View _)). AreRisenDesks g.D.Disk g.N.Names.named (reverse l)) (sym c.requires.empty) tt,
  subst (λ (l : List (View _)). AreLeftDesks (length g.N.Names.named.signers) (reverse l)) (sym c.requires.empty) tt,
  subst (λ (l : List (View _)). AreWithinLimit g.N.Names.named (reverse l)) (sym c.requires.empty) tt,
)

pub end-desk-requires-clause-word : goal.end-desk-requires-clause-word
end-desk-requires-clause-word g c =
    let words = ap length c.in-Some.ensures.items ∙ length_push c.pop.new.self.items c.in-Some.word in
    let seats = ap length c.in-Some-pop-2.ensures.items ∙ length_push c.pop-in-loop-2.new.self.items c.in-Some-pop-2.seat in
    let here : c.len.result ≡ length c.pop-in-loop-2.new.self.items = c.len.ensures ∙ c.pop-in-loop-2.new.self.ok.0 in
    let same : length c.pop.new.self.items ≡ c.len.result = omega (arith, words, seats, here, c.loop.invariant.2) in
    word_popped g.N.Names.words c.args.words.items c.loop.words.items c.pop.new.self.items c.in-Some.word c.requires.words.1 c.loop.invariant.3 c.in-Some.ensures.items ∙ ap g.N.Names.words same

pub end-desk-requires-clause-seat : goal.end-desk-requires-clause-seat
end-desk-requires-clause-seat g c =
    let here : c.len.result ≡ length c.pop-in-loop-2.new.self.items = c.len.ensures ∙ c.pop-in-loop-2.new.self.ok.0 in
    seat_popped g.N.Names.words g.N.Names.named c.args.seats.items c.loop.seats.items c.pop-in-loop-2.new.self.items c.in-Some-pop-2.seat c.requires.seats c.loop.invariant.1 c.in-Some-pop-2.ensures.items
    ∙ ap g.N.Names.words (sym here)

pub loop-preserved : goal.loop-preserved
loop-preserved g c =
    let all = c.args.seats.items in
    let new = c.pop-in-loop-2.new.self.items in
    let seat = c.in-Some-pop-2.seat in
    let words = ap length c.in-Some.ensures.items ∙ length_push c.pop.new.self.items c.in-Some.word in
    let locks = ap length c.in-Some-pop.ensures.items ∙ length_push c.pop-in-loop.new.self.items c.in-Some-pop.lock in
    let seats = ap length c.in-Some-pop-2.ensures.items ∙ length_push new seat in
    let here : c.len.result ≡ length new = c.len.ensures ∙ c.pop-in-loop-2.new.self.ok.0 in
    let ended : IsEndedDesk (length new) seat c.end-desk.result = subst (λ (n : ℕ). IsEndedDesk n seat c.end-desk.result) here c.end-desk.ensures.ended in (
      omega (arith, seats, c.loop.invariant.0),
      (popped all c.loop.seats.items new seat c.loop.invariant.1 c.in-Some-pop-2.ensures.items).0,
      omega (arith, words, seats, c.loop.invariant.2),
      (popped c.args.words.items c.loop.words.items c.pop.new.self.items c.in-Some.word c.loop.invariant.3 c.in-Some.ensures.items).0,
      omega (arith, locks, seats, c.loop.invariant.4),
      c.push_reserved.ensures.capacity ∙ c.loop.invariant.5,
      subst (λ (l : List (View _)). EndedFrom (length new) all (reverse l)) (sym c.push_reserved.ensures.items)
          (ended_popped all c.loop.seats.items new seat c.loop.into.items c.end-desk.result c.loop.invariant.1 c.in-Some-pop-2.ensures.items c.loop.invariant.6 ended),
      subst (λ (l : List (View _)). AreRisenDesks g.D.Disk g.N.Names.named l) (sym (ap reverse c.push_reserved.ensures.items ∙ reverse-append c.loop.into.items (c.end-desk.result ∷ [])))
          (c.end-desk.ensures.faults, c.loop.invariant.7),
      subst (λ (l : List (View _)). AreLeftDesks (length g.N.Names.named.signers) l) (sym (ap reverse c.push_reserved.ensures.items ∙ reverse-append c.loop.into.items (c.end-desk.result ∷ [])))
          (c.end-desk.ensures.left, c.loop.invariant.8),
      subst (λ (l : List (View _)). AreWithinLimit g.N.Names.named l) (sym (ap reverse c.push_reserved.ensures.items ∙ reverse-append c.loop.into.items (c.end-desk.result ∷ [])))
          (c.end-desk.ensures.limit, c.loop.invariant.9),
    )

pub returns-clause-faults : goal.returns-clause-faults
returns-clause-faults g c = c.loop.invariant.7

pub returns-clause-left : goal.returns-clause-left
returns-clause-left g c = c.loop.invariant.8

pub returns-clause-limits : goal.returns-clause-limits
returns-clause-limits g c = c.loop.invariant.9

pub returns-clause-ended : goal.returns-clause-ended
returns-clause-ended g c =
    let none : length c.loop.seats.items ≡ 0 = omega (arith, c.loop.invariant.0, c.loop-test.false, c.loop.auto.counter-end, c.args.seats.ok.0) in
    ended_all c.args.seats.items (reverse c.loop.into.items)
    (subst (λ (n : ℕ). EndedFrom n c.args.seats.items (reverse c.loop.into.items)) none c.loop.invariant.6)
