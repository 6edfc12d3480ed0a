use Rattle.std.proofs.Common.{◌∙◌, ◌<◌, ℕ, length, ap, sym, subst, arith}
use Rattle.std.specs.Prelude.{slice_set}
use Rattle.std.proofs.lemmas.List.{length-set}
use Rattle.commit_word.specs.Seats.{FollowerSeat}
use Rattle.manager.specs.Lists.{seat_at}
use Rattle.manager.specs.Passes.{PassValue, KnowsMore}
use Rattle.manager.proofs.Knowing.{set_other}
use Rattle.manager.proofs.Seating.{seat_word, after_known, after_whole, after_seats, after_more}
use Rattle.manager.proofs.passes.Pass.learn.Goals as goal

pub index_mut-requires : goal.index_mut-requires
index_mut-requires g c = omega (arith, c.self.inside.seats.ok.0, c.self.invariant.0, c.requires.place)

pub learn-requires-clause-word : goal.learn-requires-clause-word
learn-requires-clause-word g c = c.requires.word ∙ ap g.N.Names.words (sym c.requires.desk)

pub learn-requires-clause-seat : goal.learn-requires-clause-seat
learn-requires-clause-seat g c =
    seat_word g.N.Names.words g.N.Names.named c.self.inside.seats.items c.args.place c.index_mut.result.now c.self.invariant.1
    (subst (λ (n : ℕ). c.args.place < n) (sym c.self.invariant.0) c.requires.place) c.index_mut.ensures.value ∙ sym c.requires.word

pub invariant_of-self : goal.invariant_of-self
invariant_of-self g c =
    let within : c.args.place < length c.self.inside.seats.items = subst (λ (n : ℕ). c.args.place < n) (sym c.self.invariant.0) c.requires.place in
    let told = c.learn.ensures.told in (
      length-set c.self.inside.seats.items c.args.place c.learn.new.self ∙ c.self.invariant.0,
      after_seats g.N.Names.words g.N.Names.named c.self.inside.seats.items c.args.place c.index_mut.result.now c.learn.new.self c.args.desk.now.desk within c.index_mut.ensures.value
          c.requires.desk c.learn.ensures.listed (ap (λ (s : FollowerSeat). s.seen) told) c.self.invariant.1 (ap (λ (s : FollowerSeat). s.word) told) (ap (λ (s : FollowerSeat). s.recovered) told),
      c.self.invariant.2,
      c.self.invariant.3,
    )

pub returns-clause-rest : goal.returns-clause-rest
returns-clause-rest g c = ap (λ (p : PassValue). record p { seats = slice_set c.self.inside.seats.items c.args.place c.learn.new.self }) c.self.view_is

pub returns-clause-more : goal.returns-clause-more
returns-clause-more g c =
    let within : c.args.place < length c.self.inside.seats.items = subst (λ (n : ℕ). c.args.place < n) (sym c.self.invariant.0) c.requires.place in
    let told = c.learn.ensures.told in
    subst (λ (p : PassValue). KnowsMore p.seats (slice_set c.self.inside.seats.items c.args.place c.learn.new.self)) c.self.view_is
    (after_more g.N.Names.words g.N.Names.named c.self.inside.seats.items c.args.place c.index_mut.result.now c.learn.new.self c.args.desk.now.desk within c.index_mut.ensures.value
    c.requires.desk c.learn.ensures.listed (ap (λ (s : FollowerSeat). s.seen) told) told c.learn.ensures.grows)

pub returns-clause-others : goal.returns-clause-others
returns-clause-others g c other away =
    let within : c.args.place < length c.self.inside.seats.items = subst (λ (n : ℕ). c.args.place < n) (sym c.self.invariant.0) c.requires.place in
    set_other c.self.inside.seats.items c.args.place c.learn.new.self within other away ∙ ap (λ (p : PassValue). seat_at p.seats other) c.self.view_is

pub returns-clause-known : goal.returns-clause-known
returns-clause-known g c =
    let within : c.args.place < length c.self.inside.seats.items = subst (λ (n : ℕ). c.args.place < n) (sym c.self.invariant.0) c.requires.place in
    after_known g.N.Names.words g.N.Names.named c.self.inside.seats.items c.args.place c.index_mut.result.now c.learn.new.self c.args.desk.now.desk within c.index_mut.ensures.value
    c.requires.desk c.learn.ensures.listed (ap (λ (s : FollowerSeat). s.seen) c.learn.ensures.told)

pub returns-clause-whole : goal.returns-clause-whole
returns-clause-whole g c =
    let within : c.args.place < length c.self.inside.seats.items = subst (λ (n : ℕ). c.args.place < n) (sym c.self.invariant.0) c.requires.place in
    after_whole g.N.Names.words g.N.Names.named c.self.inside.seats.items c.args.place c.index_mut.result.now c.learn.new.self c.args.desk.now.desk within c.index_mut.ensures.value
    c.requires.desk c.learn.ensures.listed (ap (λ (s : FollowerSeat). s.seen) c.learn.ensures.told)
