use Rattle.std.proofs.Common.{◌≡◌, ◌∙◌, ◌<◌, ℕ, length, ap, sym, subst, arith}
use Rattle.std.specs.Prelude.{slice_set, IfOk, IfErr}
use Rattle.std.proofs.lemmas.List.{length-set}
use Rattle.commit_word.specs.Seats.{FollowerSeat}
use Rattle.manager.specs.Lists.{seat_at}
use Rattle.manager.specs.Passes.{PassValue}
use Rattle.manager.specs.Commanding.{IsTaken, IsRefusedAt}
use Rattle.manager.proofs.Knowing.{set_here, set_other, read_seat}
use Rattle.manager.proofs.Seating.{seat_word, after_seats}
use Rattle.manager.proofs.passes.Pass.commit.Goals as goal

pub index_mut-requires : goal.index_mut-requires
index_mut-requires g c = omega (arith, c.self.inside.seats.ok.0, c.self.invariant.0, c.requires.place)

pub commit-requires-clause-word : goal.commit-requires-clause-word
commit-requires-clause-word g c = c.requires.word ∙ ap g.N.Names.words (sym c.requires.desk)

pub commit-requires-clause-seat : goal.commit-requires-clause-seat
commit-requires-clause-seat g c =
    seat_word g.N.Names.words g.N.Names.named c.self.inside.seats.items c.args.place c.index_mut.result.now c.self.invariant.1
    (subst (λ (n : ℕ). c.args.place < n) (sym c.self.invariant.0) c.requires.place) c.index_mut.ensures.value ∙ sym c.requires.word

pub invariant_of-self : goal.invariant_of-self
invariant_of-self g c =
    let within : c.args.place < length c.self.inside.seats.items = subst (λ (n : ℕ). c.args.place < n) (sym c.self.invariant.0) c.requires.place in (
      length-set c.self.inside.seats.items c.args.place c.commit.new.self ∙ c.self.invariant.0,
      after_seats g.N.Names.words g.N.Names.named c.self.inside.seats.items c.args.place c.index_mut.result.now c.commit.new.self c.commit.new.desk.desk within c.index_mut.ensures.value
          (c.commit.ensures.number ∙ c.requires.desk) c.commit.ensures.listed c.commit.ensures.whole c.self.invariant.1 c.commit.ensures.kept.0 c.commit.ensures.kept.1,
      c.self.invariant.2,
      c.self.invariant.3,
    )

pub returns-clause-rest : goal.returns-clause-rest
returns-clause-rest g c = ap (λ (p : PassValue). record p { seats = slice_set c.self.inside.seats.items c.args.place c.commit.new.self }) c.self.view_is

pub returns-clause-count : goal.returns-clause-count
returns-clause-count g c = length-set c.self.inside.seats.items c.args.place c.commit.new.self ∙ ap (λ (p : PassValue). length p.seats) c.self.view_is

pub returns-clause-others : goal.returns-clause-others
returns-clause-others g c other away =
    let within : c.args.place < length c.self.inside.seats.items = subst (λ (n : ℕ). c.args.place < n) (sym c.self.invariant.0) c.requires.place in
    set_other c.self.inside.seats.items c.args.place c.commit.new.self within other away ∙ ap (λ (p : PassValue). seat_at p.seats other) c.self.view_is

pub returns-clause-taken : goal.returns-clause-taken
returns-clause-taken g c =
    let seats = c.self.inside.seats.items in
    let place = c.args.place in
    let within : place < length seats = subst (λ (n : ℕ). place < n) (sym c.self.invariant.0) c.requires.place in
    let was : c.index_mut.result.now ≡ seat_at c.args.self.now.seats place =
    read_seat seats place c.index_mut.result.now within c.index_mut.ensures.value ∙ ap (λ (p : PassValue). seat_at p.seats place) c.self.view_is in
    let command = c.args.command in
    let signers = c.args.signers in
    subst (λ (s : FollowerSeat). IfOk c.commit.result (λ count. IsTaken place command signers count (seat_at c.args.self.now.seats place) s)) (sym (set_here seats place c.commit.new.self within))
    (subst (λ (s : FollowerSeat). IfOk c.commit.result (λ count. IsTaken place command signers count s c.commit.new.self)) was
    (subst (λ (n : ℕ). IfOk c.commit.result (λ count. IsTaken n command signers count c.index_mut.result.now c.commit.new.self)) c.requires.desk c.commit.ensures.taken))

pub returns-clause-refused : goal.returns-clause-refused
returns-clause-refused g c =
    let seats = c.self.inside.seats.items in
    let place = c.args.place in
    let within : place < length seats = subst (λ (n : ℕ). place < n) (sym c.self.invariant.0) c.requires.place in
    let was : c.index_mut.result.now ≡ seat_at c.args.self.now.seats place =
    read_seat seats place c.index_mut.result.now within c.index_mut.ensures.value ∙ ap (λ (p : PassValue). seat_at p.seats place) c.self.view_is in
    let command = c.args.command in
    let signers = c.args.signers in
    subst (λ (s : FollowerSeat). IfErr c.commit.result (λ fault. IsRefusedAt place command signers fault (seat_at c.args.self.now.seats place) s)) (sym (set_here seats place c.commit.new.self within))
    (subst (λ (s : FollowerSeat). IfErr c.commit.result (λ fault. IsRefusedAt place command signers fault s c.commit.new.self)) was
    (subst (λ (n : ℕ). IfErr c.commit.result (λ fault. IsRefusedAt n command signers fault c.index_mut.result.now c.commit.new.self)) c.requires.desk c.commit.ensures.refused))
