use Rattle.std.proofs.Common.{◌≡◌, ◌∙◌, ℕ, List, get_or, sym, ap, subst}
use mathlib.Core.List.{IsPrefix}
use Rattle.commit_word.specs.Seats.{FollowerSeat}
use Rattle.desk_core.specs.Answers.{IsDeskFault}
use Rattle.desk_core.specs.Counted.{CountedView}
use Rattle.manager.specs.Lists.{IsListed}
use Rattle.manager.specs.Passes.{IsMore}
use Rattle.manager.specs.Commanding.{IsTaken, IsRefusedAt}
use Rattle.manager.specs.Risen.{IsRisen}
use Rattle.manager.proofs.Doubted.{doubted_none, doubted_refused}
use Rattle.manager.proofs.Knowing.{more_seen}
use Rattle.manager.proofs.Risen.{risen_open, risen_refused}
use Rattle.manager.proofs.Limits.{limit_taken, limit_same}
use Rattle.manager.proofs.Taking.{taken_is, taken_listed, taken_from, refused_same, refused_is, refused_listed, refused_from}
use Rattle.manager.proofs.locked_desk.LockedDesk.commit.Goals as goal

pub returns-clause-taken : goal.returns-clause-taken
returns-clause-taken g c =
    let old = c.self.inside.desk in
    let first = c.args.follower.now in
    let told = c.tell.new.follower in
    let same = c.self.view_is ∙ c.tell.ensures.same in
    let was = subst (λ (n : ℕ). IsListed n old.desk) (sym c.requires.signers) c.self.invariant.1 in
    let seen = ap (λ (f : FollowerSeat). f.seen) c.tell.ensures.told in
    let more : IsMore first told = more_seen first told c.args.self.now.desk.records (subst (λ (l : List (List ℕ)). IsPrefix first.seen l) seen c.tell.ensures.grows) c.tell.ensures.told in
    subst (λ (v : CountedView _). IsTaken v.desk.number c.args.command c.args.signers c.in-Ok.count first c.commit.new.follower) same
    (taken_from old.desk.number c.args.command c.args.signers c.in-Ok.count first told c.commit.new.follower more
    (taken_is c.args.signers c.args.command old.desk c.commit.new.self.desk was c.in-Ok.ensures.place c.commit.ensures.number c.in-Ok.ensures.commands
    c.in-Ok.count told c.commit.new.follower (seen ∙ sym (ap (λ (v : CountedView _). v.desk.records) same)) c.commit.ensures.seen c.commit.ensures.grows c.in-Ok.ensures.recorded c.in-Ok.ensures.made c.commit.ensures.seat c.in-Ok.ensures.counted.0))

pub returns-clause-listed : goal.returns-clause-listed
returns-clause-listed g c =
    let was = subst (λ (n : ℕ). IsListed n c.self.inside.desk.desk) (sym c.requires.signers) c.self.invariant.1 in
    subst (λ (n : ℕ). IsListed n c.commit.new.self.desk) c.requires.signers
    (taken_listed c.args.signers c.args.command c.self.inside.desk.desk c.commit.new.self.desk was c.in-Ok.ensures.place c.commit.ensures.number c.in-Ok.ensures.commands)

pub returns-in-Err-clause-refused : goal.returns-in-Err-clause-refused
returns-in-Err-clause-refused g c =
    let old = c.self.inside.desk in
    let first = c.args.follower.now in
    let told = c.tell.new.follower in
    let same = c.self.view_is ∙ c.tell.ensures.same in
    let was = subst (λ (n : ℕ). IsListed n old.desk) (sym c.requires.signers) c.self.invariant.1 in
    let seen = ap (λ (f : FollowerSeat). f.seen) c.tell.ensures.told in
    let more : IsMore first told = more_seen first told c.args.self.now.desk.records (subst (λ (l : List (List ℕ)). IsPrefix first.seen l) seen c.tell.ensures.grows) c.tell.ensures.told in
    subst (λ (v : CountedView _). IsRefusedAt v.desk.number c.args.command c.args.signers c.in-Err.fault first c.commit.new.follower) same
    (refused_from old.desk.number c.args.command c.args.signers c.in-Err.fault first told c.commit.new.follower more
    (refused_is g.D.Disk c.args.signers c.args.command old.desk c.commit.new.self.desk was
    c.in-Err.fault told c.commit.new.follower c.in-Err.ensures.refused c.commit.ensures.seen c.commit.ensures.grows c.in-Err.ensures.none c.commit.ensures.seat))

pub returns-in-Err-clause-cause : goal.returns-in-Err-clause-cause
returns-in-Err-clause-cause g c =
    subst (λ (v : CountedView _). IsDeskFault g.D.Disk c.in-Err.fault c.args.command c.args.signers v.desk c.commit.new.self.desk) (c.self.view_is ∙ c.tell.ensures.same) c.in-Err.ensures.refused

pub returns-in-Err-clause-listed : goal.returns-in-Err-clause-listed
returns-in-Err-clause-listed g c =
    let was = subst (λ (n : ℕ). IsListed n c.self.inside.desk.desk) (sym c.requires.signers) c.self.invariant.1 in
    subst (λ (n : ℕ). IsListed n c.commit.new.self.desk) c.requires.signers
    (refused_listed g.D.Disk c.args.signers c.args.command c.self.inside.desk.desk c.commit.new.self.desk was c.in-Err.fault c.in-Err.ensures.refused c.commit.ensures.number)

pub commit-requires-clause-word : goal.commit-requires-clause-word
commit-requires-clause-word g c =
    c.requires.word ∙ (ap (λ (v : CountedView _). g.N.Names.words v.desk.number) (sym (c.self.view_is ∙ c.tell.ensures.same)) ∙ sym c.self.invariant.0)

pub commit-requires-clause-follower : goal.commit-requires-clause-follower
commit-requires-clause-follower g c = ap (λ (f : FollowerSeat). f.word) c.tell.ensures.told ∙ c.requires.follower

pub returns-clause-seat : goal.returns-clause-seat
returns-clause-seat g c =
    (c.commit.ensures.seat.0 ∙ ap (λ (f : FollowerSeat). f.word) c.tell.ensures.told, c.commit.ensures.seat.1 ∙ ap (λ (f : FollowerSeat). f.recovered) c.tell.ensures.told)

pub returns-in-Err-clause-seat : goal.returns-in-Err-clause-seat
returns-in-Err-clause-seat g c =
    (c.commit.ensures.seat.0 ∙ ap (λ (f : FollowerSeat). f.word) c.tell.ensures.told, c.commit.ensures.seat.1 ∙ ap (λ (f : FollowerSeat). f.recovered) c.tell.ensures.told)

pub returns-clause-number : goal.returns-clause-number
returns-clause-number g c = c.commit.ensures.number ∙ ap (λ (v : CountedView _). v.desk.number) (c.self.view_is ∙ c.tell.ensures.same)

pub returns-in-Err-clause-number : goal.returns-in-Err-clause-number
returns-in-Err-clause-number g c = c.commit.ensures.number ∙ ap (λ (v : CountedView _). v.desk.number) (c.self.view_is ∙ c.tell.ensures.same)

pub returns-clause-word_kept : goal.returns-clause-word_kept
returns-clause-word_kept g c = c.commit.ensures.word_kept.0 ∙ ap (λ (v : CountedView _). v.word) (c.self.view_is ∙ c.tell.ensures.same)

pub returns-in-Err-clause-word_kept : goal.returns-in-Err-clause-word_kept
returns-in-Err-clause-word_kept g c = c.commit.ensures.word_kept.0 ∙ ap (λ (v : CountedView _). v.word) (c.self.view_is ∙ c.tell.ensures.same)

pub invariant_of-self : goal.invariant_of-self
invariant_of-self g c = (
  c.commit.ensures.word_kept.0 ∙ (c.self.invariant.0 ∙ ap g.N.Names.words (sym c.commit.ensures.number)),
  returns-in-Err-clause-listed g c,
  subst (λ (n : ℕ). IsRisen g.D.Disk (get_or g.N.Names.named.faults.desks n 0) c.commit.new.self.desk.disk c.commit.new.self.desk.shut) (sym c.commit.ensures.number)
      (risen_refused g.D.Disk (get_or g.N.Names.named.faults.desks c.self.inside.desk.desk.number 0) c.self.inside.desk.desk c.commit.new.self.desk c.self.invariant.2
      c.in-Err.fault c.args.command c.args.signers c.in-Err.ensures.refused c.commit.ensures.later),
  doubted_refused g.D.Disk c.args.command c.args.signers c.self.inside.desk.desk c.commit.new.self.desk c.self.invariant.3 c.in-Err.fault c.in-Err.ensures.refused,
  limit_same g.N.Names.named c.self.inside.desk.desk c.commit.new.self.desk
      (refused_same g.D.Disk c.in-Err.fault c.args.command c.args.signers c.self.inside.desk.desk c.commit.new.self.desk c.in-Err.ensures.refused).0 c.commit.ensures.number c.self.invariant.4,
)

pub invariant_of-self-2 : goal.invariant_of-self-2
invariant_of-self-2 g c = (
  c.commit.ensures.word_kept.0 ∙ (c.self.invariant.0 ∙ ap g.N.Names.words (sym c.commit.ensures.number)),
  returns-clause-listed g c,
  subst (λ (n : ℕ). IsRisen g.D.Disk (get_or g.N.Names.named.faults.desks n 0) c.commit.new.self.desk.disk c.commit.new.self.desk.shut) (sym c.commit.ensures.number)
      (risen_open g.D.Disk (get_or g.N.Names.named.faults.desks c.self.inside.desk.desk.number 0) c.self.inside.desk.desk c.commit.new.self.desk c.self.invariant.2 c.in-Ok.ensures.open.0 c.commit.ensures.later),
  doubted_none c.commit.new.self.desk c.in-Ok.ensures.open.0 c.in-Ok.ensures.open.1,
  limit_taken g.N.Names.named c.self.inside.desk.desk c.commit.new.self.desk c.args.command c.in-Ok.ensures.place.fits c.in-Ok.ensures.recorded,
)
