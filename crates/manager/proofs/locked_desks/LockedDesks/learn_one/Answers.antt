use Rattle.std.proofs.Common.{◌∙◌, ◌<◌, ℕ, length, sym, ap, subst}
use Rattle.desk_core.specs.Counted.{CountedView}
use Rattle.manager.proofs.Seats.{seen_then}
use Rattle.manager.proofs.Gathering.{others_stay, as_many}
use Rattle.manager.proofs.locked_desks.LockedDesks.learn_one.Given as given
use Rattle.manager.proofs.locked_desks.LockedDesks.learn_one.Goals as goal

within : (g : given.Over) (c : goal.After-drop-guard g) → c.args.place < length c.args.press.now.seats
within g c = subst (λ (n : ℕ). c.args.place < n) (sym c.requires.press) c.requires.place

pub returns-clause-count : goal.returns-clause-count
returns-clause-count g c = as_many c.args.press.now.seats c.learn-2.new.self.seats c.args.place c.learn.new.desk.desk.records (within g c) c.learn-2.ensures.set

pub returns-clause-others : goal.returns-clause-others
returns-clause-others g c = others_stay c.args.press.now.seats c.learn-2.new.self.seats c.args.place c.learn.new.desk.desk.records (within g c) c.learn-2.ensures.set

pub returns-clause-alike : goal.returns-clause-alike
returns-clause-alike g c =
    seen_then c.args.press.now.seats c.learn-2.new.self.seats c.args.place c.learn.new.desk.desk.records (within g c) c.learn-2.ensures.set
    ∙ (ap (λ (d : CountedView _). d.desk.records) c.learn.ensures.same ∙ sym c.learn.ensures.whole)
