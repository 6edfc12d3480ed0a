use Rattle.std.proofs.Common.{◌≡◌, ◌∙◌, ◌<◌, ℕ, List, length, sym, ap, subst}
use Rattle.std.proofs.lemmas.Result.{IfOk-weaker}
use Rattle.authority_book.specs.declared.commands.Command.{Command}
use Rattle.editions.specs.Edition.{cut_at}
use Rattle.desk_core.specs.Commands.{HasCommands}
use Rattle.desk_core.specs.Counted.{CountedView}
use Rattle.manager.specs.Lists.{seat_at}
use Rattle.manager.specs.Gathered.{IsSince}
use Rattle.manager.specs.Passes.{ComesTo}
use Rattle.manager.specs.inner.Gathering.{IsSinceSeen}
use Rattle.manager.proofs.Seats.{seen_then}
use Rattle.manager.proofs.Gathering.{since_seen, others_stay, as_many}
use Rattle.manager.proofs.locked_desks.LockedDesks.gather_one.Given as given
use Rattle.manager.proofs.locked_desks.LockedDesks.gather_one.Goals as goal

within : (g : given.Over) (c : goal.After-drop-guard g) → c.args.place < length c.args.press.now.seats
within g c = subst (λ (n : ℕ). c.args.place < n) (sym c.requires.press) c.requires.place

seen : (g : given.Over) (c : goal.After-drop-guard g) → (seat_at c.gather.new.self.seats c.args.place).seen ≡ c.learn.new.desk.desk.records
seen g c = seen_then c.args.press.now.seats c.gather.new.self.seats c.args.place c.learn.new.desk.desk.records (within g c) c.gather.ensures.set

pub returns-clause-count : goal.returns-clause-count
returns-clause-count g c = as_many c.args.press.now.seats c.gather.new.self.seats c.args.place c.learn.new.desk.desk.records (within g c) c.gather.ensures.set

pub returns-clause-others : goal.returns-clause-others
returns-clause-others g c = others_stay c.args.press.now.seats c.gather.new.self.seats c.args.place c.learn.new.desk.desk.records (within g c) c.gather.ensures.set

pub returns-clause-alike : goal.returns-clause-alike
returns-clause-alike g c = seen g c ∙ (ap (λ (d : CountedView _). d.desk.records) c.learn.ensures.same ∙ sym c.learn.ensures.whole)

pub returns-clause-since : goal.returns-clause-since
returns-clause-since g c =
    let desk = c.learn.new.desk.desk in
    let place = c.args.place in
    let cut = c.args.press.now.press.press.at.cut in
    IfOk-weaker c.gather.result (λ group. (commands : List Command) → HasCommands desk commands → IsSince place commands (cut_at cut place) group) (λ group. IsSinceSeen c.gather.new.self.seats cut place group)
    (λ group gives. since_seen c.commands_are_determined.ensures place c.gather.new.self.seats c.learn.new.self.seats desk cut group
    (ap (λ (d : CountedView _). d.desk.number) c.learn.ensures.same ∙ (ap (λ (d : CountedView _). d.desk.number) c.deref_mut-desk.ensures.value ∙ c.locked-guard.ensures))
    (seen g c)
    (c.learn.ensures.whole ∙ sym (ap (λ (d : CountedView _). d.desk.records) c.learn.ensures.same))
    (subst (λ (d : CountedView _). ComesTo c.learn.new.self.seats place d.desk.settings) (sym c.learn.ensures.same) c.learn.ensures.known) gives) c.gather.ensures.gathered
