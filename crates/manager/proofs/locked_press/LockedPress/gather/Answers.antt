use Rattle.std.proofs.Common.{◌≤◌, ◌∙◌, ℕ, List, length, drop, sym, ap, subst}
use Rattle.editions.specs.Edition.{cut_at}
use Rattle.desk_core.specs.Counted.{CountedView}
use Rattle.desk_core.specs.Commands.{HasCommands}
use Rattle.manager.specs.Locked.{LockedValue}
use Rattle.manager.proofs.Seats.{seen_then, still_within}
use Rattle.manager.proofs.locked_press.LockedPress.gather.Goals as goal

pub from-from-requires : goal.from-from-requires
from-from-requires g c = still_within c.args.self.now.seats c.learn.new.self.seats c.args.place c.args.desk.now.desk.records c.requires.place c.learn.ensures.set

pub since-requires : goal.since-requires
since-requires g c =
    let seen = seen_then c.args.self.now.seats c.learn.new.self.seats c.args.place c.args.desk.now.desk.records c.requires.place c.learn.ensures.set in
    subst (λ (d : CountedView _). c.from-from.result ≤ length d.desk.records) (sym c.learn.ensures.same)
    (subst (λ (l : List (List ℕ)). c.from-from.result ≤ length l) seen c.from-from.ensures.held)

pub returns-clause-gathered : goal.returns-clause-gathered
returns-clause-gathered g c = λ commands has.
    let from = c.from-from.ensures.cut ∙ ap (λ (l : LockedValue _ _). cut_at l.press.press.at.cut c.args.place) c.learn.ensures.rest in
    let here = subst (λ (d : CountedView _). HasCommands d.desk commands) (sym c.learn.ensures.same) has in
    record {
      desk_is = c.number.ensures ∙ (ap (λ (d : CountedView _). d.desk.number) c.learn.ensures.same ∙ c.requires.desk);
      from_is = from;
      commands_are = c.new.ensures ∙ (c.in_ok-commands.ensures commands here ∙ ap (λ (n : ℕ). drop n commands) from);
    }
