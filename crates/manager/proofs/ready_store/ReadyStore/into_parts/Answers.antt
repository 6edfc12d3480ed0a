use Rattle.std.proofs.Common.{◌≡◌, ◌∙◌, ◌++◌, List, map, reverse, length, ap, arith}
use Rattle.std.proofs.lemmas.List.{reverse-reverse}
use Rattle.desk_core.specs.View.{View}
use Rattle.desk_core.specs.Counted.{CountedView}
use Rattle.manager.specs.Ready.{desk_in}
use Rattle.manager.proofs.ready_store.ReadyStore.into_parts.Goals as goal

pub give_back-requires : goal.give_back-requires
give_back-requires g c =
    let opened = c.args.self.opened.desks in
    let none = ap length c.requires.room.0 in
    omega (arith, none, c.requires.room.1, c.args.self.room.ok.0, opened.ok.0, c.reverse.ensures.len)

pub returns-clause-desks : goal.returns-clause-desks
returns-clause-desks g c =
    let turned : reverse c.reverse.new.self.items ≡ c.args.self.opened.desks.items = ap reverse c.reverse.ensures.items ∙ reverse-reverse c.args.self.opened.desks.items in
    c.give_back.ensures
    ∙ (ap (λ (l : List (View _)). l ++ map desk_in (reverse c.reverse.new.self.items)) c.requires.room.0 ∙ ap (λ (l : List (CountedView _)). map desk_in l) turned)
