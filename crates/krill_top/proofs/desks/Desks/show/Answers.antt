use Rattle.std.proofs.Common.{◌≡◌, ℕ, List, Some, ◌∙◌, sym, subst}
use Rattle.std.proofs.lemmas.Option.{slice_get_read}
use Rattle.std.specs.Prelude.{slice_get, Option}
use Rattle.authority_book.specs.Settings.{Settings}
use Rattle.desk_core.specs.View.{View}
use Rattle.krill_top.specs.Reads.{IsShownText, IsShowTextAt}
use Rattle.krill_top.specs.DesksInStates.{AreIn}
use Rattle.krill_top.proofs.Standing.{At, at_place, settings_there}
use Rattle.krill_top.proofs.Answering.{if_ok_so}
use Rattle.krill_top.proofs.desks.Desks.show.Goals as goal

pub returns-in-Some : goal.returns-in-Some
returns-in-Some g c = if_ok_so c.shown.result _ _ c.shown.ensures (λ text is desk_states all.
    let D : Type 0 = g.row.D.Denot in
    let place = c.in-Some.place in
    let desks = c.self.inside.desks.items in
    let desk = c.index.result.now in
    let name = c.args.name.now in
    let sheet = c.args.sheet.now in
    let here : slice_get desks place ≡ Some desk = slice_get_read desks 64 place desk (sym c.self.invariant) c.in-Some.ensures.there c.index.ensures in
    let at : At desk_states place desk = at_place desks desk_states place desk (subst (λ (l : List (View D)). AreIn l desk_states) (sym c.self.view_is) all) here in
    subst (λ (o : Option ℕ). IsShowTextAt o desk_states sheet name text.items) (c.in-Some.ensures.named desk_states all)
    (subst (λ (s : Settings). IsShownText name s sheet place text.items) (c.config.ensures ∙ settings_there desk_states place desk at) is))
