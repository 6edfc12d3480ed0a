use Rattle.std.proofs.Common.{◌≡◌, ◌∙◌, ◌<◌, ◌+◌, ◌++◌, ◌∷◌, [], ℕ, suc, Bool, List, Some, length, ap, sym, subst, arith, rules, take}
use Rattle.std.proofs.lemmas.Option.{slice_get_read}
use Rattle.std.proofs.lemmas.List.{take_all}
use Rattle.std.specs.Prelude.{slice_get}
use Rattle.authority_book.specs.declared.rows.NameRow.{NameRow}
use Rattle.authority_book.specs.Settings.{Settings}
use Rattle.desk_core.specs.View.{View}
use Rattle.json_api.specs.declared.texts.ListLine.{ListLine}
use Rattle.krill_top.specs.DeskStates.{settings_at}
use Rattle.krill_top.specs.Reads.{list_lines}
use Rattle.krill_top.specs.DesksInStates.{AreIn}
use Rattle.krill_top.proofs.Standing.{At, at_place, settings_there}
use Rattle.krill_top.proofs.Reading.{list_lines_push}
use Rattle.krill_top.proofs.desks.Desks.list_lines.Goals as goal

pub loop-place-preserved : goal.loop-place-preserved
loop-place-preserved g c desk_states all =
    let D : Type 0 = g.row.D.Denot in
    let place = c.loop-place.place in
    let rows = c.names-names.result.now in
    let row = c.index-names-place.result in
    let desks = c.self.inside.desks.items in
    let desk = c.index.result.now in
    let inside : place < length rows = omega (arith, c.loop-place-test.true, c.loop-place.auto.place-end) in
    let here : slice_get desks place ≡ Some desk = slice_get_read desks 64 place desk (sym c.self.invariant) (omega (arith, inside, c.names-names.ensures.limit)) c.index.ensures in
    let at : At desk_states place desk = at_place desks desk_states place desk (subst (λ (l : List (View D)). AreIn l desk_states) (sym c.self.view_is) all) here in
    let deleted : c.is_deleted-deleted.result ≡ (settings_at desk_states place).deleted =
    c.is_deleted-deleted.ensures ∙ ap (λ (s : Settings). s.deleted) (c.config.ensures ∙ settings_there desk_states place desk at) in
    let next : suc place ≡ place + 1 = omega arith in
    let pushed : c.push.new.self.items ≡ c.loop-place.lines.items ++ record { name = row.name; deleted = c.is_deleted-deleted.result } ∷ [] = search rules in
    pushed
    ∙ ap (λ (l : List ListLine). l ++ record { name = row.name; deleted = c.is_deleted-deleted.result } ∷ []) (c.loop-place.invariant desk_states all)
    ∙ ap (λ (b : Bool). list_lines desk_states 0 (take place rows) ++ record { name = row.name; deleted = b } ∷ []) deleted
    ∙ ap (λ (r : NameRow). list_lines desk_states 0 (take place rows) ++ record { name = r.name; deleted = (settings_at desk_states place).deleted } ∷ []) c.index-names-place.is
    ∙ sym (list_lines_push desk_states 0 rows place place row (omega arith) inside)
    ∙ ap (λ (n : ℕ). list_lines desk_states 0 (take n rows)) next

pub returns : goal.returns
returns g c desk_states all =
    let rows = c.names-names.result.now in
    c.loop-place.invariant desk_states all
    ∙ ap (λ (l : List NameRow). list_lines desk_states 0 l) (take_all c.loop-place.place rows (omega (arith, c.loop-place-test.false, c.loop-place.auto.place-end)) ∙ c.names-names.ensures.names desk_states all)
