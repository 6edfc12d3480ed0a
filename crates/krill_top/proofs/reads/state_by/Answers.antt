use Rattle.std.proofs.Common.{◌≡◌, ◌∙◌, true, false, List, Bor, ap, sym, subst}
use Rattle.std.proofs.lemmas.Option.{same_Some}
use Rattle.std.specs.List.{list_any}
use Rattle.std.specs.Prelude.{Option, Some, option_copied}
use Rattle.res_sets.specs.Triples.{has}
use Rattle.origins.specs.declared.Origin.{Origin}
use Rattle.authority_book.specs.Origins.{is_there}
use Rattle.entitle.specs.Owed.{HasEach}
use Rattle.notice_board.specs.declared.sheets.SheetRow.{SheetRow}
use Rattle.krill_top.proofs.Reading.{has_numbers, found_there, state_of_published, pending_state, held_state}
use Rattle.krill_top.proofs.reads.state_by.Goals as goal

pub returns-in-Some : goal.returns-in-Some
returns-in-Some c =
    let origin = c.args.origin.now in
    let row = c.in-Some.row.now in
    let known : option_copied c.args.row ≡ Some row = ap (λ (r : Option (Bor SheetRow)). option_copied r) c.in-Some.is in
    let found : c.contains.result ≡ is_there row.published origin = c.contains.ensures.value ∙ ap (λ (l : List Origin). list_any (λ o. has_numbers o origin) l) c.as_slice.ensures ∙ found_there row.published origin in
    state_of_published (option_copied c.args.row) row origin known (sym found ∙ c.if-contains.true)

pub returns-in-Some-2 : goal.returns-in-Some-2
returns-in-Some-2 c =
    let origin = c.args.origin.now in
    let row = c.in-Some.row.now in
    let known : option_copied c.args.row ≡ Some row = ap (λ (r : Option (Bor SheetRow)). option_copied r) c.in-Some.is in
    let found : c.contains.result ≡ is_there row.published origin = c.contains.ensures.value ∙ ap (λ (l : List Origin). list_any (λ o. has_numbers o origin) l) c.as_slice.ensures ∙ found_there row.published origin in
    let same : c.in-Some-2.row.now ≡ row = same_Some c.in-Some-2.row.now row (sym (ap (λ (r : Option (Bor SheetRow)). option_copied r) c.in-Some-2.is) ∙ known) in
    pending_state (option_copied c.args.row) row origin known (sym found ∙ c.if-contains.false)
    (subst (λ (r : SheetRow). HasEach (has r.certified) origin.prefix) same (c.is_certified.ensures.0 c.if-is_certified.true))

pub returns-in_default : goal.returns-in_default
returns-in_default c =
    let origin = c.args.origin.now in
    let row = c.in-Some.row.now in
    let known : option_copied c.args.row ≡ Some row = ap (λ (r : Option (Bor SheetRow)). option_copied r) c.in-Some.is in
    let found : c.contains.result ≡ is_there row.published origin = c.contains.ensures.value ∙ ap (λ (l : List Origin). list_any (λ o. has_numbers o origin) l) c.as_slice.ensures ∙ found_there row.published origin in
    let same : c.in-Some-2.row.now ≡ row = same_Some c.in-Some-2.row.now row (sym (ap (λ (r : Option (Bor SheetRow)). option_copied r) c.in-Some-2.is) ∙ known) in
    held_state (option_copied c.args.row) row origin known (sym found ∙ c.if-contains.false)
    (λ each.
    let held : c.is_certified.result ≡ true = c.is_certified.ensures.1 (subst (λ (r : SheetRow). HasEach (has r.certified) origin.prefix) (sym same) each) in
    let none : true ≡ false = sym held ∙ c.if-is_certified.false in
    absurd (cc))
