use Rattle.std.proofs.Common.{◌≡◌, ◌∷◌, ◌++◌, [], List, length, sym, subst, ◌∙◌, arith, vec_len, rules}
use Rattle.std.specs.Prelude.{Some, slice_get, slice_set}
use Rattle.std.proofs.lemmas.Option.{slice_get_read}
use Rattle.authority_book.specs.declared.commands.Command.{Command}
use Rattle.test_histories.specs.declared.done.Done.{Done}
use Rattle.test_histories.specs.declared.done.Done.TheVariants.{Accepted, Failed}
use Rattle.test_histories.specs.Standing.{IsAt}
use Rattle.test_histories.proofs.Commanded.{accepted, refused}
use Rattle.test_histories.proofs.Published.{all_desks}
use Rattle.test_histories.proofs.store.give.Goals as goal

pub index_mut-requires : goal.index_mut-requires
index_mut-requires c =
    let desks = c.args.store.now.desks in
    let is_len : length desks.items ≡ vec_len desks = search rules in
    omega (arith, c.in_ok-place.ensures, is_len, all_desks desks.items c.args.store.now.press c.args.done.now.items c.requires)

pub returns-in_ok-note-in-Ok-clause-at : goal.returns-in_ok-note-in-Ok-clause-at
returns-in_ok-note-in-Ok-clause-at c =
    let desks = c.args.store.now.desks.items in
    let press = c.args.store.now.press in
    let done = c.args.done.now.items in
    let place = c.in_ok-place.place in
    let old = c.index_mut.result.now in
    let new = c.commit.new.self in
    let here : slice_get desks place ≡ Some old =
    slice_get_read desks 64 place old (sym (all_desks desks press done c.requires)) c.in_ok-place.ensures c.index_mut.ensures.value in
    let same : c.in_ok-told.told ≡ c.in_ok-given.given = c.in_ok-told.ensures ∙ sym c.in_ok-given.ensures in
    subst (λ (d : List Done). IsAt (slice_set desks place new) press d) (sym c.in_ok-note-in-Ok.ensures)
    (subst (λ (command : Command). IsAt (slice_set desks place new) press (done ++ Accepted place command ∷ [])) (sym same)
    (accepted c.more_commands_stand.ensures.stands desks press done c.requires place old here 2 new c.in_ok-given.given
    c.in-Ok.ensures.place c.in-Ok.ensures.commands c.in-Ok.ensures.open c.in-Ok.ensures.number))

pub returns-in_ok-note-in-Err-DiskFault-clause-at : goal.returns-in_ok-note-in-Err-DiskFault-clause-at
returns-in_ok-note-in-Err-DiskFault-clause-at c =
    let desks = c.args.store.now.desks.items in
    let press = c.args.store.now.press in
    let done = c.args.done.now.items in
    let place = c.in_ok-place.place in
    let old = c.index_mut.result.now in
    let new = c.commit.new.self in
    let here : slice_get desks place ≡ Some old =
    slice_get_read desks 64 place old (sym (all_desks desks press done c.requires)) c.in_ok-place.ensures c.index_mut.ensures.value in
    let same : c.in_ok-told.told ≡ c.in_ok-given.given = c.in_ok-told.ensures ∙ sym c.in_ok-given.ensures in
    subst (λ (d : List Done). IsAt (slice_set desks place new) press d) (sym c.in_ok-note-in-Err-DiskFault.ensures)
    (subst (λ (command : Command). IsAt (slice_set desks place new) press (done ++ Failed place command ∷ [])) (sym same)
    (refused c.more_commands_stand.ensures.stands desks press done c.requires place old here _ _ 2 new c.in_ok-given.given
    (rw c.in-Err-DiskFault.field-0-is at c.in-Err-DiskFault.ensures.refused)))
