use Rattle.std.proofs.Common.{◌≡◌, ◌<◌, List, refl, sym, ap, subst, ◌∙◌, arith}
use Rattle.std.specs.Prelude.{All, Some, slice_get}
use Rattle.std.proofs.lemmas.Option.{slice_get_read}
use Rattle.authority_book.specs.declared.rows.NameRow.{NameRow}
use Rattle.authority_book.specs.Settings.{Settings}
use Rattle.press_core.specs.Press.{PressValue}
use Rattle.test_histories.specs.declared.done.Done.{Done}
use Rattle.test_histories.specs.Standing.{IsAt}
use Rattle.test_histories.proofs.PressAt.{is_like, same_sizes}
use Rattle.test_histories.proofs.Published.{all_desks, whole_cut, within_desks, live_rows, gathered, accepted, names_signed, asked, refused, committed, committed_site}
use Rattle.test_histories.proofs.store.publish.Goals as goal

pub gather-requires-clause-all : goal.gather-requires-clause-all
gather-requires-clause-all g c = all_desks c.args.store.now.desks.items c.args.store.now.press c.args.done.now.items c.requires

pub gather-requires-clause-cut : goal.gather-requires-clause-cut
gather-requires-clause-cut g c = whole_cut c.args.store.now.desks.items c.args.store.now.press c.args.done.now.items c.requires

pub gather-requires-clause-within : goal.gather-requires-clause-within
gather-requires-clause-within g c = within_desks c.args.store.now.desks.items c.args.store.now.press c.args.done.now.items c.requires

pub prepare-requires-clause-gathered : goal.prepare-requires-clause-gathered
prepare-requires-clause-gathered g c = λ lifetimes lives.
    gathered c.args.store.now.desks.items c.args.store.now.press c.args.done.now.items c.requires c.in_ok-gathered.gathered.items c.in_ok-gathered.ensures

pub prepare-requires-clause-accepted : goal.prepare-requires-clause-accepted
prepare-requires-clause-accepted g c = λ lifetimes lives.
    accepted c.args.store.now.desks.items c.args.store.now.press c.args.done.now.items c.requires c.in_ok-gathered.gathered.items c.in_ok-gathered.ensures

pub prepare-requires-clause-live_signers : goal.prepare-requires-clause-live_signers
prepare-requires-clause-live_signers g c = λ lifetimes lives. live_rows c.args.store.now.desks.items c.args.store.now.press c.args.done.now.items c.requires

pub prepare-requires-clause-name_signers : goal.prepare-requires-clause-name_signers
prepare-requires-clause-name_signers g c = λ lifetimes lives.
    let desks = c.args.store.now.desks.items in
    let press = c.args.store.now.press in
    let done = c.args.done.now.items in
    let anchor = c.index.result.now in
    let there : slice_get desks 0 ≡ Some anchor = slice_get_read desks 64 0 anchor (sym (all_desks desks press done c.requires)) (omega arith) c.index.ensures in
    let signed : All (λ (name : NameRow). name.signer < 2) anchor.settings.names =
    subst (λ (names : List NameRow). All (λ (name : NameRow). name.signer < 2) names)
    (c.names.ensures.names ∙ ap (λ (s : Settings). s.names) c.config.ensures) (c.if-not-are_signed.ensures refl) in
    names_signed desks press done c.requires c.in_ok-gathered.gathered.items c.in_ok-gathered.ensures anchor there signed

pub returns-in_ok-note-in-Ok-clause-at : goal.returns-in_ok-note-in-Ok-clause-at
returns-in_ok-note-in-Ok-clause-at g c =
    let desks = c.args.store.now.desks.items in
    let press = c.args.store.now.press in
    let done = c.args.done.now.items in
    let groups = c.in_ok-gathered.gathered.items in
    let made = c.in-Ok.ensures in
    let mid = c.prepare.new.self in
    let one = c.commit-one.result in
    let new = c.commit-one.new.press in
    let like = is_like press mid made.kept made.journal made.signers.count in
    let site = ap (λ (p : PressValue). p.site) made.kept in
    let sizes = same_sizes press.journal mid.journal made.journal c.press-sizes.ensures.sizes in
    subst (λ (d : List Done). IsAt desks new d) (sym c.in_ok-note-in-Ok.ensures)
    (committed desks press done c.requires groups c.in_ok-gathered.ensures c.more_commands_stand.ensures.stands c.edition_records_go_on.ensures c.args.clock
    mid.press.ring c.in-Ok.prepared made.prepared mid like site sizes made.ready one new c.commit-one.ensures)

pub returns-in_ok-note-in-Ok-clause-site : goal.returns-in_ok-note-in-Ok-clause-site
returns-in_ok-note-in-Ok-clause-site g c =
    let desks = c.args.store.now.desks.items in
    let press = c.args.store.now.press in
    let done = c.args.done.now.items in
    let groups = c.in_ok-gathered.gathered.items in
    let made = c.in-Ok.ensures in
    let mid = c.prepare.new.self in
    let like = is_like press mid made.kept made.journal made.signers.count in
    let site = ap (λ (p : PressValue). p.site) made.kept in
    let sizes = same_sizes press.journal mid.journal made.journal c.press-sizes.ensures.sizes in
    committed_site desks press done c.requires groups c.in_ok-gathered.ensures c.more_commands_stand.ensures.stands c.edition_records_go_on.ensures c.args.clock
    mid.press.ring c.in-Ok.prepared made.prepared mid like site sizes made.ready c.commit-one.result c.commit-one.new.press c.commit-one.ensures

pub returns-in_ok-note-in-Err-clause-at : goal.returns-in_ok-note-in-Err-clause-at
returns-in_ok-note-in-Err-clause-at g c =
    let desks = c.args.store.now.desks.items in
    let press = c.args.store.now.press in
    let done = c.args.done.now.items in
    let kept = c.in-Err.ensures in
    let new = c.prepare.new.self in
    let like = is_like press new kept.kept kept.journal kept.signers.count in
    subst (λ (d : List Done). IsAt desks new d) (sym c.in_ok-note-in-Err.ensures)
    (refused desks new done (asked desks press done c.requires new like (ap (λ (p : PressValue). p.site) kept.kept)) c.code_of.result)
