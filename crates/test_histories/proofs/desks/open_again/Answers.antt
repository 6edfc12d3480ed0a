use Rattle.std.proofs.Common.{◌≡◌, ◌+◌, ◌<◌, ◌++◌, ◌∷◌, [], ℕ, List, length, map, sym, subst, ◌∙◌, ap, arith, append_assoc, vec_len, rules}
use Rattle.std.proofs.lemmas.List.{length-append, map-append}
use Rattle.disk_api.specs.declared.memory.MemoryDisk.{MemoryDisk}
use Rattle.authority_book.specs.declared.commands.Command.{Command}
use Rattle.desk_core.specs.View.{View}
use Rattle.desk_core.specs.Commands.{HasCommands}
use Rattle.test_histories.specs.Told.{lists_of}
use Rattle.test_histories.specs.Standing.{AreOpenedAgain, IsOpenedAgain}
use Rattle.test_histories.proofs.Lengths.{again_long}
use Rattle.test_histories.proofs.Reopened.{again_more, image_found, first_removed, none_left, stand_again}
use Rattle.test_histories.proofs.desks.open_again.Goals as goal

pub remove-closed-requires : goal.remove-closed-requires
remove-closed-requires c =
    let so_far = c.loop-number.invariant in
    let sum = ap length so_far.1 ∙ length-append so_far.0 c.loop-number.closing.items in
    let is_len : length c.loop-number.closing.items ≡ vec_len c.loop-number.closing = search rules in
    omega (arith, sum, so_far.2, c.requires, c.loop-number-test.true, is_len)

pub loop-number-preserved : goal.loop-number-preserved
loop-number-preserved c =
    let so_far = c.loop-number.invariant in
    let number = c.loop-number.number in
    let old = c.remove-closed.result in
    let rest = c.remove-closed.new.self.items in
    let new = c.in_ok-desk.desk in
    let is = c.in_ok-desk.ensures in
    let list = c.in_ok-list.list in
    let image = c.in_ok-image.image.items in
    let news = c.loop-number.opened.items in
    let found = image_found old.records old.doubt image new.records (c.close-disk.ensures.images image c.in_ok-image.ensures) is.found in
    let again : IsOpenedAgain number old new list.items = record {
      found = found;
      number_is = is.number;
      commands = subst (λ (l : List Command). HasCommands new l) (sym (c.in_ok-list.ensures is.commands.0 is.commands.1)) is.commands.1;
      settled = is.settled;
    } in
    let some : 0 < length c.loop-number.closing.items =
    let sum = ap length so_far.1 ∙ length-append so_far.0 c.loop-number.closing.items in
    omega (arith, sum, so_far.2, c.requires, c.loop-number-test.true) in
    let taken : c.loop-number.closing.items ≡ old ∷ rest =
    first_removed c.loop-number.closing.items rest old c.remove-closed.ensures.value c.remove-closed.ensures.items some in (
      so_far.0 ++ old ∷ [],
      so_far.1 ∙ ap (λ (l : List (View MemoryDisk)). so_far.0 ++ l) taken ∙ sym (append_assoc so_far.0 (old ∷ []) rest),
      length-append so_far.0 (old ∷ []) ∙ ap (λ (n : ℕ). n + 1) so_far.2,
      subst (λ (l : List (View MemoryDisk)). AreOpenedAgain 0 (so_far.0 ++ old ∷ []) l (lists_of c.push.new.self)) (sym c.in_ok-push-2.ensures.items)
          (subst (λ (l : List (List Command)). AreOpenedAgain 0 (so_far.0 ++ old ∷ []) (news ++ new ∷ []) l)
          (sym (ap (λ v. map (λ w. w.items) v) c.in_ok-push.ensures.items ∙ map-append (λ w. w.items) c.loop-number.lists.items (list ∷ [])))
          (again_more 0 so_far.0 news (lists_of c.loop-number.lists) number old new list.items so_far.3 again (omega (arith, so_far.2)))),
    )

pub returns-clause-found : goal.returns-clause-found
returns-clause-found c =
    let so_far = c.loop-number.invariant in
    let whole = none_left c.args.desks.items so_far.0 c.loop-number.closing.items c.loop-number.number 64 so_far.1 so_far.2 c.requires c.loop-number-test.false in
    subst (λ (olds : List (View MemoryDisk)). AreOpenedAgain 0 olds c.loop-number.opened.items (lists_of c.loop-number.lists)) whole so_far.3

pub returns-clause-all : goal.returns-clause-all
returns-clause-all c =
    again_long 0 c.args.desks.items c.loop-number.opened.items (lists_of c.loop-number.lists) (returns-clause-found c) ∙ c.requires

pub returns-clause-stand : goal.returns-clause-stand
returns-clause-stand c = stand_again 0 c.args.desks.items c.loop-number.opened.items (lists_of c.loop-number.lists) (returns-clause-found c)
