use Rattle.std.proofs.Common.{[], List, sym, subst}
use Rattle.disk_api.specs.declared.memory.MemoryDisk.{MemoryDisk}
use Rattle.desk_core.specs.View.{View}
use Rattle.test_histories.specs.Opened.{IsPressOpened}
use Rattle.test_histories.specs.Standing.{AreNew}
use Rattle.test_histories.proofs.Reopened.{new_at, new_devices}
use Rattle.test_histories.proofs.store.new_store.Goals as goal

pub new_press-requires-clause-stand : goal.new_press-requires-clause-stand
new_press-requires-clause-stand c =
    new_devices c.as_slice.result.now (subst (λ (desks : List (View MemoryDisk)). AreNew 0 desks) (sym c.as_slice.ensures.value) c.in_ok-desks.ensures.new)

pub returns-clause-at : goal.returns-clause-at
returns-clause-at c =
    let desks = c.in_ok-desks.desks.items in
    let press = c.in_ok-press.press in
    let is_opened = c.in_ok-press.ensures.opened in
    new_at desks press is_opened.0 c.in_ok-desks.ensures.new c.in_ok-desks.ensures.all
    (subst (λ (l : List (View MemoryDisk)). IsPressOpened l [] is_opened.0 press) c.as_slice.ensures.value is_opened.1)
