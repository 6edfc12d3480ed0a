use Rattle.std.proofs.Common.{List, length, map, sym, ap, subst, ◌∙◌}
use Rattle.disk_api.specs.declared.memory.MemoryDisk.{MemoryDisk}
use Rattle.desk_core.specs.View.{View}
use Rattle.histories.specs.Devices.{opened}
use Rattle.test_histories.specs.Told.{lists_of}
use Rattle.test_histories.specs.Standing.{AreDesks}
use Rattle.test_histories.specs.Reopening.{IsPressAgain}
use Rattle.test_histories.proofs.store.reopen.Goals as goal

pub press_again-requires-clause-all : goal.press_again-requires-clause-all
press_again-requires-clause-all c = ap length c.as_slice.ensures.value ∙ c.in_ok-desks.ensures.all

pub press_again-requires-clause-stand : goal.press_again-requires-clause-stand
press_again-requires-clause-stand c =
    let devices = map opened (lists_of c.in_ok-desks.field-0.lists) in
    (devices, subst (λ (desks : List (View MemoryDisk)). AreDesks 0 desks devices) (sym c.as_slice.ensures.value) c.in_ok-desks.ensures.stand)

pub returns-clause-press : goal.returns-clause-press
returns-clause-press c =
    subst (λ (desks : List (View MemoryDisk)). IsPressAgain desks c.args.store.press c.in_ok-press.press) c.as_slice.ensures.value c.in_ok-press.ensures.again
