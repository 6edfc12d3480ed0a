use Rattle.std.proofs.Common.{ℕ, List, subst}
use Rattle.disk_api.specs.Memory.{IsImage}
use Rattle.disk_api.specs.declared.memory.MemoryDisk.{MemoryDisk}
use Rattle.test_histories.specs.Opened.{IsPressOpened}
use Rattle.test_histories.proofs.PressOpening.{if_ok_so}
use Rattle.test_histories.proofs.press.press_again.Goals as goal

pub returns-clause-again : goal.returns-clause-again
returns-clause-again c =
    let image = c.in_ok-image.image.items in
    if_ok_so c.open_press.result _ _ c.open_press.ensures.opened (λ new so.
    record {
      file = image;
      left = c.close-disk.ensures.safe.images image (subst (λ (disk : MemoryDisk). IsImage disk image) c.close-disk.ensures.disk c.in_ok-image.ensures);
      editions = so.0;
      opened = subst (λ (file : List ℕ). IsPressOpened c.args.desks.now file so.0 new) c.disk_over.ensures so.1;
    })
