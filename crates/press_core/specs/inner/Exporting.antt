-- What the press knows of the editions whose files it has.
use Rattle.std.specs.Prelude.{◌≡◌, ◌<◌, ◌^◌, List, length}
use Rattle.editions.specs.Edition.{Edition}
use Rattle.press_core.specs.Press.{PressValue}
use Rattle.press_core.specs.Files.{rrdp_editions}

-- They are as many as the last serial says, which is a number of the machine.
pub record IsCounted (editions : List Edition) (press : PressValue) : Type 0 where
  pub count : length (rrdp_editions editions) ≡ press.at.serial
  pub small : press.at.serial < 2 ^ 64
