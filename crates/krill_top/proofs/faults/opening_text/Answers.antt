use Rattle.std.proofs.Common.{append_assoc}
use Rattle.krill_top.proofs.faults.opening_text.Goals as goal

pub returns-in-WrongCount : goal.returns-in-WrongCount
returns-in-WrongCount c = rw c.in-WrongCount.is (simp append_assoc c.format.ensures.ok)

pub returns-in-SiteDiffers : goal.returns-in-SiteDiffers
returns-in-SiteDiffers c = rw c.in-SiteDiffers.is (simp append_assoc c.format-in-SiteDiffers.ensures.ok)

pub returns-in-CutPast : goal.returns-in-CutPast
returns-in-CutPast c = rw c.in-CutPast.is (simp append_assoc c.format-in-CutPast.ensures.ok)
