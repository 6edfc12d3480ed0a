use Rattle.press_core.proofs.Shown.{anchor_stands}
use Rattle.press_core.proofs.laws.published_editions_have_an_anchor.Goals as goal

pub returns : goal.returns
returns c = anchor_stands
