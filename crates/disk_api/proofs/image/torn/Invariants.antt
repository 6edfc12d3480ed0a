use Rattle.std.proofs.Common.{◌≡◌, take}
use Rattle.disk_api.specs.Steps.{IsImageAfter}
use Rattle.disk_api.proofs.image.torn.Given as goal

abbrev pub invariant-loop-i : goal.invariant-loop-i
invariant-loop-i l = IsImageAfter l.fn.bytes.items (λ e. e ≡ l.fn.bytes.items) (take l.i l.steps) l.image.items
