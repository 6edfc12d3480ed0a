use Rattle.std.proofs.Common.{take}
use Rattle.press_core.specs.inner.Resumed.{HasUris, yielded_places}
use Rattle.press_core.proofs.roa_uris.yielded_uris.Given as goal

abbrev pub invariant-loop-one : goal.invariant-loop-one
invariant-loop-one l = HasUris (yielded_places (take l.one-index l.found)) l.uris
