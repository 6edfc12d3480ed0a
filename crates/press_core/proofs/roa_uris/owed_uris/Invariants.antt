use Rattle.std.proofs.Common.{take}
use Rattle.press_core.specs.inner.Resumed.{HasUris, owed_places}
use Rattle.press_core.proofs.roa_uris.owed_uris.Given as goal

abbrev pub invariant-loop-one : goal.invariant-loop-one
invariant-loop-one l = HasUris (owed_places l.site l.names (take l.one-index l.owed)) l.uris
