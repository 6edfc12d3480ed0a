-- A press behind its lock, over editions that were found.
use Rattle.outlet_api.specs.declared.outlet.Outlet.{Ghosts as OutletGhosts}
use Rattle.manager.specs.Named.{Named}
use Rattle.manager.specs.Locked.{LockedValue, IsLockedOver, IsLocked}

-- over those that it has
pub over : {D O : Type 0} (outlet_of : OutletGhosts O) (named : Named) (locked : LockedValue D O) (is : IsLocked outlet_of named locked) → IsLockedOver outlet_of named is.editions is.lists is.run is.calls locked
over outlet_of named locked is = is.each is.editions is.found
