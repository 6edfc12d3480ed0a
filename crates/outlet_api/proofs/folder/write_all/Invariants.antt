use Rattle.std.proofs.Common.{◌≡◌, ◌≤◌, ◌+◌, ◌-◌, length}
use Rattle.outlet_api.proofs.Drafting.{IsGrown}
use Rattle.outlet_api.proofs.folder.write_all.Given as goal

abbrev pub invariant-pieces : goal.invariant-pieces
invariant-pieces g l = record {
  within : l.done ≤ length l.bytes;
  grown : IsGrown l.bytes l.done (g.F.RawFolder.folder l.fn.folder) (g.F.RawFolder.folder l.folder);
  counted : g.F.RawFolder.fault_count l.folder ≡ g.F.RawFolder.fault_count l.fn.folder;
}

abbrev pub decreases-pieces : goal.decreases-pieces
decreases-pieces g l = (length l.bytes - l.done) + g.F.RawFolder.patience l.folder
