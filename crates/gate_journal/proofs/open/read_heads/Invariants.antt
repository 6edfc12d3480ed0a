use Rattle.std.proofs.Common.{◌≤◌, ◌-◌, IfSome}
use Rattle.gate_journal.specs.inner.Reading.{IsWindow}
use Rattle.disk_api.specs.Runs.{Rests}
use Rattle.gate_journal.proofs.Opened.{HasRead}
use Rattle.gate_journal.proofs.Sizes.{AreInTurn}
use Rattle.gate_journal.proofs.open.read_heads.Given as goal

abbrev pub invariant-loop-places : goal.invariant-loop-places
invariant-loop-places g l = record {
  above : 16 ≤ l.at;
  within : l.at ≤ l.fn.len;
  turn : AreInTurn l.at l.places.items;
  window : IfSome (g.D.Disk.content l.fn.disk) (IsWindow l.window.start l.window.bytes.items);
  known : IfSome (g.D.Disk.content l.fn.disk) (λ bytes. HasRead l.fn.limit l.at l.places.items bytes);
  rests : Rests g.D.Disk l.fn.disk l.disk;
  later : g.D.Disk.fault_count l.fn.disk ≤ g.D.Disk.fault_count l.disk;
}

abbrev pub decreases-loop-places : goal.decreases-loop-places
decreases-loop-places g l = l.fn.len - l.at
