use Rattle.std.proofs.Common.{length}
use Rattle.der.specs.Forms.{AreAll}
use Rattle.crl_obj.specs.Values.{IsEntry}
use Rattle.crl_obj.proofs.entries.are_entries.Given as goal

abbrev pub invariant-loop-first : goal.invariant-loop-first
invariant-loop-first l = record {
  there : AreAll IsEntry l.rest → AreAll IsEntry l.fn.entries;
  back : AreAll IsEntry l.fn.entries → AreAll IsEntry l.rest;
}

abbrev pub decreases-loop-first : goal.decreases-loop-first
decreases-loop-first l = length l.rest
