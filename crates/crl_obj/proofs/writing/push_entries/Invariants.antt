use Rattle.std.proofs.Common.{◌≡◌, ◌++◌, length}
use Rattle.der.specs.Forms.{AreAll, many}
use Rattle.crl_obj.specs.Values.{IsEntry}
use Rattle.crl_obj.specs.Formats.{entry}
use Rattle.crl_obj.proofs.writing.push_entries.Given as goal

abbrev pub invariant-loop-first : goal.invariant-loop-first
invariant-loop-first l = record {
  written : l.out.items ++ (many entry).spelling l.rest ≡ l.fn.out.items ++ (many entry).spelling l.fn.entries;
  entries : AreAll IsEntry l.rest;
}

abbrev pub decreases-loop-first : goal.decreases-loop-first
decreases-loop-first l = length l.rest
