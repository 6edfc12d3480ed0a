use Rattle.std.proofs.Common.{length}
use Rattle.json_api.proofs.Passes.{PassedMembers}
use Rattle.json_api.proofs.tokens.read_members.Given as goal

abbrev pub invariant-members : goal.invariant-members
invariant-members l = PassedMembers l.initial.reader l.reader l.slots

abbrev pub decreases-members : goal.decreases-members
decreases-members l = length l.reader
