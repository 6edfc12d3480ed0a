use Rattle.std.proofs.Common.{◌≡◌, ◌++◌, take}
use Rattle.issue_drafts.proofs.touching.push_uris.Given as goal

abbrev pub invariant-loop-uri : goal.invariant-loop-uri
invariant-loop-uri l = l.uris.items ≡ l.fn.uris.items ++ take l.uri-index l.more
