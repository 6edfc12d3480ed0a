use Rattle.issue_drafts.proofs.Ended.{Reached}
use Rattle.issue_drafts.proofs.revoking.ended_positions.Given as goal

abbrev pub invariant-loop-uri : goal.invariant-loop-uri
invariant-loop-uri l = Reached l.anchor l.uris l.issued l.uri-index l.from l.ended.items
