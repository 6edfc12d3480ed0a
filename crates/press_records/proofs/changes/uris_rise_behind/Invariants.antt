use Rattle.std.proofs.Common.{◌≡◌, length}
use Rattle.pub_set.specs.Changes.{uri_of}
use Rattle.press_records.specs.Changes.{uris_rise_behind}
use Rattle.press_records.proofs.changes.uris_rise_behind.Given as goal

abbrev pub invariant-loop-first : goal.invariant-loop-first
invariant-loop-first l = uris_rise_behind (uri_of l.last) l.rest ≡ uris_rise_behind (uri_of l.fn.change) l.fn.changes

abbrev pub decreases-loop-first : goal.decreases-loop-first
decreases-loop-first l = length l.rest
