use Rattle.std.proofs.Common.{◌≡◌, map, take}
use Rattle.issue_drafts.specs.Drafts.{serial_behind}
use Rattle.issue_drafts.specs.Views.{draft_of}
use Rattle.issue_drafts.specs.Serials.{given_serial}
use Rattle.issue_drafts.proofs.serials.give_serials.Given as goal

abbrev pub invariant-loop-draft : goal.invariant-loop-draft
invariant-loop-draft l = record {
  given : l.given.items ≡ map (λ d. given_serial (map draft_of l.drafts) (draft_of d)) (take l.draft-index l.drafts);
  next : l.next.items ≡ map (serial_behind (take l.draft-index (map draft_of l.drafts))) l.rows;
}
