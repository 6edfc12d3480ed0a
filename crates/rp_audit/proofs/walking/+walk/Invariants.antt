use Rattle.std.proofs.Common.{◌≡◌, ℕ, ◌+◌, ◌*◌, List, drop}
use Rattle.rp_rules.specs.Walk.{Visit, visited, visit_below}
use Rattle.rp_audit.specs.inner.Views.{context_of, held_in, authority_value, point_value}
use Rattle.rp_audit.specs.inner.Noted.{Sees}
use Rattle.rp_audit.proofs.FileSteps.{SoFar, others}
use Rattle.rp_audit.proofs.walking.+walk.Given as goal

abbrev pub decreases-visit_below : goal.decreases-visit_below
decreases-visit_below g l = 4 * l.levels

abbrev pub decreases-visit_authority : goal.decreases-visit_authority
decreases-visit_authority g l = 4 * l.levels + 1

abbrev pub decreases-visit_file : goal.decreases-visit_file
decreases-visit_file g l = 4 * l.levels + 2

abbrev pub decreases-visit_files : goal.decreases-visit_files
decreases-visit_files g l = 4 * l.levels + 3

pub record IsPart (same : Type 0) (done : Type 0) : Type 0 where
  pub stays : same
  pub so : done

abbrev pub invariant-visit_files-loop-file : goal.invariant-visit_files-loop-file
invariant-visit_files-loop-file g l = (visits : List Visit) → Sees (visited visits) l.initial.noted.visited_uris → IsPart (l.ring ≡ l.initial.ring)
    (SoFar (context_of l.scene l.initial.ring) (held_in l.scene) (visit_below l.levels (context_of l.scene l.initial.ring) (held_in l.scene))
    (point_value l.authority l.listing) visits (others (drop l.file-index l.listing.manifest.body.files.items)) l.initial.noted l.noted l.greatest)
