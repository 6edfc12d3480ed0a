use Rattle.std.proofs.Common.{◌≡◌, map, take}
use Rattle.issue_drafts.specs.WorkKeys.{keys_at}
use Rattle.issue_drafts.specs.Publishers.{subject_key}
use Rattle.issue_drafts.proofs.key_publishers.subject_keys.Given as goal

abbrev pub invariant-loop-cert : goal.invariant-loop-cert
invariant-loop-cert l =
    l.keys.items ≡ map (subject_key (keys_at l.rows l.finder.first_fresh)) (take l.cert-index l.certs)
