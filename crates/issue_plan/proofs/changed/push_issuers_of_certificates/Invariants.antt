use Rattle.std.proofs.Common.{◌≡◌, ◌++◌, take}
use Rattle.std.specs.List.{filter_map}
use Rattle.issue_plan.specs.inner.Changed.{live_id}
use Rattle.issue_plan.proofs.changed.push_issuers_of_certificates.Given as goal

abbrev pub invariant-loop-cert : goal.invariant-loop-cert
invariant-loop-cert l =
    l.changed.items ≡ l.fn.changed.items ++ filter_map (λ cert. live_id cert.issuer) (take l.cert-index l.certs)
