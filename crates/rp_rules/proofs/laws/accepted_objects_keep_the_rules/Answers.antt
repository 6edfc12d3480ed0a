use Rattle.rp_rules.proofs.Lasting.{anchor-rules, certificate-rules, manifest-rules, crl-rules, point-rules, roa-rules}
use Rattle.rp_rules.proofs.laws.accepted_objects_keep_the_rules.Goals as goal

pub returns-clause-anchors : goal.returns-clause-anchors
returns-clause-anchors c = anchor-rules

pub returns-clause-certificates : goal.returns-clause-certificates
returns-clause-certificates c = certificate-rules

pub returns-clause-manifests : goal.returns-clause-manifests
returns-clause-manifests c = manifest-rules

pub returns-clause-crls : goal.returns-clause-crls
returns-clause-crls c = crl-rules

pub returns-clause-points : goal.returns-clause-points
returns-clause-points c = point-rules

pub returns-clause-roas : goal.returns-clause-roas
returns-clause-roas c = roa-rules
