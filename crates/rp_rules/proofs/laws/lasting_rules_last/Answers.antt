use Rattle.rp_rules.proofs.Lasting.{anchor-lasts, certificate-lasts, manifest-lasts, crl-lasts, roa-lasts}
use Rattle.rp_rules.proofs.laws.lasting_rules_last.Goals as goal

pub returns-clause-anchors : goal.returns-clause-anchors
returns-clause-anchors c = anchor-lasts

pub returns-clause-certificates : goal.returns-clause-certificates
returns-clause-certificates c = certificate-lasts

pub returns-clause-manifests : goal.returns-clause-manifests
returns-clause-manifests c = manifest-lasts

pub returns-clause-crls : goal.returns-clause-crls
returns-clause-crls c = crl-lasts

pub returns-clause-roas : goal.returns-clause-roas
returns-clause-roas c = roa-lasts
