use Rattle.issue_values.proofs.Ended.{ends-anchor, ends-cer, ends-crl, ends-mft, ends-roa}
use Rattle.issue_values.proofs.uri_laws.kinds_are_told_apart.Goals as goal

pub returns-clause-anchor : goal.returns-clause-anchor
returns-clause-anchor c = ends-anchor

pub returns-clause-certificates : goal.returns-clause-certificates
returns-clause-certificates c = ends-cer

pub returns-clause-crls : goal.returns-clause-crls
returns-clause-crls c = ends-crl

pub returns-clause-manifests : goal.returns-clause-manifests
returns-clause-manifests c = ends-mft

pub returns-clause-roas : goal.returns-clause-roas
returns-clause-roas c = ends-roa
