use Rattle.std.specs.Prelude.{codes}
use Rattle.issue_values.proofs.Told.{stem-once, flat-name}
use Rattle.issue_values.proofs.uri_laws.keys_are_told_apart.Goals as goal

pub returns-clause-certificates : goal.returns-clause-certificates
returns-clause-certificates c = λ site a b x y is other small low e.
    stem-once site a b x y (codes ".cer") (flat-name a is) (flat-name b other) small low e

pub returns-clause-crls : goal.returns-clause-crls
returns-clause-crls c = λ site a b x y is other small low e.
    stem-once site a b x y (codes ".crl") (flat-name a is) (flat-name b other) small low e

pub returns-clause-manifests : goal.returns-clause-manifests
returns-clause-manifests c = λ site a b x y is other small low e.
    stem-once site a b x y (codes ".mft") (flat-name a is) (flat-name b other) small low e
