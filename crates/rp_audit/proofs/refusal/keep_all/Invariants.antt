use Rattle.std.proofs.Common.{◌≡◌, drop}
use Rattle.rp_audit.specs.inner.Told.{kept}
use Rattle.rp_audit.proofs.refusal.keep_all.Given as goal

abbrev pub invariant-loop-test : goal.invariant-loop-test
invariant-loop-test l = kept l.uri l.tests ≡ kept l.uri (drop l.test-index l.tests)
