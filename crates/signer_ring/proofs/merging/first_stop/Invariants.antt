use Rattle.std.proofs.Common.{◌≡◌, ◌<◌, ℕ, length}
use Rattle.std.specs.Prelude.{slice_get, Some, OnOk, IfErr}
use Rattle.signer_ring.specs.declared.fault.RingFault.TheVariants.{Memory}
use Rattle.signer_ring.specs.inner.Working.{Told, NoFault, IsTold}
use Rattle.signer_ring.proofs.merging.first_stop.Given as goal

abbrev pub invariant-loop-number : goal.invariant-loop-number
invariant-loop-number l = record {
  end : l.number-end ≡ length l.told;
  none : (n : ℕ) (t : Told) → n < l.number → slice_get l.told n ≡ Some t → NoFault t;
  told : OnOk l.stop ((n : ℕ) (t : Told) → n < l.number → slice_get l.told n ≡ Some t → IsTold t);
  memory : IfErr l.stop (λ fault. fault ≡ Memory);
}
