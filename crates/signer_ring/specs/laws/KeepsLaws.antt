-- What is vouched stays vouched, call after call.
use Rattle.std.specs.Prelude.{List}
use Rattle.std.proofs.Common.{refl, ◌∙◌}
use Rattle.signer_api.specs.State.{SignerState}
use Rattle.signer_ring.specs.Ring.{Keeps}

pub kept-all : (ring : List SignerState) → Keeps ring ring
kept-all ring = record { count = refl; told = λ h. h; vouched = λ k d s h. h }

pub kept-on : (old now after : List SignerState) → Keeps old now → Keeps now after → Keeps old after
kept-on old now after a b = record {
  count = b.count ∙ a.count;
  told = λ h. b.told (a.told h);
  vouched = λ k d s h. b.vouched k d s (a.vouched k d s h);
}
