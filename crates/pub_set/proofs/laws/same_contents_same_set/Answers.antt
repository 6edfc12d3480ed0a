use Rattle.pub_set.specs.declared.objects.Object.{Object}
use Rattle.pub_set.specs.Objects.{uri_at}
use Rattle.pub_set.proofs.Determined.{rise_determined}
use Rattle.pub_set.proofs.laws.same_contents_same_set.Goals as goal

pub returns : goal.returns
returns c = λ a b first second same. rise_determined uri_at (λ (o : Object). o.bytes) (λ x y uris bytes. λ i. record { uri = uris i; bytes = bytes i }) a b first second same
