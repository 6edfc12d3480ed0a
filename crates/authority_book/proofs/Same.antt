-- Origins that compare as equal are one and the same.
use Rattle.std.proofs.Common.{◌≡◌, true, subst, List}
use Rattle.std.specs.Prelude.{◌↔◌, IsTrue, Contains}
use Rattle.std.proofs.lemmas.Map.Views.{tells_apart, Contains-from_any, list_any-from_Contains}
use Rattle.origins.specs.declared.Origin.{Origin}
use Rattle.origins.specs.laws.Ordered.{exact_origin}
use Rattle.authority_book.specs.Origins.{is_same, is_there}
use Rattle.authority_book.proofs.OriginOrder.{same_laws}

-- The test of sameness is equality.
pub is_same-iff : (a b : Origin) → IsTrue (is_same a b) ↔ (a ≡ b)
is_same-iff a b = (tells_apart exact_origin a b, λ e. subst (λ (x : Origin). is_same a x ≡ true) e (same_laws.refl a))

-- Membership by the test is membership.
pub is_there-iff : (origins : List Origin) (o : Origin) → IsTrue (is_there origins o) ↔ Contains origins o
is_there-iff origins o = (Contains-from_any (tells_apart exact_origin) o origins, list_any-from_Contains same_laws o origins)
