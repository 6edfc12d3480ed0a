-- What is found at a URI where the first thing may be the one at it.
use Rattle.std.proofs.Common.{◌≡◌, ℕ, true, false, cond, refl, List, ◌++◌, Some, None}
use Rattle.std.specs.Prelude.{Option}
use Rattle.std.specs.Option.{option_to_list}
use Rattle.pub_set.specs.Objects.{is_same, AllAbove}
use Rattle.editions.specs.Joining.{IsAt, at_uri}
use Rattle.pub_set.specs.laws.UriLaws.{same_self}
use Rattle.pub_set.specs.laws.LookupLaws.{none_above}

module _ {X : Type 0} (key : X → List ℕ) where
  -- The one at the URI, before those above it.
  pub found-here : (uri : List ℕ) (first : Option X) (xs : List X) → IsAt key uri first → AllAbove key xs uri → at_uri key (option_to_list first ++ xs) uri ≡ first
  found-here uri None xs is above = none_above key (λ x. x) xs uri above
  found-here uri (Some x) xs is above = rw (is, same_self uri) refl

  pub found-elsewhere : (uri : List ℕ) (first : Option X) (xs : List X) (at : List ℕ) → IsAt key uri first → is_same uri at ≡ false →
      at_uri key (option_to_list first ++ xs) at ≡ at_uri key xs at
  found-elsewhere uri None xs at is other = refl
  found-elsewhere uri (Some x) xs at is other = rw (is, other) refl

  pub found-alone : (uri : List ℕ) (first : Option X) (at : List ℕ) → IsAt key uri first → at_uri key (option_to_list first) at ≡ cond (is_same uri at) first None
  found-alone uri None at is = elim (is_same uri at) as (λ b. ◌≡◌ {A = Option X} None (cond b None None)) [ true ↦ refl | false ↦ refl ]
  found-alone uri (Some x) at is = rw is refl
