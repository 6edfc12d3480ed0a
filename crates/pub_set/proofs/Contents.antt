-- What stands at each URI once an object is put, replaced or taken out.
use Rattle.std.proofs.Common.{◌≡◌, ℕ, true, false, cond, refl, sym, ◌∙◌, ap, List, [], ◌∷◌, ◌++◌, Some, None}
use Rattle.std.specs.Prelude.{Option}
use Rattle.std.specs.Option.{option_or}
use Rattle.std.specs.declared.cmp.Ordering.{Ordering}
use Rattle.std.specs.declared.cmp.Ordering.TheVariants.{Less, Equal, Greater}
use Rattle.pub_set.specs.declared.objects.Object.{Object}
use Rattle.pub_set.specs.Objects.{uri_cmp, uri_at, is_same, content_at, IsAscending, IsBehind, IsBefore}
use Rattle.pub_set.specs.Changes.{set_at}
use Rattle.pub_set.specs.inner.Overlays.{StartsElse, objects_at}
use Rattle.pub_set.specs.laws.UriLaws.{same_is, same_self, below_from_above}
use Rattle.pub_set.specs.laws.LookupLaws.{none_above, none_below, found_at-append, rise-cons, rise-head, rise-between, rise-append, above_further, all_weaken}

pub content-append : (xs ys : List Object) (uri : List ℕ) → content_at (xs ++ ys) uri ≡ option_or (content_at xs uri) (content_at ys uri)
content-append xs ys uri = found_at-append uri_at (λ o. o.bytes) xs ys uri

pub content-here : (uri : List ℕ) (held : Option (List ℕ)) (ys : List Object) → IsBefore ys uri → content_at (objects_at uri held ++ ys) uri ≡ held
content-here uri None ys above = none_above uri_at (λ o. o.bytes) ys uri above
content-here uri (Some bytes) ys above = rw (same_self uri) refl

pub content-elsewhere : (uri : List ℕ) (held : Option (List ℕ)) (ys : List Object) (at : List ℕ) → is_same uri at ≡ false →
    content_at (objects_at uri held ++ ys) at ≡ content_at ys at
content-elsewhere uri None ys at other = refl
content-elsewhere uri (Some bytes) ys at other = rw other refl

-- Another object between those below a URI and those above it changes what stands there, and nothing else.
pub content-put : (xs ys : List Object) (uri : List ℕ) (was is : Option (List ℕ)) → IsBehind xs uri → IsBefore ys uri → (at : List ℕ) →
    content_at (xs ++ (objects_at uri is ++ ys)) at ≡ set_at (content_at (xs ++ (objects_at uri was ++ ys))) uri is at
content-put xs ys uri was is below above at =
    elim (is_same uri at) as (λ b. is_same uri at ≡ b →
    content_at (xs ++ (objects_at uri is ++ ys)) at ≡ cond b is (content_at (xs ++ (objects_at uri was ++ ys)) at)) [
      | true ↦ λ same.
          let here : uri ≡ at = same_is uri at same in
          ap (λ a. content_at (xs ++ (objects_at uri is ++ ys)) a) (sym here)
          ∙ (content-append xs (objects_at uri is ++ ys) uri
          ∙ rw (none_below uri_at (λ o. o.bytes) xs uri below) (content-here uri is ys above))
      | false ↦ λ other.
          content-append xs (objects_at uri is ++ ys) at
          ∙ (ap (option_or (content_at xs at)) (content-elsewhere uri is ys at other ∙ sym (content-elsewhere uri was ys at other))
          ∙ sym (content-append xs (objects_at uri was ++ ys) at))
    ] refl

pub ascending-put : (xs ys : List Object) (uri : List ℕ) (is : Option (List ℕ)) → IsAscending xs → IsAscending ys → IsBehind xs uri → IsBefore ys uri →
    IsAscending (xs ++ (objects_at uri is ++ ys))
ascending-put xs ys uri None first second below above = rise-between uri_at xs ys uri first second below above
ascending-put xs ys uri (Some bytes) first second below above =
    let o : Object = record { uri = uri; bytes = bytes } in
    rise-append uri_at xs (o ∷ ys) first (rise-cons uri_at o ys above second)
    (all_weaken (λ x. uri_cmp x.uri uri ≡ Less) (λ x. IsBefore (o ∷ ys) x.uri) (λ x h. (h, above_further uri_at x.uri uri ys h above)) xs below)

before_from_head : (o : Object) (os : List Object) (uri : List ℕ) → IsAscending (o ∷ os) → uri_cmp uri o.uri ≡ Less → IsBefore (o ∷ os) uri
before_from_head o os uri up less = (less, above_further uri_at uri o.uri os less (rise-head uri_at o os up))

remaining : (r : Ordering) → (r ≡ Less → ⊥) → (r ≡ Equal → ⊥) → r ≡ Greater
remaining Less one two = absurd (one refl)
remaining Equal one two = absurd (two refl)
remaining Greater one two = refl

-- An ascending list whose first object is neither below a URI nor at it is above it.
pub before_from_starts : (os : List Object) (uri : List ℕ) → IsAscending os → StartsElse os uri Less → StartsElse os uri Equal → IsBefore os uri
before_from_starts [] uri up not_less not_equal = tt
before_from_starts (o ∷ os) uri up not_less not_equal =
    before_from_head o os uri up (below_from_above o.uri uri (remaining (uri_cmp o.uri uri) not_less not_equal))
