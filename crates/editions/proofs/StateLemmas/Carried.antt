-- Changes carried out, URI by URI.
use Rattle.std.proofs.Common.{◌≡◌, ℕ, true, false, cond, refl, sym, ◌∙◌, ap, List, [], ◌∷◌, Some, None}
use Rattle.std.specs.Prelude.{Option, option_map}
use Rattle.pub_set.specs.declared.objects.Object.{Object}
use Rattle.pub_set.specs.declared.steps.Change.{Change}
use Rattle.pub_set.specs.declared.steps.Change.TheVariants.{Put, Withdraw}
use Rattle.pub_set.specs.Objects.{is_same, found_at, content_at, uri_at, Rise}
use Rattle.pub_set.specs.Changes.{Contents, uri_of, left_by, after, after_all, change_at, IsApplied}
use Rattle.editions.specs.Joining.{at_uri, IsJoined}
use Rattle.editions.specs.Standing.{object_after}
use Rattle.pub_set.specs.laws.UriLaws.{same_is}
use Rattle.pub_set.specs.laws.LookupLaws.{none_above, rise-head, rise-tail}

-- What is told of the first thing at a URI is told of that thing.
told-of : {X V : Type 0} (key : X → List ℕ) (told : X → V) (xs : List X) (uri : List ℕ) → found_at key told xs uri ≡ option_map told (at_uri key xs uri)
told-of key told [] uri = refl
told-of key told (x ∷ xs) uri =
    elim (is_same (key x) uri) as (λ b. cond b (Some (told x)) (found_at key told xs uri) ≡ option_map told (cond b (Some x) (at_uri key xs uri))) [
      | true ↦ refl
      | false ↦ told-of key told xs uri
    ]

-- What a change leaves, if there is one.
abbrev pub left_at : Option Change → Option (List ℕ) → Option (List ℕ)
left_at None held = held
left_at (Some c) held = left_by c

carried-one : (c : Change) (rest : List Change) (held : Contents) (uri : List ℕ) → Rise uri_of (c ∷ rest) →
    left_at (change_at rest uri) (after held c uri) ≡ left_at (change_at (c ∷ rest) uri) (held uri)
carried-one c rest held uri up =
    elim (is_same (uri_of c) uri) as (λ b. is_same (uri_of c) uri ≡ b →
    left_at (change_at rest uri) (cond b (left_by c) (held uri)) ≡ left_at (cond b (Some c) (change_at rest uri)) (held uri)) [
      | true ↦ λ same.
          let here : uri_of c ≡ uri = same_is (uri_of c) uri same in
          let none : change_at rest uri ≡ None = rw (← here) (none_above uri_of (λ x. x) rest (uri_of c) (rise-head uri_of c rest up)) in
          rw none refl
      | false ↦ λ other. refl
    ] refl

carried : (changes : List Change) (held : Contents) (uri : List ℕ) → Rise uri_of changes →
    after_all held changes uri ≡ left_at (change_at changes uri) (held uri)
carried [] held uri up = refl
carried (c ∷ rest) held uri up = carried rest (after held c) uri (rise-tail uri_of c rest up) ∙ carried-one c rest held uri up

content-after : (held : Option Object) (change : Option Change) → option_map (λ o. o.bytes) (object_after held change) ≡ left_at change (option_map (λ o. o.bytes) held)
content-after held None = refl
content-after held (Some (Put uri bytes replaces)) = refl
content-after held (Some (Withdraw uri hash)) = refl

-- Where each URI has what comes of its object and its change, the changes are carried out.
pub applied : (old new : List Object) (changes : List Change) → Rise uri_of changes →
    IsJoined (λ object. object.uri) uri_of (λ object. object.uri) object_after old changes new → IsApplied old changes new
applied old new changes up joined = λ uri.
    told-of uri_at (λ o. o.bytes) new uri
    ∙ (ap (option_map (λ (o : Object). o.bytes)) (joined.each uri)
    ∙ (content-after (at_uri uri_at old uri) (change_at changes uri)
    ∙ (ap (left_at (change_at changes uri)) (sym (told-of uri_at (λ o. o.bytes) old uri))
    ∙ sym (carried changes (content_at old) uri up))))
