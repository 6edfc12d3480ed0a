-- An ascending list, split at a URI.
use Rattle.std.proofs.Common.{◌≡◌, ℕ, ◌<◌, suc, refl, sym, ◌∙◌, ap, set, length, get_or, take, drop, drop-cons, List, [], ◌∷◌, ◌++◌, Some, None}
use Rattle.std.specs.Prelude.{Option, Ok, Err, insert, remove}
use Rattle.std.proofs.lemmas.List.{take-append-drop, set_split}
use Rattle.pub_set.specs.declared.objects.Object.{Object}
use Rattle.pub_set.specs.Objects.{uri_cmp, uri_at, IsAscending, IsBehind, IsBefore, IsPlace}
use Rattle.pub_set.specs.inner.Overlays.{IsPut, IsSkipped, PopsIf, StartsElse, objects_at}
use Rattle.pub_set.specs.laws.LookupLaws.{rise-left, rise-right, rise-head, rise-tail, below-middle, below_further, all_append}
use Rattle.pub_set.proofs.Contents.{content-put, ascending-put, before_from_starts}
use Rattle.pub_set.specs.laws.UriLaws.{tied_is}
use Rattle.std.specs.declared.cmp.Ordering.TheVariants.{Less, Equal}

-- The list has this at the URI, the one part before it, and the other behind it.
pub record IsSplit (os : List Object) (uri : List ℕ) (held : Option (List ℕ)) (xs ys : List Object) : Type 0 where
  pub is : os ≡ xs ++ (objects_at uri held ++ ys)
  pub first : IsAscending xs
  pub second : IsAscending ys
  pub below : IsBehind xs uri
  pub above : IsBefore ys uri

-- A list with an object in its middle.
pub split_around : (os xs : List Object) (o : Object) (ys : List Object) (uri : List ℕ) → IsAscending os → os ≡ xs ++ o ∷ ys → o.uri ≡ uri →
    IsSplit os uri (Some o.bytes) xs ys
split_around os xs o ys uri up is at =
    let whole : IsAscending (xs ++ o ∷ ys) = rw (← is) up in
    let tail : IsAscending (o ∷ ys) = rise-right uri_at xs (o ∷ ys) whole in
    let here : record { uri = o.uri; bytes = o.bytes } ∷ ys ≡ objects_at uri (Some o.bytes) ++ ys = ap (λ u. objects_at u (Some o.bytes) ++ ys) at in
    record {
      is = is ∙ ap (λ l. xs ++ l) here;
      first = rise-left uri_at xs (o ∷ ys) whole;
      second = rise-tail uri_at o ys tail;
      below = rw (← at) (below-middle uri_at xs o ys whole);
      above = rw (← at) (rise-head uri_at o ys tail);
    }

-- Where the URI has its place.
pub split_found : (os : List Object) (uri : List ℕ) (i : ℕ) (d : Object) → IsAscending os → IsPlace os uri (Ok i) →
    IsSplit os uri (Some (get_or os i d).bytes) (take i os) (drop (suc i) os)
split_found os uri i d up at =
    let within : i < length os = at.0 in
    split_around os (take i os) (get_or os i d) (drop (suc i) os) uri up
    (sym (take-append-drop i os) ∙ ap (λ l. take i os ++ l) (drop-cons os i d within)) (at.1 d)

-- Where it would stand.
pub split_missing : (os : List Object) (uri : List ℕ) (i : ℕ) → IsAscending os → IsPlace os uri (Err i) →
    IsSplit os uri None (take i os) (drop i os)
split_missing os uri i up at =
    let whole : IsAscending (take i os ++ drop i os) = rw take-append-drop up in
    record {
      is = sym (take-append-drop i os);
      first = rise-left uri_at (take i os) (drop i os) whole;
      second = rise-right uri_at (take i os) (drop i os) whole;
      below = at.1;
      above = at.2;
    }

-- The list with this at the URI in place of that.
pub put_split : (os xs ys new : List Object) (uri : List ℕ) (held left : Option (List ℕ)) → IsSplit os uri held xs ys →
    new ≡ xs ++ (objects_at uri left ++ ys) → IsPut os uri left new
put_split os xs ys new uri held left split is = record {
  ascending = rw is (ascending-put xs ys uri left split.first split.second split.below split.above);
  contents = λ at. rw (is, split.is) (content-put xs ys uri held left split.below split.above at);
}

-- The bytes of the object at a place are replaced.
pub put_over : (os : List Object) (uri : List ℕ) (i : ℕ) (item : Object) (bytes : List ℕ) → IsAscending os → IsPlace os uri (Ok i) →
    item ≡ get_or os i item → IsPut os uri (Some bytes) (set os i (record { uri = item.uri; bytes = bytes }))
put_over os uri i item bytes up at is =
    let named : item.uri ≡ uri = ap (λ (o : Object). o.uri) is ∙ at.1 item in
    put_split os (take i os) (drop (suc i) os) (set os i (record { uri = item.uri; bytes = bytes })) uri (Some (get_or os i item).bytes) (Some bytes)
    (split_found os uri i item up at)
    (set_split os i (record { uri = item.uri; bytes = bytes }) at.0 ∙ ap (λ u. take i os ++ (objects_at u (Some bytes) ++ drop (suc i) os)) named)

-- The object at a place is taken out.
pub put_out : (os : List Object) (uri : List ℕ) (i : ℕ) (item : Object) → IsAscending os → IsPlace os uri (Ok i) → IsPut os uri None (remove os i)
put_out os uri i item up at =
    put_split os (take i os) (drop (suc i) os) (remove os i) uri (Some (get_or os i item).bytes) None (split_found os uri i item up at) refl

-- An object is put at its place.
pub put_in : (os : List Object) (uri : List ℕ) (i : ℕ) (bytes : List ℕ) → IsAscending os → IsPlace os uri (Err i) →
    IsPut os uri (Some bytes) (insert os i (record { uri = uri; bytes = bytes }))
put_in os uri i bytes up at =
    put_split os (take i os) (drop i os) (insert os i (record { uri = uri; bytes = bytes })) uri None (Some bytes) (split_missing os uri i up at) refl

-- Where there is none, none is left.
pub put_none : (os : List Object) (uri : List ℕ) (i : ℕ) → IsAscending os → IsPlace os uri (Err i) → IsPut os uri None os
put_none os uri i up at = let split = split_missing os uri i up at in put_split os (take i os) (drop i os) os uri None None split split.is

-- A list in two parts with none, or one, at the URI between them.
pub split_between : (xs ys zs : List Object) (uri : List ℕ) (held : Option (List ℕ)) → IsAscending (xs ++ ys) → IsBehind xs uri →
    ys ≡ objects_at uri held ++ zs → IsAscending zs → IsBefore zs uri → IsSplit (xs ++ ys) uri held xs zs
split_between xs ys zs uri held up below is second above = record {
  is = ap (λ l. xs ++ l) is;
  first = rise-left uri_at xs ys up;
  second = second;
  below = below;
  above = above;
}

-- The first object is left out where it is at the URI.
pub skipped : (old new : List Object) (uri : List ℕ) (r : Option Object) → IsAscending old → StartsElse old uri Less → PopsIf old uri Equal r new →
    IsSkipped old uri new
skipped old new uri None up starts popped = record {
  held = None;
  is = sym popped.0;
  ascending = rw popped.0 up;
  above = rw popped.0 (before_from_starts old uri up starts popped.1);
}
skipped old new uri (Some o) up starts popped =
    let whole : IsAscending (o ∷ new) = rw (← popped.0) up in
    let same : o.uri ≡ uri = tied_is o.uri uri popped.1 in record {
      held = Some o.bytes;
      is = popped.0 ∙ ap (λ u. objects_at u (Some o.bytes) ++ new) same;
      ascending = rise-tail uri_at o new whole;
      above = rw (← same) (rise-head uri_at o new whole);
    }

-- Between what is moved and what is left, this is put at the URI.
pub put_between : (old xs ys zs new : List Object) (uri : List ℕ) (left : Option (List ℕ)) → IsAscending old → xs ++ ys ≡ old → IsBehind xs uri →
    IsSkipped ys uri zs → new ≡ xs ++ (objects_at uri left ++ zs) → IsPut old uri left new
put_between old xs ys zs new uri left up parts below skip is =
    rw (← parts) (put_split (xs ++ ys) xs zs new uri skip.held left
    (split_between xs ys zs uri skip.held (rw parts up) below skip.is skip.ascending skip.above) is)

-- What is moved, with an object at the URI behind it, is behind each later URI.
pub behind_push : (xs : List Object) (o : Object) (later : List ℕ) → IsBehind xs o.uri → uri_cmp o.uri later ≡ Less → IsBehind (xs ++ o ∷ []) later
behind_push xs o later below less =
    all_append (λ x. uri_cmp x.uri later ≡ Less) xs (o ∷ []) (below_further uri_at o.uri later xs less below) (less, tt)
