-- The place of a URI in an ascending list.
use Rattle.std.proofs.Common.{◌≡◌, ℕ, ◌+◌, ◌<◌, ◌≤◌, zero, suc, false, rules, refl, sym, ◌∙◌, ap, arith, length, get_or, take, drop, List, [], ◌∷◌, Some, None, inl, inr, ◌-◌}
use Rattle.std.specs.Prelude.{Result, Ok, Err, IsTrue, ◌↔◌}
use Rattle.std.specs.List.{AllByRecursion, AllWithin}
use Rattle.std.specs.List.Sorted.{IsBinarySearchResult, IsSearchInRange}
use Rattle.std.specs.Ordering.{is_lt, on, ordering_reverse}
use Rattle.std.specs.declared.cmp.Ordering.{Ordering}
use Rattle.std.specs.declared.cmp.Ordering.TheVariants.{Less, Equal, Greater}
use Rattle.std.proofs.lemmas.List.{take-append-drop, get_or_default}
use Rattle.std.proofs.lemmas.Bool.{cases_lt}
use Rattle.std.proofs.lemmas.List.Sorted.{searchable_from_sorted}
use Rattle.std.proofs.lemmas.Map.Keys.{Less-from_sorted}
use Rattle.pub_set.specs.declared.objects.Object.{Object}
use Rattle.pub_set.specs.Objects.{uri_cmp, uri_at, content_at, IsAscending, IsBehind, IsPlace}
use Rattle.pub_set.specs.laws.UriLaws.{uri_total, tied_is, below_from_above}
use Rattle.pub_set.specs.laws.LookupLaws.{none_above, none_below, found_at-append, found_at-place, all_at}

-- An ascending list is sorted by its URIs.
sorted_from_ascending : (os : List Object) → IsAscending os → (k : ℕ) (d : Object) → 0 ≤ k → k + 1 < length os →
    is_lt (uri_cmp (get_or os (k + 1) d).uri (get_or os k d).uri) ≡ false
sorted_from_ascending os up k d low high =
    let less = Less-from_sorted (on uri_at uri_cmp) os k (k + 1) d up (omega arith) high in
    ap is_lt (uri_total.antisymm (get_or os (k + 1) d).uri (get_or os k d).uri ∙ ap ordering_reverse less)

all_from_within : (P : Object → Type 0) (os : List Object) (n : ℕ) → n ≤ length os → AllWithin P os 0 n → AllByRecursion P (take n os)
all_from_within P os zero within all = tt
all_from_within P [] (suc n) within all = tt
all_from_within P (o ∷ os) (suc n) within all =
    (all 0 o (omega arith) (omega arith), all_from_within P os n (omega arith) (λ k d low high. all (suc k) d (omega arith) (omega arith)))

all_from_behind : (P : Object → Type 0) (os : List Object) (n : ℕ) → AllWithin P os n (length os) → AllByRecursion P (drop n os)
all_from_behind P [] zero all = tt
all_from_behind P [] (suc n) all = tt
all_from_behind P (o ∷ os) zero all =
    (all 0 o (omega arith) (omega arith), all_from_behind P os zero (λ k d low high. all (suc k) d (omega arith) (omega arith)))
all_from_behind P (o ∷ os) (suc n) all = all_from_behind P os n (λ k d low high. all (suc k) d (omega arith) (omega arith))

-- What a binary search finds is the place.
pub place_found : (os : List Object) (uri : List ℕ) (r : Result ℕ ℕ) → IsAscending os → IsSearchInRange r (length os) →
    IsBinarySearchResult (λ o. uri_cmp o.uri uri) os r → IsPlace os uri r
place_found os uri (Ok i) up bound at = (bound, λ d. tied_is (get_or os i d).uri uri (at d))
place_found os uri (Err i) up bound at =
    let parts = at (searchable_from_sorted uri_total (λ (o : Object). o.uri) os uri (sorted_from_ascending os up)) in (
      bound,
      all_from_within (λ o. uri_cmp o.uri uri ≡ Less) os i bound parts.0,
      all_from_behind (λ o. uri_cmp uri o.uri ≡ Less) os i (λ k d low high. below_from_above (get_or os k d).uri uri (parts.1 k d low high)),
    )

-- What is found at a place.
pub content-found : (os : List Object) (uri : List ℕ) (i : ℕ) (d : Object) → IsAscending os → IsPlace os uri (Ok i) →
    content_at os uri ≡ Some (get_or os i d).bytes
content-found os uri i d up at =
    let same = at.1 d in
    rw (← same) (found_at-place uri_at (λ o. o.bytes) os i d up at.0)

pub content-missing : (os : List Object) (uri : List ℕ) (i : ℕ) → IsPlace os uri (Err i) → content_at os uri ≡ None
content-missing os uri i at =
    ap (λ l. content_at l uri) (sym (take-append-drop i os))
    ∙ (found_at-append uri_at (λ o. o.bytes) (take i os) (drop i os) uri
    ∙ rw (none_below uri_at (λ o. o.bytes) (take i os) uri at.1) (none_above uri_at (λ o. o.bytes) (drop i os) uri at.2))

-- The last object decides whether a URI comes behind all.
pub behind_last : (os : List Object) (uri : List ℕ) (d : Object) → IsAscending os → 0 < length os →
    uri_cmp (get_or os (length os - 1) d).uri uri ≡ Less → IsBehind os uri
behind_last os uri d up some less =
    all_from_behind (λ o. uri_cmp o.uri uri ≡ Less) os 0 (λ k e low high.
    let last : get_or os (length os - 1) e ≡ get_or os (length os - 1) d = get_or_default os (length os - 1) e d (omega arith) in
    elim (cases_lt k (length os - 1)) [
      | inl below ↦ uri_total.trans (get_or os k e).uri (get_or os (length os - 1) e).uri uri
          (Less-from_sorted (on uri_at uri_cmp) os k (length os - 1) e up below (omega arith)) (rw last less)
      | inr at ↦ let here : k ≡ length os - 1 = omega arith in rw (here, last) less
    ])

less_iff : (o : Ordering) → IsTrue (is_lt o) ↔ (o ≡ Less)
less_iff Less = (λ h. refl, λ h. search rules)
less_iff Equal = (λ h. absurd (search rules), λ h. cc)
less_iff Greater = (λ h. absurd (search rules), λ h. cc)

pub behind_iff_last : (os : List Object) (uri : List ℕ) (last : Object) → IsAscending os → 0 < length os → last ≡ get_or os (length os - 1) last →
    IsTrue (is_lt (uri_cmp last.uri uri)) ↔ IsBehind os uri
behind_iff_last os uri last up some is = (
  λ yes. behind_last os uri last up some (rw (← is) ((less_iff (uri_cmp last.uri uri)).0 yes)),
  λ behind. (less_iff (uri_cmp last.uri uri)).1 (rw is (all_at (λ o. uri_cmp o.uri uri ≡ Less) os (length os - 1) last behind (omega arith))),
)
