-- URIs that are sorted, and what is found among them.
use Rattle.std.proofs.Common.{◌≡◌, ℕ, ◌<◌, ◌≤◌, ◌⊎◌, inl, inr, Bool, true, false, ◌||◌, List, []}
use Rattle.std.proofs.Common.{◌∷◌, ◌++◌, length, get_or, map, Result, Ok, Err, refl, sym, ap}
use Rattle.std.proofs.Common.{◌∙◌, arith}
use Rattle.std.specs.List.{list_any, All}
use Rattle.std.specs.List.Sorted.{IsPermutation, IsSearchInRange, IsBinarySearchResult, IsPartitionPoint}
use Rattle.std.specs.Ordering.{is_eq}
use Rattle.std.specs.Result.{is_ok}
use Rattle.std.specs.Str.{bytes_eq}
use Rattle.std.specs.declared.cmp.Ordering.TheVariants.{Less, Equal, Greater}
use Rattle.std.proofs.lemmas.Cmp.{nat_list_cmp_total}
use Rattle.std.proofs.lemmas.Bool.{cases_lt}
use Rattle.std.proofs.lemmas.List.{map-append}
use Rattle.std.proofs.lemmas.List.Folds.{list_any_at, list_any_none, list_any-append}
use Rattle.std.proofs.lemmas.List.Sorted.{searchable_from_sorted, list_any-IsPermutation}
use Rattle.std.proofs.lemmas.Map.Text.{is_eq-slice_cmp}
use Rattle.pub_set.specs.Objects.{uri_cmp}
use Rattle.issue_drafts.specs.IssueInput.{IssueInput}
use Rattle.issue_drafts.specs.Drafts.{Draft}
use Rattle.issue_drafts.specs.Touching.{has_uri, AreByUri, AreTouched}

-- ---- found by halves

same-uri : (a b : List ℕ) → uri_cmp a b ≡ Equal → bytes_eq a b ≡ true
same-uri a b e = sym (is_eq-slice_cmp a b) ∙ ap is_eq e

below-uri : (a b : List ℕ) → uri_cmp a b ≡ Less → bytes_eq a b ≡ false
below-uri a b e = sym (is_eq-slice_cmp a b) ∙ ap is_eq e

above-uri : (a b : List ℕ) → uri_cmp a b ≡ Greater → bytes_eq a b ≡ false
above-uri a b e = sym (is_eq-slice_cmp a b) ∙ ap is_eq e

none-there : (uris : List (List ℕ)) (uri : List ℕ) (n : ℕ)
    → IsPartitionPoint (λ (o : List ℕ). uri_cmp o uri ≡ Less) (λ (o : List ℕ). uri_cmp o uri ≡ Greater) uris n
    → All (λ (o : List ℕ). bytes_eq o uri ≡ false) uris
none-there uris uri n point k d lt = by (cases_lt k n)
  where
    by : (k < n) ⊎ (n ≤ k) → bytes_eq (get_or uris k d) uri ≡ false
    by (inl low) = below-uri (get_or uris k d) uri (point.0 k d (omega arith) low)
    by (inr high) = above-uri (get_or uris k d) uri (point.1 k d high lt)

pub found-there : (uris : List (List ℕ)) (uri : List ℕ) (r : Result ℕ ℕ) → AreByUri uris
    → IsSearchInRange r (length uris) → IsBinarySearchResult (λ (o : List ℕ). uri_cmp o uri) uris r
    → is_ok r ≡ has_uri uri uris
found-there uris uri (Ok i) sorted bound at =
    sym (list_any_at (λ (o : List ℕ). bytes_eq o uri) uris i [] bound (same-uri (get_or uris i []) uri (at [])))
found-there uris uri (Err i) sorted bound at =
    sym (list_any_none (λ (o : List ℕ). bytes_eq o uri) uris
    (none-there uris uri i (at (searchable_from_sorted nat_list_cmp_total (λ (o : List ℕ). o) uris uri sorted))))

-- ---- what is touched

pub any-map : {A B : Type 0} (p : B → Bool) (f : A → B) (xs : List A)
    → list_any p (map f xs) ≡ list_any (λ x. p (f x)) xs
any-map p f [] = refl
any-map p f (x ∷ xs) = ap (λ (b : Bool). p (f x) || b) (any-map p f xs)

pub touched-are : (s : IssueInput) (drafts manifests puts : List Draft) (uris sorted : List (List ℕ))
    → uris ≡ (map (λ (d : Draft). d.uri) drafts ++ map (λ (d : Draft). d.uri) manifests) ++ s.work.withdrawn
    → IsPermutation uris sorted → IsPermutation (drafts ++ manifests) puts → AreTouched s puts sorted
touched-are s drafts manifests puts uris sorted is moved others uri =
    let p : List ℕ → Bool = λ o. bytes_eq o uri in
    let of : Draft → List ℕ = λ d. d.uri in
    sym (list_any-IsPermutation p uris sorted moved)
    ∙ (ap (list_any p) is
    ∙ (list_any-append p (map of drafts ++ map of manifests) s.work.withdrawn
    ∙ ap (λ (b : Bool). b || list_any p s.work.withdrawn)
    (ap (list_any p) (sym (map-append of drafts manifests))
    ∙ (any-map p of (drafts ++ manifests) ∙ list_any-IsPermutation (λ (d : Draft). p d.uri)
    (drafts ++ manifests) puts others))))
