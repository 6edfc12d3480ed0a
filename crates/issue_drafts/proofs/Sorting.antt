-- Drafts by rising URI.
use Rattle.std.proofs.Common.{◌≡◌, ◌≢◌, ℕ, List, [], ◌∷◌, map, refl, sym, ap, subst, ◌∙◌}
use Rattle.std.specs.List.{AllPairs}
use Rattle.std.specs.List.Sorted.{IsSortedBy, IsPermutation}
use Rattle.std.specs.Ordering.{is_lt}
use Rattle.std.proofs.lemmas.List.Sorted.{IsPermutation-map}
use Rattle.pub_set.specs.Objects.{uri_cmp}
use Rattle.issue_drafts.specs.Drafts.{Draft, AreOrdered}
use Rattle.issue_drafts.specs.laws.UriOrder.{rise-sorted, rise-map}

uris-seen : {X : Type 0} (view : X → Draft) (xs : List X) → map (λ d. d.uri) (map view xs) ≡ map (λ x. (view x).uri) xs
uris-seen view [] = refl
uris-seen view (x ∷ xs) = ap (λ (l : List (List ℕ)). (view x).uri ∷ l) (uris-seen view xs)

-- What a sort by URI leaves.
pub ordered-from : {X : Type 0} (view : X → Draft) (all : List Draft) (xs ys : List X) → map view xs ≡ all
    → AllPairs (λ a b. a ≢ b) (map (λ d. d.uri) all) → IsPermutation xs ys
    → IsSortedBy (λ a b. is_lt (uri_cmp (view a).uri (view b).uri)) ys → AreOrdered all (map view ys)
ordered-from {X} view all xs ys is once permutation sorted = record {
  permutation = subst (λ (l : List Draft). IsPermutation l (map view ys)) is (IsPermutation-map view xs ys permutation);
  rising = rise-map view (λ (d : Draft). d.uri) ys
      (rise-sorted (λ (x : X). (view x).uri) xs ys
      (subst (λ (l : List (List ℕ)). AllPairs (λ a b. a ≢ b) l)
      (sym (ap (map (λ (d : Draft). d.uri)) is) ∙ uris-seen view xs) once)
      permutation sorted);
}
