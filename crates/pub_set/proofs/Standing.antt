-- What changes leave of a list is a list.
use Rattle.std.proofs.Common.{◌≡◌, ℕ, refl, sym, ◌∙◌, ap, subst, List, [], ◌∷◌, ◌++◌, Some, None}
use Rattle.std.specs.Prelude.{Option}
use Rattle.std.specs.Ordering.{ordering_reverse}
use Rattle.std.specs.declared.cmp.Ordering.{Ordering}
use Rattle.std.specs.declared.cmp.Ordering.TheVariants.{Less, Equal, Greater}
use Rattle.pub_set.specs.declared.objects.Object.{Object}
use Rattle.pub_set.specs.declared.steps.Change.{Change}
use Rattle.pub_set.specs.Objects.{uri_cmp, uri_at, content_at, IsAscending, IsBefore}
use Rattle.pub_set.specs.Changes.{Contents, uri_of, left_by, after, after_all, set_at, IsApplied}
use Rattle.pub_set.specs.inner.Overlays.{objects_at}
use Rattle.pub_set.specs.laws.UriLaws.{uri_total, tied_is}
use Rattle.pub_set.specs.laws.LookupLaws.{rise-nil, rise-head, rise-tail, rise-left, above_further}
use Rattle.pub_set.proofs.Contents.{content-put, ascending-put}
use Rattle.pub_set.proofs.Splits.{IsSplit, split_around}

abbrev pub SplitAt : List Object → List ℕ → Type 0
SplitAt os uri = (held : Option (List ℕ)) × (xs : List Object) × (ys : List Object) × IsSplit os uri held xs ys

pub split_at : (os : List Object) (uri : List ℕ) → IsAscending os → SplitAt os uri
split_at [] uri up = (None, [], [], record { is = refl; first = rise-nil uri_at; second = rise-nil uri_at; below = tt; above = tt })
split_at (o ∷ os) uri up =
    elim (uri_cmp o.uri uri) as (λ c. uri_cmp o.uri uri ≡ c → SplitAt (o ∷ os) uri) [
      | Less ↦ λ less.
          let rest = split_at os uri (rise-tail uri_at o os up) in
          let is : o ∷ os ≡ (o ∷ rest.1) ++ (objects_at uri rest.0 ++ rest.2) = ap (λ (l : List Object). o ∷ l) rest.3.is in (
            rest.0,
            o ∷ rest.1,
            rest.2,
            record {
              is = is;
              first = rise-left uri_at (o ∷ rest.1) (objects_at uri rest.0 ++ rest.2) (subst IsAscending is up);
              second = rest.3.second;
              below = (less, rest.3.below);
              above = rest.3.above;
            },
          )
      | Equal ↦ λ tied. (Some o.bytes, [], os, split_around (o ∷ os) [] o os uri up refl (tied_is o.uri uri tied))
      | Greater ↦ λ more.
          let less : uri_cmp uri o.uri ≡ Less = uri_total.antisymm uri o.uri ∙ ap ordering_reverse more in (
            None,
            [],
            o ∷ os,
            record {
              is = refl;
              first = rise-nil uri_at;
              second = up;
              below = tt;
              above = (less, above_further uri_at uri o.uri os less (rise-head uri_at o os up));
            },
          )
    ] refl

pub one_applied : (os : List Object) (c : Change) → IsAscending os
    → (new : List Object) × IsAscending new × ((at : List ℕ) → content_at new at ≡ after (content_at os) c at)
one_applied os c up =
    let s = split_at os (uri_of c) up in
    let new = s.1 ++ (objects_at (uri_of c) (left_by c) ++ s.2) in (
      new,
      ascending-put s.1 s.2 (uri_of c) (left_by c) s.3.first s.3.second s.3.below s.3.above,
      λ at. content-put s.1 s.2 (uri_of c) s.0 (left_by c) s.3.below s.3.above at
          ∙ ap (λ (l : List Object). set_at (content_at l) (uri_of c) (left_by c) at) (sym s.3.is),
    )

same_after : (a b : Contents) (changes : List Change) → ((at : List ℕ) → a at ≡ b at) → (at : List ℕ) → after_all a changes at ≡ after_all b changes at
same_after a b changes same at = ap (λ (held : Contents). after_all held changes at) (λ i uri. same uri i)

pub all_applied : (os : List Object) (changes : List Change) → IsAscending os
    → (new : List Object) × IsAscending new × IsApplied os changes new
all_applied os [] up = (os, up, λ uri. refl)
all_applied os (c ∷ rest) up =
    let one = one_applied os c up in
    let all = all_applied one.0 rest one.1 in
    (all.0, all.1, λ uri. all.2 uri ∙ same_after (content_at one.0) (after (content_at os) c) rest one.2 uri)
