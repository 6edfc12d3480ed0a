-- What the making of an edition puts.
use Rattle.std.proofs.Common.{◌≡◌, ◌≢◌, ℕ, Option, Some, List, ◌++◌, map, sym, ap, subst, ◌∙◌}
use Rattle.std.specs.Prelude.{All, AllPairs, Contains, IsPermutation}
use Rattle.std.proofs.lemmas.List.{map-append}
use Rattle.std.proofs.lemmas.List.Elements.{All-contains}
use Rattle.std.proofs.lemmas.List.Sorted.{IsPermutation-sym, IsPermutation-trans, IsPermutation-append_left, IsPermutation-append_right, Contains-permutation}
use Rattle.der.specs.Part.{IsInput}
use Rattle.pub_set.specs.declared.steps.Change.{Change}
use Rattle.pub_set.specs.Objects.{found_at}
use Rattle.pub_set.specs.Changes.{uri_of, change_at}
use Rattle.key_roll.specs.declared.rows.KeyRow.{KeyRow}
use Rattle.issue_drafts.specs.IssueInput.{IssueInput}
use Rattle.issue_drafts.specs.laws.UriOrder.{apart-permuted, found-some, found-there}
use Rattle.issue_drafts.specs.Drafts.{Draft, drafts, manifests}
use Rattle.issue_sign.specs.Objects.{Signed}
use Rattle.issue_make.specs.Trace.{IssuingTrace, IsIssuingTrace, made_of, final_bytes, put_of, withdrawal_at, or_else, wanted_at}
use Rattle.issue_make.specs.ObjectPlan.{puts}
use Rattle.editions.specs.PlannedAndMade.{CanBeRead}
use Rattle.items.specs.laws.ElementLaws.{into-map, from-map, map-map, pairs-front}

abbrev pub draft_at : Signed → Draft
draft_at x = x.draft

abbrev pub uri_at : Signed → List ℕ
uri_at x = x.draft.uri

module _ (s : IssueInput) (live : List KeyRow) (trace : IssuingTrace) (is_trace : IsIssuingTrace s live trace)
    (once : AllPairs (λ a b. a ≢ b)
    (map (λ d. d.uri) (puts s trace.keys) ++ s.work.withdrawn)) where
  -- Each draft is made, in another order.
  drafted : IsPermutation (puts s trace.keys) (map draft_at (made_of trace))
  drafted =
      let made : List Draft = map draft_at trace.objects in
      let listed : List Draft = map draft_at trace.listed in
      let first : IsPermutation (drafts s trace.keys ++ manifests s trace.keys)
      (made ++ manifests s trace.keys) =
      IsPermutation-append_left (manifests s trace.keys) (drafts s trace.keys) made
      is_trace.objects.permutation in
      let second : IsPermutation (made ++ manifests s trace.keys) (made ++ listed) =
      IsPermutation-append_right made (manifests s trace.keys) listed is_trace.listed.permutation in
      subst (IsPermutation (puts s trace.keys))
      (sym (map-append draft_at trace.objects trace.listed))
      (IsPermutation-trans (puts s trace.keys) (made ++ manifests s trace.keys) (made ++ listed)
      first second)

  -- Each at a URI of its own.
  pub apart : AllPairs (λ a b. a ≢ b) (map uri_at (made_of trace))
  apart =
      let uris : List (List ℕ) = map (λ (d : Draft). d.uri) (puts s trace.keys) in
      subst (AllPairs (λ a b. a ≢ b))
      (sym (map-map draft_at (λ (d : Draft). d.uri) (made_of trace)))
      (apart-permuted (λ (d : Draft). d.uri) (puts s trace.keys) (map draft_at (made_of trace))
      drafted (pairs-front (λ a b. a ≢ b) uris s.work.withdrawn once))

  pub made-of : (d : Draft) → Contains (puts s trace.keys) d
      → (x : Signed) × Contains (made_of trace) x × (x.draft ≡ d)
  made-of d c =
      from-map draft_at (made_of trace) d
      (Contains-permutation (puts s trace.keys) (map draft_at (made_of trace)) d drafted c)

  pub draft-of : (x : Signed) → Contains (made_of trace) x → Contains (puts s trace.keys) x.draft
  draft-of x c =
      Contains-permutation (map draft_at (made_of trace)) (puts s trace.keys) x.draft
      (IsPermutation-sym (puts s trace.keys) (map draft_at (made_of trace)) drafted)
      (into-map draft_at (made_of trace) x c)

  pub found-put : (x : Signed) → Contains (made_of trace) x
      → found_at uri_at (put_of s trace) (made_of trace) x.draft.uri ≡ Some (put_of s trace x)
  found-put x c = found-there uri_at (put_of s trace) (made_of trace) x apart c

  module _ (changes : List Change)
      (each : (uri : List ℕ) → change_at changes uri ≡ wanted_at s trace uri) where
    put-at : (x : Signed) → Contains (made_of trace) x
        → change_at changes x.draft.uri ≡ Some (put_of s trace x)
    put-at x c =
        each x.draft.uri
        ∙ ap (λ (o : Option Change). or_else o (withdrawal_at s x.draft.uri)) (found-put x c)

    pub input-of : All CanBeRead changes → (x : Signed) → Contains (made_of trace) x
        → IsInput (final_bytes s trace x x.draft.kind)
    input-of readable x c =
        let found = found-some uri_of (λ (c : Change). c) changes x.draft.uri (put_of s trace x)
        (put-at x c) in
        subst CanBeRead found.3 (All-contains CanBeRead changes found.0 readable found.1)
