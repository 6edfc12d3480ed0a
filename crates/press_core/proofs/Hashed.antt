-- The table after a prepared edition tells the hash of what stands at each URI, where the one before it did.
use Rattle.std.proofs.Common.{◌≡◌, ◌≢◌, ℕ, ◌≤◌, Bool, true, false, cond, Option, None, Some, List, [], ◌∷◌, ◌++◌, length, map, refl, sym, ap, subst, ◌∙◌, arith, inl, inr}
use Rattle.std.specs.Prelude.{AllPairs, Any, Contains, IsPermutation, option_map}
use Rattle.std.specs.List.{list_any}
use Rattle.std.specs.Str.{bytes_eq}
use Rattle.std.proofs.lemmas.Option.{same_Some, none-some}
use Rattle.std.proofs.lemmas.List.{length-map, map-append}
use Rattle.std.proofs.lemmas.List.Elements.{All-contains}
use Rattle.std.proofs.lemmas.List.Sorted.{IsPermutation-trans, IsPermutation-append_left, IsPermutation-append_right}
use Rattle.items.specs.laws.ElementLaws.{first-or-rest, into-map, from-map, map-map, pairs-cons, pairs-front, no-more}
use Rattle.sha2.specs.Sha256.{sha256}
use Rattle.signer_api.specs.State.{SignerState}
use Rattle.pub_set.specs.declared.objects.Object.{Object}
use Rattle.pub_set.specs.declared.steps.Change.{Change}
use Rattle.pub_set.specs.declared.steps.Change.TheVariants.{Withdraw}
use Rattle.pub_set.specs.Objects.{found_at, content_at, is_same, Rise}
use Rattle.pub_set.specs.Changes.{Contents, IsApplied, uri_of, left_by, after, after_all, change_at}
use Rattle.pub_set.specs.laws.UriLaws.{same_is}
use Rattle.pub_set.specs.laws.LookupLaws.{none_above, rise-head, rise-tail}
use Rattle.key_roll.specs.declared.rows.KeyRow.{KeyRow}
use Rattle.key_roll.specs.declared.issued.IssuedRow.{IssuedRow}
use Rattle.issue_drafts.specs.IssueInput.{IssueInput}
use Rattle.issue_drafts.specs.Drafts.{Draft, drafts, manifests}
use Rattle.issue_drafts.specs.laws.UriOrder.{apart-from-rise, apart-permuted, found-some, found-there}
use Rattle.issue_make.specs.ObjectPlan.{puts}
use Rattle.issue_make.specs.Trace.{IssuingTrace, IsIssuingTrace, IsIssued, made_of, hash_at, put_of, withdrawal_at, or_else, final_bytes}
use Rattle.editions.specs.Standing.{IsTableAfter, row_at, row_after}
use Rattle.press_core.specs.PrepareInput.{PrepareInput}
use Rattle.press_core.specs.Next.{NextValue}
use Rattle.press_core.specs.Planned.{IsPrepared, issue_input_for}
use Rattle.press_core.specs.Tables.{IsHashed}

abbrev row_uri : IssuedRow → List ℕ
row_uri row = row.uri

abbrev row_hash : IssuedRow → List ℕ
row_hash row = row.hash

-- ---- what is told at a URI

-- The hash at a URI is that of the row there.
hash-of-row : (rows : List IssuedRow) (uri : List ℕ) → found_at row_uri row_hash rows uri ≡ option_map row_hash (row_at rows uri)
hash-of-row [] uri = refl
hash-of-row (row ∷ rows) uri = by (is_same row.uri uri) (hash-of-row rows uri)
  where
    by : (b : Bool) → found_at row_uri row_hash rows uri ≡ option_map row_hash (row_at rows uri)
        → cond b (Some row.hash) (found_at row_uri row_hash rows uri) ≡ option_map row_hash (cond b (Some row) (row_at rows uri))
    by true e = refl
    by false e = e

-- What the change at a URI leaves there.
abbrev left_at : Option (List ℕ) → Option Change → Option (List ℕ)
left_at held None = held
left_at held (Some change) = left_by change

-- Changes by rising URI leave at each URI what the one there leaves.
after-at : (changes : List Change) (held : Contents) (uri : List ℕ) → Rise uri_of changes
    → after_all held changes uri ≡ left_at (held uri) (change_at changes uri)
after-at [] held uri up = refl
after-at (change ∷ rest) held uri up =
    after-at rest (after held change) uri (rise-tail uri_of change rest up) ∙ by (is_same (uri_of change) uri) refl
  where
    by : (b : Bool) → is_same (uri_of change) uri ≡ b
        → left_at (cond b (left_by change) (held uri)) (change_at rest uri) ≡ left_at (held uri) (cond b (Some change) (change_at rest uri))
    by true same =
        let none : change_at rest uri ≡ None =
        subst (λ (u : List ℕ). change_at rest u ≡ None) (same_is (uri_of change) uri same)
        (none_above uri_of (λ (c : Change). c) rest (uri_of change) (rise-head uri_of change rest up)) in
        ap (left_at (left_by change)) none
    by false other = refl

-- What is withdrawn leaves nothing.
withdrawn-leaves : (s : IssueInput) (uri : List ℕ) (change : Change) → withdrawal_at s uri ≡ Some change → left_by change ≡ None
withdrawn-leaves s uri change = by (list_any (λ w. bytes_eq w uri) s.work.withdrawn) (hash_at s uri)
  where
    by : (b : Bool) (hash : Option (List ℕ)) → cond b (option_map (λ h. Withdraw uri h) hash) None ≡ Some change → left_by change ≡ None
    by true (Some hash) e = sym (ap left_by (same_Some (Withdraw uri hash) change e))
    by true None e = absurd (none-some change e)
    by false hash e = absurd (none-some change e)

-- ---- the rows of what is put

module _ {X : Type 0} (all : List X) (key : X → List ℕ) (bytes : X → List ℕ) (put : X → Change) (rows : List IssuedRow)
    (own-places : AllPairs (λ a b. a ≢ b) (map key all)) (rows-apart : AllPairs (λ a b. a ≢ b) (map row_uri rows)) (count : length rows ≡ length all)
    (issued-of : (x : X) → Contains all x → (row : IssuedRow) × Contains rows row × (row.uri ≡ key x) × (row.hash ≡ sha256 (bytes x)))
    (leaves : (x : X) → left_by (put x) ≡ Some (bytes x)) where
  row-of : (x : X) → Contains all x → (row : IssuedRow) × (row_at rows (key x) ≡ Some row) × (row.hash ≡ sha256 (bytes x))
  row-of x c =
      let own = issued-of x c in
      (own.0, ap (row_at rows) (sym own.2) ∙ found-there row_uri (λ (r : IssuedRow). r) rows own.0 rows-apart own.1, own.3)

  -- Each row is that of one object: there are no more rows than objects.
  object-at : (row : IssuedRow) → Contains rows row → (x : X) × Contains all x × (key x ≡ row.uri)
  object-at row c = by (found_at key (λ (x : X). x) all row.uri) refl
    where
      by : (o : Option X) → found_at key (λ (x : X). x) all row.uri ≡ o → (x : X) × Contains all x × (key x ≡ row.uri)
      by (Some x) found =
          let r = found-some key (λ (y : X). y) all row.uri x found in
          (r.0, r.1, r.2)
      by None found =
          let uris : List (List ℕ) = map key all in
          let other : (uri : List ℕ) → Contains uris uri → row.uri ≢ uri = λ uri inside same.
          let x = from-map key all uri inside in
          let here-found : found_at key (λ (y : X). y) all row.uri ≡ Some x.0 =
          ap (found_at key (λ (y : X). y) all) (same ∙ sym x.2) ∙ found-there key (λ (y : X). y) all x.0 own-places x.1 in
          none-some x.0 (sym found ∙ here-found) in
          let more : length (row.uri ∷ uris) ≤ length (map row_uri rows) =
          no-more (row.uri ∷ uris) (map row_uri rows) (pairs-cons row.uri uris other own-places)
          (λ uri inside. elim (first-or-rest row.uri uris uri inside) [
            | inl same ↦ subst (Contains (map row_uri rows)) same (into-map row_uri rows row c)
            | inr later ↦
                let x = from-map key all uri later in
                let r = issued-of x.0 x.1 in
                subst (Contains (map row_uri rows)) (r.2 ∙ x.2) (into-map row_uri rows r.0 r.1)
          ]) in
          let left : length (map row_uri rows) ≡ length rows = length-map rows row_uri in
          let right : length uris ≡ length all = length-map all key in
          absurd (omega (arith, more, left, right, count))

  -- Where nothing is put there is no row of what was put.
  no-row : (uri : List ℕ) → found_at key put all uri ≡ None → row_at rows uri ≡ None
  no-row uri none = by (row_at rows uri) refl
    where
      by : (o : Option IssuedRow) → row_at rows uri ≡ o → row_at rows uri ≡ None
      by None e = e
      by (Some row) e =
          let r = found-some row_uri (λ (x : IssuedRow). x) rows uri row e in
          let x = object-at r.0 r.1 in
          let there : found_at key put all uri ≡ Some (put x.0) =
          ap (found_at key put all) (sym (x.2 ∙ r.2)) ∙ found-there key put all x.0 own-places x.1 in
          absurd (none-some (put x.0) (sym none ∙ there))

  -- ---- the table behind it

  module _ (held next_set : List Object) (old table : List IssuedRow) (changes : List Change) (withdrawn : List ℕ → Option Change)
      (goes : (uri : List ℕ) (change : Change) → withdrawn uri ≡ Some change → left_by change ≡ None)
      (wanted : (uri : List ℕ) → change_at changes uri ≡ or_else (found_at key put all uri) (withdrawn uri)) (up : Rise uri_of changes)
      (hashes : IsHashed held old) (applied : IsApplied held changes next_set) (behind : IsTableAfter old changes rows table) where
    abbrev IsToldAt : List ℕ → Type 0
    IsToldAt uri = option_map row_hash (row_after (row_at old uri) (change_at changes uri) (row_at rows uri))
        ≡ option_map sha256 (left_at (content_at held uri) (change_at changes uri))

    where-put : (uri : List ℕ) (change : Change) → found_at key put all uri ≡ Some change → IsToldAt uri
    where-put uri change e =
        let found = found-some key put all uri change e in
        let x = found.0 in
        let row = row-of x found.1 in
        let there : row_at rows uri ≡ Some row.0 = ap (row_at rows) (sym found.2) ∙ row.1 in
        let changed : change_at changes uri ≡ Some (put x) =
        wanted uri ∙ ap (λ (o : Option Change). or_else o (withdrawn uri)) (e ∙ ap (λ (c : Change). Some c) (sym found.3)) in
        ap (λ (o : Option IssuedRow). option_map row_hash (row_after (row_at old uri) (change_at changes uri) o)) there
        ∙ (ap (λ (h : List ℕ). Some h) row.2
        ∙ sym (ap (λ (o : Option Change). option_map sha256 (left_at (content_at held uri) o)) changed
        ∙ ap (option_map sha256) (leaves x)))

    elsewhere : (uri : List ℕ) → found_at key put all uri ≡ None → IsToldAt uri
    elsewhere uri e = by (withdrawn uri) refl
      where
        changed : change_at changes uri ≡ withdrawn uri
        changed = wanted uri ∙ ap (λ (o : Option Change). or_else o (withdrawn uri)) e

        here : (o : Option Change) → withdrawn uri ≡ o
            → option_map row_hash (row_after (row_at old uri) o None) ≡ option_map sha256 (left_at (content_at held uri) o) → IsToldAt uri
        here o is-it told =
            ap (λ (own : Option IssuedRow). option_map row_hash (row_after (row_at old uri) (change_at changes uri) own)) (no-row uri e)
            ∙ (ap (λ (c : Option Change). option_map row_hash (row_after (row_at old uri) c None)) (changed ∙ is-it)
            ∙ (told ∙ sym (ap (λ (c : Option Change). option_map sha256 (left_at (content_at held uri) c)) (changed ∙ is-it))))

        by : (o : Option Change) → withdrawn uri ≡ o → IsToldAt uri
        by None none = here None none (sym (hash-of-row old uri) ∙ hashes uri)
        by (Some change) some = here (Some change) some (sym (ap (option_map sha256) (goes uri change some)))

    told-at : (uri : List ℕ) → IsToldAt uri
    told-at uri = by (found_at key put all uri) refl
      where
        by : (o : Option Change) → found_at key put all uri ≡ o → IsToldAt uri
        by (Some change) e = where-put uri change e
        by None e = elsewhere uri e

    goes-on : IsHashed next_set table
    goes-on uri =
        hash-of-row table uri
        ∙ (ap (option_map row_hash) (behind.each uri)
        ∙ (told-at uri ∙ sym (ap (option_map sha256) (applied uri ∙ after-at changes (content_at held) uri up))))

-- ---- of what is made

map-both : {X : Type 0} (xs ys : List X) (f : X → Draft) → map f (xs ++ ys) ≡ map f xs ++ map f ys
map-both xs ys f = map-append f xs ys

uris-of : {X : Type 0} (xs : List X) (f : X → Draft) → map (λ x. (f x).uri) xs ≡ map (λ d. d.uri) (map f xs)
uris-of xs f = map-map f (λ (d : Draft). d.uri) xs

-- Each thing is made, in another order, and at a URI of its own.
places : (s : IssueInput) (live : List KeyRow) (trace : IssuingTrace) → IsIssuingTrace s live trace
    → AllPairs (λ a b. a ≢ b) (map (λ (d : Draft). d.uri) (puts s trace.keys) ++ s.work.withdrawn)
    → AllPairs (λ a b. a ≢ b) (map (λ x. x.draft.uri) (made_of trace))
places s live trace is once =
    let ones : List Draft = map (λ x. x.draft) trace.objects in
    let listed : List Draft = map (λ x. x.draft) trace.listed in
    let first : IsPermutation (drafts s trace.keys ++ manifests s trace.keys) (ones ++ manifests s trace.keys) =
    IsPermutation-append_left (manifests s trace.keys) (drafts s trace.keys) ones is.objects.permutation in
    let second : IsPermutation (ones ++ manifests s trace.keys) (ones ++ listed) =
    IsPermutation-append_right ones (manifests s trace.keys) listed is.listed.permutation in
    let drafted : IsPermutation (puts s trace.keys) (map (λ x. x.draft) (made_of trace)) =
    subst (IsPermutation (puts s trace.keys)) (sym (map-both trace.objects trace.listed (λ x. x.draft)))
    (IsPermutation-trans (puts s trace.keys) (ones ++ manifests s trace.keys) (ones ++ listed) first second) in
    subst (AllPairs (λ a b. a ≢ b)) (sym (uris-of (made_of trace) (λ x. x.draft)))
    (apart-permuted (λ (d : Draft). d.uri) (puts s trace.keys) (map (λ x. x.draft) (made_of trace)) drafted
    (pairs-front (λ a b. a ≢ b) (map (λ (d : Draft). d.uri) (puts s trace.keys)) s.work.withdrawn once))

pub hashes-go-on : (start : PrepareInput) (ring : List SignerState) (prepared : NextValue) → IsPrepared start ring prepared
    → IsHashed start.at.set start.at.issued → IsHashed prepared.next.set prepared.next.issued
hashes-go-on start ring prepared is hashes =
    let s = issue_input_for start is.made.work in
    let made = is.made.is_made in
    let trace = made.trace in
    let rows = is.made.made.issued in
    goes-on (made_of trace) (λ x. x.draft.uri) (λ x. final_bytes s trace x x.draft.kind) (put_of s trace) rows
    (places s start.at.rows trace made.is_trace (is.made.able.fits trace.keys made.is_trace.keys).once)
    (apart-from-rise row_uri rows made.listed) made.count
    (λ x c.
    let any = All-contains (λ y. Any (IsIssued s trace y) rows) (made_of trace) x made.issued c in
    (any.1, (any.0, any.2, any.3), any.4.uri, any.4.hash))
    (λ x. refl)
    start.at.set prepared.next.set start.at.issued prepared.next.issued is.made.made.changes (withdrawal_at s)
    (withdrawn-leaves s) made.changes made.rising hashes
    (subst (λ (changes : List Change). IsApplied start.at.set changes prepared.next.set) is.made.changes is.next.set) is.made.table
