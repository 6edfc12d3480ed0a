-- All that stood is wanted or withdrawn, so that nothing else stands than what is wanted; and where nothing is put or
-- withdrawn, what stood stays.
use Rattle.sha2.specs.Sha256.{sha256}
use Rattle.std.proofs.Common.{◌≡◌, ◌≢◌, ℕ, Bool, true, false, not, cond, Option, None, Some, List, ◌++◌, map, refl, sym, ap, subst, ◌∙◌, ◌⊎◌, inl, inr}
use Rattle.std.specs.Prelude.{All, AllPairs, Any, Contains, filter, is_some, option_map}
use Rattle.std.specs.List.{list_any}
use Rattle.std.specs.Str.{bytes_eq}
use Rattle.std.proofs.lemmas.List.Elements.{All-contains}
use Rattle.std.proofs.lemmas.List.Folds.{Any-from_list_any, list_any-from_Any}
use Rattle.std.proofs.lemmas.Slice.Eq.{bytes_eq-Decides}
use Rattle.key_roll.specs.declared.rows.KeyRow.{KeyRow}
use Rattle.key_roll.specs.declared.issued.IssuedRow.{IssuedRow}
use Rattle.pub_set.specs.declared.steps.Change.{Change}
use Rattle.pub_set.specs.declared.steps.Change.TheVariants.{Put, Withdraw}
use Rattle.pub_set.specs.Objects.{found_at}
use Rattle.pub_set.specs.Changes.{Contents, change_at, difference}
use Rattle.issue_plan.specs.Uris.{is_among, withdrawn}
use Rattle.issue_drafts.specs.WorkKeys.{Keys}
use Rattle.issue_drafts.specs.IssueInput.{IssueInput}
use Rattle.issue_drafts.specs.Drafts.{Draft}
use Rattle.issue_drafts.specs.laws.UriOrder.{apart-from-rise, found-some, found-there}
use Rattle.issue_make.specs.Trace.{IssuingTrace, IsIssuingTrace, made_of, hash_at, put_of, withdrawal_at, or_else, wanted_at}
use Rattle.issue_make.specs.ObjectPlan.{puts}
use Rattle.editions.specs.Edition.{AreChanges}
use Rattle.editions.specs.Table.{IsTable}
use Rattle.items.specs.laws.ElementLaws.{into-map, into-filter}
use Rattle.editions.proofs.MakingLemmas.Puts.{uri_at, draft-of}

-- ---- changes

no-put : (b : Bool) (hash : Option (List ℕ)) (uri at bytes : List ℕ) (replaces : Option (List ℕ))
    → cond b (option_map (λ h. Withdraw uri h) hash) None ≡ Some (Put at bytes replaces) → ⊥
no-put true None uri at bytes replaces e = absurd cc
no-put true (Some h) uri at bytes replaces e = absurd cc
no-put false hash uri at bytes replaces e = absurd cc

not-withdrawn : (b : Bool) (uri hash at bytes : List ℕ) (replaces : Option (List ℕ))
    → Some (Withdraw uri hash) ≡ cond b None (Some (Put at bytes replaces)) → ⊥
not-withdrawn true uri hash at bytes replaces e = absurd cc
not-withdrawn false uri hash at bytes replaces e = absurd cc

-- Nothing to change where nothing differs.
pub no-difference : (uri : List ℕ) (held wanted : Option (List ℕ)) → difference uri held wanted ≡ None
    → wanted ≡ held
no-difference uri None None e = refl
no-difference uri None (Some bytes) e = absurd cc
no-difference uri (Some was) None e = absurd cc
no-difference uri (Some was) (Some bytes) e = by-test (bytes_eq was bytes) refl e
  where
    by-test : (b : Bool) → bytes_eq was bytes ≡ b
        → cond b None (Some (Put uri bytes (Some (sha256 was)))) ≡ None
        → Some bytes ≡ Some was
    by-test true same is =
        ap (λ (l : List ℕ). Some l) (sym ((bytes_eq-Decides was bytes).0 same))
    by-test false same is = absurd cc

-- ---- what stood

module _ (s : IssueInput) (keys : Keys) (uris : List (List ℕ))
    (gone : s.work.withdrawn ≡ withdrawn uris s.issued) (objects : List Draft)
    (inside : (d : Draft) → Contains (puts s keys) d → Contains objects d)
    (wanted : All (λ uri. Any (λ d. d.uri ≡ uri) objects) uris) where
  -- An object is wanted at the URI.
  abbrev pub IsDrafted : List ℕ → Type 0
  IsDrafted uri = Any (λ d. d.uri ≡ uri) objects

  abbrev is_withdrawn : List ℕ → Bool
  is_withdrawn uri = list_any (λ w. bytes_eq w uri) s.work.withdrawn

  pub touched : (row : IssuedRow) → Contains s.issued row
      → IsDrafted row.uri ⊎ (is_withdrawn row.uri ≡ true)
  touched row c = by (is_among uris row.uri) refl
    where
      by : (b : Bool) → is_among uris row.uri ≡ b
          → IsDrafted row.uri ⊎ (is_withdrawn row.uri ≡ true)
      by true is =
          let any = Any-from_list_any (λ (other : List ℕ). bytes_eq other row.uri) uris is in
          let same : any.1 ≡ row.uri = (bytes_eq-Decides any.1 row.uri).0 any.4 in
          inl (subst IsDrafted same
          (All-contains IsDrafted uris any.1 wanted (any.0, any.2, any.3)))
      by false is =
          let there : Contains (withdrawn uris s.issued) row.uri =
          into-map (λ (r : IssuedRow). r.uri)
          (filter (λ (r : IssuedRow). not (is_among uris r.uri)) s.issued) row
          (into-filter (λ (r : IssuedRow). not (is_among uris r.uri)) s.issued row (ap not is) c) in
          let goes : Contains s.work.withdrawn row.uri =
          subst (λ (l : List (List ℕ)). Contains l row.uri) (sym gone) there in
          inr (list_any-from_Any (λ (w : List ℕ). bytes_eq w row.uri) s.work.withdrawn
          (goes.0, row.uri, goes.1, goes.2, (bytes_eq-Decides row.uri row.uri).1 refl))

  -- And what stands then is wanted.
  module _ (live : List KeyRow) (trace : IssuingTrace) (is_trace : IsIssuingTrace s live trace)
      (same : trace.keys ≡ keys)
      (once : AllPairs (λ a b. a ≢ b)
      (map (λ d. d.uri) (puts s trace.keys) ++ s.work.withdrawn))
      (before behind : Contents) (changes : List Change) (table : IsTable before s.issued)
      (are : AreChanges before behind changes)
      (each : (uri : List ℕ) → change_at changes uri ≡ wanted_at s trace uri) where
    hash-there : (row : IssuedRow) → Contains s.issued row → hash_at s row.uri ≡ Some row.hash
    hash-there row c =
        found-there (λ (r : IssuedRow). r.uri) (λ (r : IssuedRow). r.hash) s.issued row
        (apart-from-rise (λ (r : IssuedRow). r.uri) s.issued table.rising) c

    put-inside : (d : Draft) → Contains (puts s trace.keys) d → Contains (puts s keys) d
    put-inside d c = subst (λ (k : Keys). Contains (puts s k) d) same c

    pub stands-there : (uri bytes : List ℕ) → behind uri ≡ Some bytes → IsDrafted uri
    stands-there uri bytes stands =
        by (found_at uri_at (put_of s trace) (made_of trace) uri) refl
      where
        going : (row : IssuedRow) → Contains s.issued row → row.uri ≡ uri
            → is_withdrawn row.uri ≡ true
            → withdrawal_at s uri ≡ Some (Withdraw uri row.hash)
        going row c at goes =
            let hash : hash_at s uri ≡ Some row.hash =
            ap (hash_at s) (sym at) ∙ hash-there row c in
            let yes : is_withdrawn uri ≡ true = ap is_withdrawn (sym at) ∙ goes in
            ap (λ (b : Bool). cond b (option_map (λ h. Withdraw uri h) (hash_at s uri)) None) yes
            ∙ ap (option_map (λ h. Withdraw uri h)) hash

        stood : (held : Option (List ℕ)) → before uri ≡ held
            → withdrawal_at s uri ≡ difference uri held (Some bytes) → IsDrafted uri
        stood None was at = absurd (no-put (is_withdrawn uri) (hash_at s uri) uri uri bytes None at)
        stood (Some held) was at =
            let row = table.all uri (ap is_some was) in
            elim (touched row.0 row.1) [
              | inl any ↦ subst IsDrafted row.2 any
              | inr goes ↦ absurd (not-withdrawn (bytes_eq held bytes) uri row.0.hash uri bytes _
                  (sym (going row.0 row.1 row.2 goes) ∙ at))
            ]

        by : (o : Option Change)
            → found_at uri_at (put_of s trace) (made_of trace) uri ≡ o → IsDrafted uri
        by (Some c) found =
            let x = found-some uri_at (put_of s trace) (made_of trace) uri c found in
            let d = inside x.0.draft (put-inside x.0.draft (draft-of s live trace is_trace once x.0 x.1)) in
            (d.0, x.0.draft, d.1, d.2, x.2)
        by None found =
            let at : withdrawal_at s uri ≡ difference uri (before uri) (Some bytes) =
            sym (each uri ∙ ap (λ (o : Option Change). or_else o (withdrawal_at s uri)) found)
            ∙ (are.each uri ∙ ap (difference uri (before uri)) stands) in
            stood (before uri) refl at

-- ---- what stays

-- Where nothing is put or withdrawn nothing changes.
module _ (s : IssueInput) (live : List KeyRow) (trace : IssuingTrace) (is_trace : IsIssuingTrace s live trace)
    (once : AllPairs (λ a b. a ≢ b) (map (λ d. d.uri) (puts s trace.keys) ++ s.work.withdrawn)) (changes : List Change)
    (each : (uri : List ℕ) → change_at changes uri ≡ wanted_at s trace uri) where
  pub no-change : (uri : List ℕ) → ((d : Draft) → Contains (puts s trace.keys) d → d.uri ≢ uri)
      → list_any (λ w. bytes_eq w uri) s.work.withdrawn ≡ false → change_at changes uri ≡ None
  no-change uri away stays =
      each uri
      ∙ (ap (λ (o : Option Change). or_else o (withdrawal_at s uri))
      (by (found_at uri_at (put_of s trace) (made_of trace) uri) refl)
      ∙ ap (λ (b : Bool). cond b (option_map (λ h. Withdraw uri h) (hash_at s uri)) None) stays)
    where
      by : (o : Option Change) → found_at uri_at (put_of s trace) (made_of trace) uri ≡ o
          → found_at uri_at (put_of s trace) (made_of trace) uri ≡ None
      by None found = found
      by (Some c) found =
          let x = found-some uri_at (put_of s trace) (made_of trace) uri c found in
          absurd (away x.0.draft (draft-of s live trace is_trace once x.0 x.1) x.2)
