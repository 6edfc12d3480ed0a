-- A prepared edition puts just what doesn't fit, and takes the signatures of that.
use Rattle.std.proofs.Common.{◌≡◌, ℕ, suc, ◌+◌, ◌<◌, ◌^◌, Bool, true, false, cond, Option, None, Some, List, [], ◌∷◌, ◌++◌, length, map, option_map, refl, sym, ap, ap₂, subst, ◌∙◌, ◌⊎◌, inl, inr, arith}
use Rattle.std.specs.Prelude.{Any, IsPermutation}
use Rattle.std.specs.List.{list_any}
use Rattle.std.specs.Str.{bytes_eq}
use Rattle.std.proofs.lemmas.List.Sorted.{Contains-permutation, IsPermutation-append, IsPermutation-sym}
use Rattle.signer_api.specs.State.{SignerState}
use Rattle.items.specs.laws.AmongLaws.{In, in-map, map-in, contains-in, in-contains}
use Rattle.key_roll.specs.declared.rows.KeyRow.{KeyRow}
use Rattle.pub_set.specs.declared.steps.Change.{Change}
use Rattle.pub_set.specs.declared.steps.Change.TheVariants.{Withdraw}
use Rattle.pub_set.specs.Objects.{is_same, found_at}
use Rattle.pub_set.specs.laws.UriLaws.{same_self}
use Rattle.pub_set.specs.Changes.{change_at}
use Rattle.issue_plan.specs.Wanted.{PlanInput}
use Rattle.issue_drafts.specs.IssueInput.{IssueInput}
use Rattle.issue_drafts.specs.Drafts.{Draft, manifests}
use Rattle.issue_drafts.specs.laws.UriOrder.{found-some}
use Rattle.issue_make.specs.declared.made.Made.{Made}
use Rattle.issue_make.specs.CanMake.{CanMake}
use Rattle.issue_make.specs.Made.{IsMade}
use Rattle.issue_make.specs.Trace.{IssuingTrace, all_of, made_of, put_of, hash_at, withdrawal_at, or_else, wanted_at}
use Rattle.editions.specs.inner.PlanAndTable.{AreOfPlan}
use Rattle.editions.specs.Sparing.{given_by, signatures_for}
use Rattle.press_core.specs.PrepareInput.{PrepareInput}
use Rattle.press_core.specs.Next.{NextValue}
use Rattle.press_core.specs.Planned.{IsPrepared, issue_input_for}
use Rattle.press_core.specs.Incremental.{plan_input_for, unfit_objects, IsPut, IsIncremental}
use Rattle.press_core.proofs.Recorded.{IsKeysLaw}

-- The law on signatures of the layers below.
abbrev pub IsCountLaw : Type 0
IsCountLaw = (s : IssueInput) (live : List KeyRow) (old new : List SignerState) (made : Made) → CanMake s live (length old)
    → IsMade s live old new made → given_by old + signatures_for s.work < 2 ^ 64
    → given_by new ≡ given_by old + signatures_for s.work

-- ---- elements

any-in : {X : Type 0} (P : X → Type 0) (xs : List X) (x : X) → In x xs → P x → Any P xs
any-in P [] x at p = absurd at
any-in P (y ∷ xs) x (inl same) p = (0, y, omega arith, refl, subst P (sym same) p)
any-in P (y ∷ xs) x (inr at) p =
    let r = any-in P xs x at p in
    (suc r.0, r.1, let less = r.2 in omega arith, r.3, r.4)

in-any : {X : Type 0} (P : X → Type 0) (xs : List X) → Any P xs → (x : X) × In x xs × P x
in-any P xs any = (any.1, contains-in any.1 xs (any.0, any.2, any.3), any.4)

map-parts : {X Y : Type 0} (f : X → Y) (xs ys : List X) → map f (xs ++ ys) ≡ map f xs ++ map f ys
map-parts f [] ys = refl
map-parts f (x ∷ xs) ys = ap (λ l. f x ∷ l) (map-parts f xs ys)

-- ---- what is put

-- Of what is made and put at URIs something is found at the URI of each.
made-put : {X : Type 0} (uri-of : X → List ℕ) (put : X → Change) → ((x : X) → IsPut (Some (put x))) → (made : List X) (x : X)
    (uri : List ℕ) → In x made → uri-of x ≡ uri → (other : Option Change) → IsPut (or_else (found_at uri-of put made uri) other)
made-put uri-of put each [] x uri at is other = absurd at
made-put {X} uri-of put each (y ∷ made) x uri at is other =
    by (λ w. made-put uri-of put each made x uri w is other) (is_same (uri-of y) uri) refl at
  where
    by : (In x made → IsPut (or_else (found_at uri-of put made uri) other)) → (b : Bool) → is_same (uri-of y) uri ≡ b → (y ≡ x) ⊎ In x made
        → IsPut (or_else (cond b (Some (put y)) (found_at uri-of put made uri)) other)
    by rest true e w = each y
    by rest false e (inr w) = rest w
    by rest false e (inl same) =
        let itself : is_same (uri-of y) uri ≡ true =
        subst (λ (u : List ℕ). is_same (uri-of y) u ≡ true) (ap uri-of same ∙ is) (same_self (uri-of y)) in
        absurd cc

module _ (s : IssueInput) (trace : IssuingTrace) where
  not-put : (uri : List ℕ) → IsPut (withdrawal_at s uri) → ⊥
  not-put uri put = by (list_any (λ w. bytes_eq w uri) s.work.withdrawn) (hash_at s uri) put
    where
      by : (b : Bool) (hash : Option (List ℕ)) → IsPut (cond b (option_map (λ h. Withdraw uri h) hash) None) → ⊥
      by true None put = put
      by true (Some h) put = put
      by false hash put = put

  abbrev drafted : List Draft
  drafted = map (λ x. x.draft) (made_of trace)

  put-made : (uri : List ℕ) → IsPut (wanted_at s trace uri) → (d : Draft) × In d drafted × (d.uri ≡ uri)
  put-made uri put = by (found_at (λ x. x.draft.uri) (put_of s trace) (made_of trace) uri) refl put
    where
      by : (o : Option Change) → found_at (λ x. x.draft.uri) (put_of s trace) (made_of trace) uri ≡ o → IsPut (or_else o (withdrawal_at s uri))
          → (d : Draft) × In d drafted × (d.uri ≡ uri)
      by None e p = absurd (not-put uri p)
      by (Some c) e p =
          let found = found-some (λ x. x.draft.uri) (put_of s trace) (made_of trace) uri c e in
          (found.0.draft, in-map (λ x. x.draft) found.0 (made_of trace) (contains-in found.0 (made_of trace) found.1), found.2)

  made-at : (uri : List ℕ) (d : Draft) → In d drafted → d.uri ≡ uri → IsPut (wanted_at s trace uri)
  made-at uri d at is =
      let from = map-in (λ x. x.draft) d (made_of trace) at in
      made-put (λ x. x.draft.uri) (put_of s trace) (λ x. tt) (made_of trace) from.0 uri from.1 (ap (λ (e : Draft). e.uri) from.2 ∙ is)
      (withdrawal_at s uri)

-- ---- all of it

module _ (keys-law : IsKeysLaw) (count-law : IsCountLaw) (start : PrepareInput) (ring : List SignerState) (prepared : NextValue)
    (is : IsPrepared start ring prepared) where
  abbrev input : IssueInput
  input = issue_input_for start is.made.work

  abbrev went : IssuingTrace
  went = is.made.is_made.trace

  abbrev judged : PlanInput
  judged = plan_input_for start is.made.planned.sets is.made.planned.plan.0

  planned : AreOfPlan judged is.made.work went.keys
  planned = keys-law judged is.made.work went.keys is.made.able.apart is.made.planned.plan.2 is.made.is_made.is_trace.keys

  abbrev unfit : List Draft
  unfit = unfit_objects judged planned.keys

  moved : IsPermutation unfit (drafted input went)
  moved =
      subst (λ (l : List Draft). IsPermutation l (drafted input went))
      (ap₂ (λ (a b : List Draft). a ++ b) planned.drafts planned.manifests)
      (subst (IsPermutation (all_of input went ++ manifests input went.keys)) (sym (map-parts (λ x. x.draft) went.objects went.listed))
      (IsPermutation-append (all_of input went) (map (λ x. x.draft) went.objects) (manifests input went.keys) (map (λ x. x.draft) went.listed)
      is.made.is_made.is_trace.objects.permutation is.made.is_made.is_trace.listed.permutation))

  at-uri : (uri : List ℕ) → change_at prepared.changes uri ≡ wanted_at input went uri
  at-uri uri = ap (λ (changes : List Change). change_at changes uri) is.made.changes ∙ is.made.is_made.changes uri

  -- What is put is wanted, and doesn't fit.
  put-unfit : (uri : List ℕ) → IsPut (change_at prepared.changes uri) → Any (λ object. object.uri ≡ uri) unfit
  put-unfit uri put =
      let found = put-made input went uri (subst IsPut (at-uri uri) put) in
      let back = Contains-permutation (drafted input went) unfit found.0 (IsPermutation-sym unfit (drafted input went) moved)
      (in-contains found.0 (drafted input went) found.1) in
      any-in (λ (object : Draft). object.uri ≡ uri) unfit found.0 (contains-in found.0 unfit back) found.2

  unfit-put : (uri : List ℕ) → Any (λ object. object.uri ≡ uri) unfit → IsPut (change_at prepared.changes uri)
  unfit-put uri any =
      let one = in-any (λ (object : Draft). object.uri ≡ uri) unfit any in
      let at = Contains-permutation unfit (drafted input went) one.0 moved (in-contains one.0 unfit one.1) in
      subst IsPut (sym (at-uri uri)) (made-at input went uri one.0 (contains-in one.0 (drafted input went) at) one.2)

  signatures-are : given_by start.ring + signatures_for is.made.work < 2 ^ 64
      → given_by ring ≡ given_by start.ring + signatures_for is.made.work
  signatures-are few = count-law input start.at.rows start.ring ring is.made.made is.made.able is.made.is_made few

  pub incremental : IsIncremental start ring prepared
  incremental = record {
    work = is.made.work;
    planned = is.made.planned;
    owed = is.made.planned.plan.0;
    owes = is.made.planned.plan.1;
    keys = planned.keys;
    next = planned.next;
    puts = λ uri. (put-unfit uri, unfit-put uri);
    signatures = signatures-are;
  }
