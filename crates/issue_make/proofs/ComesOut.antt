-- What the outcome of an edition asks holds of a plan whose objects are signed.
use Rattle.std.proofs.Common.{◌≡◌, ◌≢◌, ℕ, ◌+◌, ◌<◌, ◌^◌, List, [], ◌∷◌, ◌++◌, length, get_or, map, refl, sym, ap, subst, ◌∙◌, arith}
use Rattle.std.specs.List.{All, AllPairs}
use Rattle.std.specs.List.Sorted.{IsPermutation}
use Rattle.std.proofs.lemmas.List.{length-map, map-append, map-id}
use Rattle.std.proofs.lemmas.List.Elements.{All-map}
use Rattle.std.proofs.lemmas.List.Sorted.{IsPermutation-append, IsPermutation-append_left, IsPermutation-map, length_permutation}
use Rattle.std.proofs.lemmas.List.Sums.{count_by-le-length}
use Rattle.std.proofs.lemmas.Option.{slice_get_within}
use Rattle.signer_api.specs.State.{SignerState}
use Rattle.key_roll.specs.declared.rows.KeyRow.{KeyRow}
use Rattle.issue_drafts.specs.WorkKeys.{Keys, keys_at}
use Rattle.issue_drafts.specs.IssueInput.{IssueInput}
use Rattle.issue_drafts.specs.Drafts.{Draft, drafts, manifests, is_numbered, serial_behind}
use Rattle.issue_drafts.specs.Serials.{given_serial}
use Rattle.issue_drafts.specs.laws.UriOrder.{apart-permuted}
use Rattle.issue_drafts.specs.Views.{draft_of, manifest_of}
use Rattle.issue_drafts.specs.declared.draft.Draft as code
use Rattle.issue_drafts.specs.declared.draft.ManifestDraft as listed
use Rattle.issue_drafts.specs.Revoking.{has_point}
use Rattle.issue_sign.specs.Objects.{Entries, Signed}
use Rattle.issue_sign.specs.SignInput.{SignInputValue}
use Rattle.issue_sign.specs.Made.{answers_of, signed, of_drafts, of_manifests}
use Rattle.issue_make.specs.ObjectPlan.{puts, IsObjectPlan}
use Rattle.issue_make.specs.inner.Signing.{sign_input_of, AreSigned}
use Rattle.issue_make.specs.inner.Outcomes.{uris_in, AreWhole, CanComeOut}
use Rattle.issue_make.specs.CanMake.{CanMake}
use Rattle.issue_make.specs.declared.plans.ObjectPlan.{ObjectPlan}
use Rattle.issue_make.specs.declared.objects.Objects.{Objects}
use Rattle.issue_make.proofs.Conditions.{AreRows, keys-are, serials-of, numbers-of}
use Rattle.issue_make.proofs.Signed.{as-many-made}

-- ---- URIs

draft-uris : (ds : List code.Draft) → map (λ (d : Draft). d.uri) (map draft_of ds) ≡ map (λ (d : code.Draft). d.uri) ds
draft-uris [] = refl
draft-uris (d ∷ ds) = ap (λ (l : List (List ℕ)). d.uri ∷ l) (draft-uris ds)

manifest-uris : (ms : List listed.ManifestDraft)
    → map (λ (d : Draft). d.uri) (map manifest_of ms) ≡ map (λ (d : listed.ManifestDraft). d.uri) ms
manifest-uris [] = refl
manifest-uris (m ∷ ms) = ap (λ (l : List (List ℕ)). m.uri ∷ l) (manifest-uris ms)

uris-are : (plan : ObjectPlan)
    → map (λ (d : Draft). d.uri) (map draft_of plan.drafts.items ++ map manifest_of plan.manifests.items) ≡ uris_in plan
uris-are plan =
    map-append (λ (d : Draft). d.uri) (map draft_of plan.drafts.items) (map manifest_of plan.manifests.items)
    ∙ (ap (λ (l : List (List ℕ)). l ++ map (λ (d : Draft). d.uri) (map manifest_of plan.manifests.items)) (draft-uris plan.drafts.items)
    ∙ ap (λ (l : List (List ℕ)). map (λ (d : code.Draft). d.uri) plan.drafts.items ++ l) (manifest-uris plan.manifests.items))

moved-apart : (us vs : List (List ℕ)) → IsPermutation us vs → AllPairs (λ a b. a ≢ b) us → AllPairs (λ a b. a ≢ b) vs
moved-apart us vs moved apart =
    subst (λ (l : List (List ℕ)). AllPairs (λ a b. a ≢ b) l) (map-id vs)
    (apart-permuted (λ (u : List ℕ). u) us vs moved (subst (λ (l : List (List ℕ)). AllPairs (λ a b. a ≢ b) l) (sym (map-id us)) apart))

uris-apart : (s : IssueInput) (keys : Keys) (rows : List KeyRow) (plan : ObjectPlan) → IsObjectPlan s keys rows plan
    → AllPairs (λ a b. a ≢ b) (map (λ d. d.uri) (puts s keys) ++ s.work.withdrawn)
    → AllPairs (λ a b. a ≢ b) (uris_in plan ++ s.work.withdrawn)
uris-apart s keys rows plan p once =
    let puts-moved = IsPermutation-append (drafts s keys) (map draft_of plan.drafts.items) (manifests s keys)
    (map manifest_of plan.manifests.items) p.drafts.permutation p.manifests.permutation in
    let moved = subst (IsPermutation (map (λ (d : Draft). d.uri) (puts s keys))) (uris-are plan)
    (IsPermutation-map (λ (d : Draft). d.uri) (puts s keys)
    (map draft_of plan.drafts.items ++ map manifest_of plan.manifests.items) puts-moved) in
    moved-apart (map (λ (d : Draft). d.uri) (puts s keys) ++ s.work.withdrawn) (uris_in plan ++ s.work.withdrawn)
    (IsPermutation-append_left s.work.withdrawn (map (λ (d : Draft). d.uri) (puts s keys)) (uris_in plan) moved) once

-- ---- lengths

-- As many objects as drafts, and a position for the key of each manifest.
whole : (s : IssueInput) (keys : Keys) (rows : List KeyRow) (entries : Entries) (plan : ObjectPlan) (old new : List SignerState)
    (objects : Objects) → IsObjectPlan s keys rows plan → AreSigned s keys rows entries plan old new objects → AreWhole plan objects
whole s keys rows entries plan old new objects p are =
    let basis : SignInputValue = sign_input_of s keys rows entries are.files in
    let made : List Signed = signed (map draft_of plan.drafts.items) (map answers_of objects.drafted.items) in
    let lists : List Signed = signed (map manifest_of plan.manifests.items) (map answers_of objects.listed.items) in
    let first = as-many-made s basis (of_drafts s basis) (map draft_of plan.drafts.items) old are.between objects.drafted.items made
    are.drafted in
    let second = as-many-made s basis (of_manifests s basis) (map manifest_of plan.manifests.items) are.between new
    objects.listed.items lists are.listed in
    let next : length plan.serials.next.items ≡ length rows =
    ap length p.next ∙ length-map rows (serial_behind (drafts s keys)) in
    record {
      given = ap length p.given
          ∙ length-map plan.drafts.items (λ (d : code.Draft). given_serial (drafts s keys) (draft_of d));
      drafted = first ∙ length-map plan.drafts.items draft_of;
      positions = λ k d lt.
          let m : listed.ManifestDraft = get_or plan.manifests.items k d in
          subst (λ (n : ℕ). m.issuer.position < n) (sym next) (slice_get_within rows m.issuer.position m.issuer.row.now (p.manifest_issuers k d lt));
      listed = second ∙ length-map plan.manifests.items manifest_of;
    }

-- ---- numbers below their end

small-serial : (all : List Draft) (row : KeyRow) → length all < 2 ^ 63 → row.next_serial < 2 ^ 62
    → serial_behind all row + 1 < 2 ^ 64
small-serial all row few small = let counted = count_by-le-length (is_numbered row) all in omega (arith, counted)

small-serials : (s : IssueInput) (keys : Keys) (rows : List KeyRow) (plan : ObjectPlan) → IsObjectPlan s keys rows plan
    → All (λ row. row.next_serial < 2 ^ 62) rows → All (λ n. n + 1 < 2 ^ 64) plan.serials.next.items
small-serials s keys rows plan p small =
    let many = length_permutation (drafts s keys) (map draft_of plan.drafts.items) p.drafts.permutation in
    let few : length (drafts s keys) < 2 ^ 63 =
    omega (arith, many, length-map plan.drafts.items draft_of, plan.drafts.ok.0, plan.drafts.ok.1, plan.drafts.small) in
    subst (All (λ n. n + 1 < 2 ^ 64)) (sym p.next)
    (All-map (λ n. n + 1 < 2 ^ 64) (serial_behind (drafts s keys)) rows
    (λ k d lt. small-serial (drafts s keys) (get_or rows k d) few (small k d lt)))

-- ---- all of it

pub can-come-out : (s : IssueInput) (live rows : List KeyRow) (n signers : ℕ) → CanMake s live signers → AreRows s live rows n
    → (plan : ObjectPlan) → IsObjectPlan s (keys_at rows n) rows plan → (entries : Entries) → plan.revoked.items ≡ map entries rows
    → (old new : List SignerState) (objects : Objects) → AreSigned s (keys_at rows n) rows entries plan old new objects
    → CanComeOut s rows plan objects
can-come-out s live rows n signers work are plan p entries is old new objects signed-are =
    let keys = keys_at rows n in
    let numbers = numbers-of s live rows n signers work are in
    record {
      moment = work.moment;
      standing = work.standing;
      once = uris-apart s keys rows plan p (work.fits keys (keys-are s live rows n are)).once;
      whole = whole s keys rows entries plan old new objects p signed-are;
      points = ap length p.points ∙ length-map rows (has_point s keys);
      next = ap length p.next ∙ length-map rows (serial_behind (drafts s keys));
      revoked = ap length is ∙ length-map rows entries;
      serials = small-serials s keys rows plan p (serials-of s live rows n signers work are);
      numbers = λ k d lt. let small = numbers k d lt in omega (arith, small);
    }
