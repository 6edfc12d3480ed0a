-- How many signatures drafts take.
use Rattle.std.proofs.Common.{◌≡◌, ℕ, ◌+◌, ◌*◌, ◌≤◌, List, [], ◌∷◌, ◌++◌, length, take}
use Rattle.std.proofs.Common.{map, refl, sym, ap, ◌∙◌, arith}
use Rattle.std.specs.Prelude.{sum, sum_by}
use Rattle.std.proofs.lemmas.List.{take_all, length-take-le}
use Rattle.std.proofs.lemmas.List.Sums.{sum_by-append, sum-map}
use Rattle.std.proofs.lemmas.Simd.{map-map}
use Rattle.issue_drafts.specs.Drafts.{Draft}
use Rattle.issue_drafts.specs.Views.{kind_of, draft_of, manifest_of}
use Rattle.issue_drafts.specs.declared.draft.Draft as code
use Rattle.issue_drafts.specs.declared.draft.DraftKind as kinds
use Rattle.issue_drafts.specs.declared.draft.DraftKind.TheVariants as variants
use Rattle.issue_drafts.specs.declared.draft.ManifestDraft.{ManifestDraft}
use Rattle.issue_sign.specs.Objects.{Signed}
use Rattle.issue_make.specs.Trace.{IssuingTrace, made_of, signatures_of}

-- What is summed of images.
pub sum-images : {A B : Type 0} (f : B → ℕ) (g : A → B) (xs : List A)
    → sum_by f (map g xs) ≡ sum_by (λ x. f (g x)) xs
sum-images f g xs =
    sym (sum-map f (map g xs)) ∙ (ap sum (map-map f g xs) ∙ sum-map (λ x. f (g x)) xs)

twos : (xs : List ManifestDraft) → sum_by (λ d. signatures_of (manifest_of d).kind) xs ≡ 2 * length xs
twos [] = refl
twos (x ∷ xs) =
    let parts : sum_by (λ (d : ManifestDraft). signatures_of (manifest_of d).kind) (x ∷ xs)
    ≡ 2 + sum_by (λ (d : ManifestDraft). signatures_of (manifest_of d).kind) xs =
    sum_by-append (λ (d : ManifestDraft). signatures_of (manifest_of d).kind) (x ∷ []) xs in
    let rest = twos xs in
    omega arith

zero-plus : (n : ℕ) → 0 + n ≡ n
zero-plus n = omega arith

few : (k : kinds.DraftKind) → signatures_of (kind_of k) ≤ 2
few (variants.Authority subject held) = omega arith
few (variants.Route origin) = omega arith
few variants.Crl = omega arith

two-each : (ds : List code.Draft) → sum_by (λ d. signatures_of (kind_of d.kind)) ds ≤ 2 * length ds
two-each [] = omega arith
two-each (d ∷ ds) =
    let parts : sum_by (λ (e : code.Draft). signatures_of (kind_of e.kind)) (d ∷ ds)
    ≡ signatures_of (kind_of d.kind) + sum_by (λ (e : code.Draft). signatures_of (kind_of e.kind)) ds =
    sum_by-append (λ (e : code.Draft). signatures_of (kind_of e.kind)) (d ∷ []) ds
    ∙ ap (λ (n : ℕ). n + sum_by (λ (e : code.Draft). signatures_of (kind_of e.kind)) ds) (zero-plus (signatures_of (kind_of d.kind))) in
    let one : signatures_of (kind_of d.kind) ≤ 2 = few d.kind in
    let rest = two-each ds in
    omega arith

-- The signatures of the first drafts.
pub first-few : (ds : List code.Draft) (i : ℕ) → i ≤ length ds
    → sum_by (λ d. signatures_of (kind_of d.kind)) (take i ds) ≤ 2 * i
first-few ds i le =
    let each = two-each (take i ds) in
    let long : length (take i ds) ≡ i = length-take-le i ds le in
    omega arith

pub sums-are : (trace : IssuingTrace) (drafts : List code.Draft) (manifests : List ManifestDraft) (count i : ℕ)
    → count ≡ 2 * length manifests + sum_by (λ d. signatures_of (kind_of d.kind)) (take i drafts)
    → length drafts ≤ i
    → map (λ x. x.draft) trace.objects ≡ map draft_of drafts
    → map (λ x. x.draft) trace.listed ≡ map manifest_of manifests
    → count ≡ sum_by (λ x. signatures_of x.draft.kind) (made_of trace)
sums-are trace drafts manifests count i is long first second =
    let all : take i drafts ≡ drafts = take_all i drafts long in
    let objects : sum_by (λ (x : Signed). signatures_of x.draft.kind) trace.objects
    ≡ sum_by (λ (d : code.Draft). signatures_of (kind_of d.kind)) drafts =
    sym (sum-images (λ (d : Draft). signatures_of d.kind) (λ (x : Signed). x.draft) trace.objects)
    ∙ (ap (sum_by (λ (d : Draft). signatures_of d.kind)) first
    ∙ sum-images (λ (d : Draft). signatures_of d.kind) draft_of drafts) in
    let listed : sum_by (λ (x : Signed). signatures_of x.draft.kind) trace.listed ≡ 2 * length manifests =
    sym (sum-images (λ (d : Draft). signatures_of d.kind) (λ (x : Signed). x.draft) trace.listed)
    ∙ (ap (sum_by (λ (d : Draft). signatures_of d.kind)) second
    ∙ (sum-images (λ (d : Draft). signatures_of d.kind) manifest_of manifests ∙ twos manifests)) in
    let parts : sum_by (λ (x : Signed). signatures_of x.draft.kind) (trace.objects ++ trace.listed)
    ≡ sum_by (λ (x : Signed). signatures_of x.draft.kind) trace.objects
    + sum_by (λ (x : Signed). signatures_of x.draft.kind) trace.listed =
    sum_by-append (λ (x : Signed). signatures_of x.draft.kind) trace.objects trace.listed in
    let told : sum_by (λ (d : code.Draft). signatures_of (kind_of d.kind)) (take i drafts)
    ≡ sum_by (λ (d : code.Draft). signatures_of (kind_of d.kind)) drafts =
    ap (sum_by (λ (d : code.Draft). signatures_of (kind_of d.kind))) all in
    omega arith
