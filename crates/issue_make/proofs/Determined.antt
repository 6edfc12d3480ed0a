-- Two makings of a work whose signers answered alike come to the same.
use Rattle.std.proofs.Common.{◌≡◌, ◌≢◌, ℕ, ◌+◌, false, List, ◌++◌, length, get_or, map, filter, refl, sym, ap, subst, ◌∙◌}
use Rattle.std.specs.Prelude.{sum_by}
use Rattle.std.specs.List.{All, AllPairs}
use Rattle.std.specs.List.Sorted.{ties}
use Rattle.std.proofs.lemmas.List.{map-append, length-append}
use Rattle.std.proofs.lemmas.List.Elements.{All-map}
use Rattle.std.proofs.lemmas.Simd.{map-map}
use Rattle.sha2.specs.Sha256.{sha256}
use Rattle.signer_api.specs.State.{SignerState}
use Rattle.signer_ring.specs.Calls.{Call, signer_of}
use Rattle.key_roll.specs.declared.rows.KeyRow.{KeyRow}
use Rattle.key_roll.specs.declared.rows.RevokedRow.{RevokedRow}
use Rattle.issue_keys.specs.Making.{making}
use Rattle.issue_drafts.specs.WorkKeys.{Keys, all_keys}
use Rattle.issue_drafts.specs.IssueInput.{IssueInput}
use Rattle.issue_drafts.specs.Drafts.{Draft, is_manifest, drafts, manifests, serial_behind}
use Rattle.issue_drafts.specs.Drafts.Kind.{Manifest}
use Rattle.issue_drafts.specs.Revoking.{has_point, candidates}
use Rattle.issue_drafts.specs.Files.{AreMerged, kept_files, made_files}
use Rattle.issue_sign.specs.Objects.{Signed, Files}
use Rattle.issue_sign.specs.Calls.{first_calls, second_calls, content_calls, last_calls}
use Rattle.issue_make.specs.Trace.{IssuingTrace, IsIssuingTrace, all_of, puts_of, made_of, hashed, row_after, is_before, signatures_of}
use Rattle.issue_make.specs.Made.{calls_of, IsMade, to_manifests}
use Rattle.issue_make.specs.CanMake.{CanMake}
use Rattle.issue_make.specs.Answers.{answer_of, answers_to}
use Rattle.issue_make.specs.ObjectPlan.{puts}
use Rattle.issue_make.specs.declared.made.Made.{Made}
use Rattle.issue_make.specs.inner.Keys.{row_with}
use Rattle.issue_make.specs.inner.Outcomes.{IsOutcome}
use Rattle.issue_make.proofs.Alike.{BeginAlike, same-long, split}
use Rattle.issue_make.proofs.Issuers.{IsPlain, objects-plain, all-last}
use Rattle.issue_make.proofs.Issuing.{plain-bytes, last-bytes}
use Rattle.issue_make.proofs.KeyOrder.{before-order}
use Rattle.issue_make.proofs.Lists.{map-agree}
use Rattle.issue_make.proofs.OneOrder.{level-sorted, stable-same}
use Rattle.issue_make.proofs.Parts.{all-of-map, grouped}
use Rattle.issue_make.proofs.Planned.{front-pairs}
use Rattle.issue_make.proofs.SameKeys.{makers-same, fresh-same}
use Rattle.issue_make.proofs.SameLists.{ordered-same, entries-same, files-same}
use Rattle.issue_make.proofs.SameObjects.{drafts_of, File, piece, last_piece, pieces-same, manifests-same}
use Rattle.issue_make.proofs.SameObjects.{firsts-on, seconds-on, contents-on, lasts-on}
use Rattle.issue_make.proofs.SameOutcome.{Piece, whole_piece, changes-same, issued-same, made-apart}
use Rattle.issue_make.proofs.Sums.{sum-images}

-- ---- the keys

makes-of : (s : IssueInput) (trace : IssuingTrace) → calls_of s trace ≡ map making trace.keys.fresh ++ to_manifests s trace
makes-of s trace =
    grouped (map making trace.keys.fresh) (first_calls s trace.keys (all_of s trace) trace.entries trace.objects)
    (second_calls s trace.keys (all_of s trace) trace.objects) (content_calls s trace.files trace.listed)
    (last_calls s trace.keys (all_of s trace) trace.listed)

keys-of : (keys others : Keys) → keys.kept ≡ others.kept → keys.fresh ≡ others.fresh → keys ≡ others
keys-of keys others kept fresh = λ i. record { kept = kept i; fresh = fresh i }

pub keys-same : (s : IssueInput) (live : List KeyRow) (trace other : IssuingTrace)
    → IsIssuingTrace s live trace → IsIssuingTrace s live other → BeginAlike (calls_of s trace) (calls_of s other)
    → trace.keys ≡ other.keys
keys-same s live trace other is are alike =
    let both = alike (map making trace.keys.fresh) (to_manifests s trace) (map making other.keys.fresh) (to_manifests s other)
    (makes-of s trace) (makes-of s other)
    (makers-same s.work.new_keys trace.keys.fresh other.keys.fresh is.keys.fresh are.keys.fresh) in
    keys-of trace.keys other.keys (is.keys.kept ∙ sym are.keys.kept)
    (fresh-same s.work.new_keys trace.keys.fresh other.keys.fresh is.keys.fresh are.keys.fresh both.0)

-- A trace over those keys.
abbrev pub over : Keys → IssuingTrace → IssuingTrace
over keys trace = record {
  keys = keys;
  objects = trace.objects;
  listed = trace.listed;
  entries = trace.entries;
  files = trace.files;
}

-- ---- the answers of each phase

record ArePhases (s : IssueInput) (trace other : IssuingTrace) : Type 0 where
  first : answers_to (first_calls s trace.keys (all_of s trace) trace.entries trace.objects)
      ≡ answers_to (first_calls s other.keys (all_of s other) other.entries other.objects)
  second : answers_to (second_calls s trace.keys (all_of s trace) trace.objects)
      ≡ answers_to (second_calls s other.keys (all_of s other) other.objects)
  content : answers_to (content_calls s trace.files trace.listed) ≡ answers_to (content_calls s other.files other.listed)
  last : answers_to (last_calls s trace.keys (all_of s trace) trace.listed)
      ≡ answers_to (last_calls s other.keys (all_of s other) other.listed)

-- Four lists behind one another, answer by answer.
four-on : (a b c d e f g h : List Call) → map signer_of a ≡ map signer_of e → map signer_of b ≡ map signer_of f
    → map signer_of c ≡ map signer_of g → map signer_of d ≡ map signer_of h
    → map signer_of (a ++ b ++ c ++ d) ≡ map signer_of (e ++ f ++ g ++ h)
four-on a b c d e f g h one two three last =
    map-append signer_of (a ++ b ++ c) d
    ∙ (ap (λ (l : List ℕ). l ++ map signer_of d)
    (map-append signer_of (a ++ b) c
    ∙ (ap (λ (l : List ℕ). l ++ map signer_of c)
    (map-append signer_of a b
    ∙ (ap (λ (l : List ℕ). l ++ map signer_of b) one
    ∙ (ap (λ (l : List ℕ). map signer_of e ++ l) two ∙ sym (map-append signer_of e f))))
    ∙ (ap (λ (l : List ℕ). map signer_of (e ++ f) ++ l) three ∙ sym (map-append signer_of (e ++ f) g))))
    ∙ (ap (λ (l : List ℕ). map signer_of (e ++ f ++ g) ++ l) last ∙ sym (map-append signer_of (e ++ f ++ g) h)))

joined-long : {X : Type 0} (xs ys more rest : List X) → length xs ≡ length ys → length more ≡ length rest
    → length (xs ++ more) ≡ length (ys ++ rest)
joined-long xs ys more rest long many =
    length-append xs more
    ∙ (ap (λ (n : ℕ). n + length more) long ∙ (ap (λ (n : ℕ). length ys + n) many ∙ sym (length-append ys rest)))

phases-are : (s : IssueInput) (trace other : IssuingTrace)
    → drafts_of trace.objects ≡ drafts_of other.objects → drafts_of trace.listed ≡ drafts_of other.listed
    → BeginAlike (calls_of s trace) (calls_of s (over trace.keys other))
    → ArePhases s trace (over trace.keys other)
phases-are s trace other objects listed alike =
    let w = over trace.keys other in
    let all = all_of s trace in
    let a = first_calls s trace.keys all trace.entries trace.objects in
    let b = second_calls s trace.keys all trace.objects in
    let c = content_calls s trace.files trace.listed in
    let d = last_calls s trace.keys all trace.listed in
    let e = first_calls s trace.keys all other.entries other.objects in
    let f = second_calls s trace.keys all other.objects in
    let g = content_calls s other.files other.listed in
    let h = last_calls s trace.keys all other.listed in
    let one : map signer_of a ≡ map signer_of e = firsts-on s trace.keys all trace.entries other.entries trace.objects other.objects objects in
    let two : map signer_of b ≡ map signer_of f = seconds-on s trace.keys all trace.objects other.objects objects in
    let three : map signer_of c ≡ map signer_of g = contents-on s trace.files other.files trace.listed other.listed listed in
    let four : map signer_of d ≡ map signer_of h = lasts-on s trace.keys all trace.listed other.listed listed in
    let both = alike (map making trace.keys.fresh) (to_manifests s trace) (map making trace.keys.fresh) (to_manifests s w)
    (makes-of s trace) (makes-of s w) refl in
    let long : length a ≡ length e = same-long signer_of a e one in
    let pair : length (a ++ b) ≡ length (e ++ f) = joined-long a e b f long (same-long signer_of b f two) in
    let triple : length (a ++ b ++ c) ≡ length (e ++ f ++ g) =
    joined-long (a ++ b) (e ++ f) c g pair (same-long signer_of c g three) in
    let behind = split answer_of (a ++ b ++ c) (e ++ f ++ g) d h triple (both.1 (four-on a b c d e f g h one two three four)) in
    let between = split answer_of (a ++ b) (e ++ f) c g pair behind.0 in
    let front = split answer_of a e b f long between.0 in
    record { first = front.0; second = front.1; content = between.1; last = behind.1 }

-- ---- what is put

hashed-same : (s : IssueInput) (trace other : IssuingTrace)
    → map (piece s trace.keys (all_of s trace) trace.entries) trace.objects
    ≡ map (piece s trace.keys (all_of s trace) other.entries) other.objects
    → map (hashed s trace) trace.objects ≡ map (hashed s (over trace.keys other)) other.objects
hashed-same s trace other same =
    let all = all_of s trace in
    let hash : Piece → Piece = λ p. (p.0, sha256 p.1) in
    sym (map-map hash (piece s trace.keys all trace.entries) trace.objects)
    ∙ (ap (map hash) same ∙ map-map hash (piece s trace.keys all other.entries) other.objects)

files-agree : (kept made : KeyRow → List File) (files more : Files) (xs ys : List Signed) → drafts_of xs ≡ drafts_of ys
    → All (λ x. AreMerged (kept x.draft.issuer) (made x.draft.issuer) (files x.draft.issuer)) xs
    → All (λ x. AreMerged (kept x.draft.issuer) (made x.draft.issuer) (more x.draft.issuer)) ys
    → All (λ x. files x.draft.issuer ≡ more x.draft.issuer) xs
files-agree kept made files more xs ys same first second =
    let Q : Draft → Type 0 = λ d. AreMerged (kept d.issuer) (made d.issuer) (more d.issuer) in
    let back : All (λ (x : Signed). Q x.draft) xs =
    all-of-map Q (λ (x : Signed). x.draft) xs (subst (All Q) (sym same) (All-map Q (λ (x : Signed). x.draft) ys second)) in
    λ k d low.
    let key = (get_or xs k d).draft.issuer in
    files-same (kept key) (made key) (files key) (more key) (first k d low) (back k d low)

whole-are : (s : IssueInput) (trace : IssuingTrace)
    → All (λ x. is_manifest x.draft.kind ≡ false) trace.objects → All (λ x. x.draft.kind ≡ Manifest) trace.listed
    → map (whole_piece s trace) (made_of trace)
    ≡ map (piece s trace.keys (all_of s trace) trace.entries) trace.objects
    ++ map (last_piece s trace.keys (all_of s trace) trace.files) trace.listed
whole-are s trace plain last =
    let all = all_of s trace in
    let front : map (whole_piece s trace) trace.objects ≡ map (piece s trace.keys all trace.entries) trace.objects =
    map-agree (whole_piece s trace) (piece s trace.keys all trace.entries) trace.objects
    (λ k d low.
    let x = get_or trace.objects k d in
    ap (λ (bytes : List ℕ). (x.draft, bytes)) (sym (plain-bytes s trace x x.draft.kind (plain k d low)))) in
    let behind : map (whole_piece s trace) trace.listed ≡ map (last_piece s trace.keys all trace.files) trace.listed =
    map-agree (whole_piece s trace) (last_piece s trace.keys all trace.files) trace.listed
    (λ k d low.
    let x = get_or trace.listed k d in
    ap (λ (bytes : List ℕ). (x.draft, bytes)) (sym (last-bytes s trace x x.draft.kind (last k d low)))) in
    map-append (whole_piece s trace) trace.objects trace.listed
    ∙ (ap (λ (l : List Piece). l ++ map (whole_piece s trace) trace.listed) front
    ∙ ap (λ (l : List Piece). map (piece s trace.keys all trace.entries) trace.objects ++ l) behind)

-- ---- what they come to

rows-agree : (s : IssueInput) (trace other : IssuingTrace)
    → All (λ key. trace.entries key ≡ other.entries key) (all_keys trace.keys)
    → map (row_after s trace) (all_keys trace.keys) ≡ map (row_after s (over trace.keys other)) (all_keys trace.keys)
rows-agree s trace other entries =
    map-agree (row_after s trace) (row_after s (over trace.keys other)) (all_keys trace.keys)
    (λ k d low.
    let key = get_or (all_keys trace.keys) k d in
    ap (λ (list : List RevokedRow). row_with s.work.moment key (has_point s trace.keys key) (serial_behind (all_of s trace) key) list)
    (entries k d low))

signed-same : (trace other : IssuingTrace)
    → drafts_of trace.objects ≡ drafts_of other.objects → drafts_of trace.listed ≡ drafts_of other.listed
    → sum_by (λ x. signatures_of x.draft.kind) (made_of trace) ≡ sum_by (λ x. signatures_of x.draft.kind) (made_of other)
signed-same trace other objects listed =
    let many : Draft → ℕ = λ d. signatures_of d.kind in
    let draft : Signed → Draft = λ x. x.draft in
    sym (sum-images many draft (made_of trace))
    ∙ (ap (sum_by many)
    (map-append draft trace.objects trace.listed
    ∙ (ap (λ (l : List Draft). l ++ drafts_of trace.listed) objects
    ∙ (ap (λ (l : List Draft). drafts_of other.objects ++ l) listed ∙ sym (map-append draft other.objects other.listed))))
    ∙ sum-images many draft (made_of other))

made-of : (made other : Made) → made.changes ≡ other.changes → made.rows ≡ other.rows → made.issued ≡ other.issued
    → made.signatures ≡ other.signatures → made ≡ other
made-of made other changes rows issued signatures =
    λ i. record { changes = changes i; rows = rows i; issued = issued i; signatures = signatures i }

pub same-made : (s : IssueInput) (live : List KeyRow) (trace other : IssuingTrace) (made result : Made)
    → AllPairs (λ a b. a ≢ b) (map (λ d. d.uri) (puts s trace.keys))
    → IsIssuingTrace s live trace → IsIssuingTrace s live (over trace.keys other)
    → BeginAlike (calls_of s trace) (calls_of s (over trace.keys other))
    → IsOutcome s (all_keys trace.keys) trace made → IsOutcome s (all_keys trace.keys) (over trace.keys other) result
    → made ≡ result
same-made s live trace other made result once is are alike a b =
    let w = over trace.keys other in
    let all = all_of s trace in
    let objects : drafts_of trace.objects ≡ drafts_of other.objects =
    ordered-same all (drafts_of trace.objects) (drafts_of other.objects) is.objects are.objects in
    let listed : drafts_of trace.listed ≡ drafts_of other.listed =
    ordered-same (manifests s trace.keys) (drafts_of trace.listed) (drafts_of other.listed) is.listed are.listed in
    let phases : ArePhases s trace w = phases-are s trace other objects listed alike in
    let P : KeyRow → Type 0 = λ key. trace.entries key ≡ other.entries key in
    let entries : All P (all_keys trace.keys) =
    λ k d low.
    let key = get_or (all_keys trace.keys) k d in
    entries-same (candidates s trace.keys (puts_of s trace) key) (trace.entries key) (other.entries key)
    (is.entries k d low) (are.entries k d low) in
    let plain : All (λ (x : Signed). IsPlain P x.draft) trace.objects =
    objects-plain P s trace.keys trace.objects entries is.objects in
    let kinds : All (λ (x : Signed). is_manifest x.draft.kind ≡ false) trace.objects = λ k d low. (plain k d low).1 in
    let others : All (λ (x : Signed). is_manifest x.draft.kind ≡ false) other.objects =
    λ k d low. (objects-plain P s trace.keys other.objects entries are.objects k d low).1 in
    let pieces : map (piece s trace.keys all trace.entries) trace.objects ≡ map (piece s trace.keys all other.entries) other.objects =
    pieces-same s trace.keys all trace.entries other.entries trace.objects other.objects objects kinds
    (λ k d low. (plain k d low).0) phases.first phases.second in
    let files : All (λ (x : Signed). trace.files x.draft.issuer ≡ other.files x.draft.issuer) trace.listed =
    files-agree (kept_files s (puts_of s trace)) (λ key. made_files s key (map (hashed s trace) trace.objects))
    trace.files other.files trace.listed other.listed listed is.files
    (subst (λ (l : List Piece). All (λ (x : Signed). AreMerged (kept_files s (puts_of s trace) x.draft.issuer)
    (made_files s x.draft.issuer l) (other.files x.draft.issuer)) other.listed)
    (sym (hashed-same s trace other pieces)) are.files) in
    let lasts : map (last_piece s trace.keys all trace.files) trace.listed ≡ map (last_piece s trace.keys all other.files) other.listed =
    manifests-same s trace.keys all trace.files other.files trace.listed other.listed listed files phases.content phases.last in
    let whole : map (whole_piece s trace) (made_of trace) ≡ map (whole_piece s w) (made_of w) =
    whole-are s trace kinds (all-last s trace.keys trace.listed is.listed)
    ∙ (ap (λ (l : List Piece). l ++ map (last_piece s trace.keys all trace.files) trace.listed) pieces
    ∙ (ap (λ (l : List Piece). map (piece s trace.keys all other.entries) other.objects ++ l) lasts
    ∙ sym (whole-are s w others (all-last s trace.keys other.listed are.listed)))) in
    made-of made result
    (changes-same s trace w made.changes result.changes whole a.rising b.rising a.changes b.changes)
    (stable-same is_before before-order made.rows result.rows
    (level-sorted is_before before-order made.rows a.sorted) (level-sorted is_before before-order result.rows b.sorted)
    (λ z. a.stable z ∙ (ap (filter (ties is_before z)) (rows-agree s trace other entries) ∙ sym (b.stable z))))
    (issued-same s trace w made.issued result.issued refl whole
    (made-apart s trace (drafts s trace.keys) (manifests s trace.keys) is.objects.permutation is.listed.permutation once)
    (made-apart s w (drafts s trace.keys) (manifests s trace.keys) are.objects.permutation are.listed.permutation once)
    a.listed b.listed a.count b.count a.issued b.issued)
    (a.signatures ∙ (signed-same trace w objects listed ∙ sym b.signatures))

-- ---- whichever keys they are over

pub outcome-of : (s : IssueInput) (live : List KeyRow) (old new : List SignerState) (made : Made) (is : IsMade s live old new made)
    → IsOutcome s (all_keys is.trace.keys) is.trace made
outcome-of s live old new made is = record {
  rising = is.rising;
  changes = is.changes;
  listed = is.listed;
  count = is.count;
  issued = is.issued;
  after = is.rows;
  sorted = is.sorted;
  stable = is.stable;
  signatures = is.signatures;
}

pub one-edition : (s : IssueInput) (live : List KeyRow) (signers : ℕ) (old new before after : List SignerState) (made other : Made)
    → CanMake s live signers → (one : IsMade s live old new made) → (two : IsMade s live before after other)
    → BeginAlike (calls_of s one.trace) (calls_of s two.trace) → made ≡ other
one-edition s live signers old new before after made other work one two alike =
    let t = one.trace in
    let u = two.trace in
    let e : t.keys ≡ u.keys = keys-same s live t u one.is_trace two.is_trace alike in
    let p : u ≡ over t.keys u = ap (λ (keys : Keys). over keys u) (sym e) in
    same-made s live t u made other
    (front-pairs (λ a b. a ≢ b) (map (λ (d : Draft). d.uri) (puts s t.keys)) s.work.withdrawn (work.fits t.keys one.is_trace.keys).once)
    one.is_trace
    (subst (IsIssuingTrace s live) p two.is_trace)
    (subst (λ (w : IssuingTrace). BeginAlike (calls_of s t) (calls_of s w)) p alike)
    (outcome-of s live old new made one)
    (subst (λ (keys : Keys). IsOutcome s (all_keys keys) (over t.keys u) other) (sym e)
    (subst (λ (w : IssuingTrace). IsOutcome s (all_keys u.keys) w other) p (outcome-of s live before after other two)))
