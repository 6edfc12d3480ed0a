-- The trace that signed objects went through, and what it says of them.
use Rattle.std.proofs.Common.{◌≡◌, ℕ, Option, None, Some, inr, List, ◌++◌, get_or, map, drop, refl, sym, ap, subst, ◌∙◌, append_assoc}
use Rattle.std.specs.List.{All, slice_get}
use Rattle.std.specs.Option.{option_map}
use Rattle.std.proofs.lemmas.List.{take-append-drop}
use Rattle.std.proofs.lemmas.List.Elements.{All-append, All-weaker}
use Rattle.std.proofs.lemmas.Option.{slice_get-map}
use Rattle.signer_api.specs.State.{SignerState}
use Rattle.signer_ring.specs.Calls.{Call, after_calls, IsVouched}
use Rattle.key_roll.specs.declared.rows.KeyRow.{KeyRow}
use Rattle.issue_keys.specs.declared.fault.MakeFault.{MakeFault}
use Rattle.issue_keys.specs.declared.fault.MakeFault.TheVariants.{SignerFault, KeyClash, Memory}
use Rattle.issue_drafts.specs.WorkKeys.{Keys, keys_at}
use Rattle.issue_drafts.specs.IssueInput.{IssueInput}
use Rattle.issue_drafts.specs.Drafts as words
use Rattle.issue_drafts.specs.Drafts.{Kind, AreOrdered, serial_behind}
use Rattle.issue_drafts.specs.Drafts.Kind.{Certificate, Roa, Crl, Manifest}
use Rattle.issue_drafts.specs.Views.{draft_of, manifest_of}
use Rattle.issue_drafts.specs.declared.draft.ManifestDraft as manifests
use Rattle.issue_drafts.specs.Firsts.{AreFirsts}
use Rattle.issue_drafts.specs.Revoking.{candidates}
use Rattle.issue_sign.specs.Objects.{Answers, Signed, Entries, Files}
use Rattle.issue_sign.specs.Calls.{content_calls, last_calls}
use Rattle.issue_sign.specs.Spelled as signing
use Rattle.issue_sign.specs.Made.{answers_of, signed, of_drafts, of_manifests}
use Rattle.issue_make.specs.Trace.{IssuingTrace, IsIssuingTrace, AreEntries, AreListed, made_of, IsSpelled}
use Rattle.issue_make.specs.declared.made.Made.{Made}
use Rattle.issue_make.specs.ObjectPlan.{puts}
use Rattle.issue_make.specs.Made.{to_manifests, IsSigned}
use Rattle.issue_make.specs.inner.Signing.{sign_input_of, trace_over, AreSigned, IsPlanSigned, IsSigningStop, IsObjectsStop}
use Rattle.issue_make.specs.inner.Outcomes.{IsOfPlan, IsOfKeys, IsOutcome}
use Rattle.issue_make.specs.inner.Ready.{IsReady}
use Rattle.issue_make.specs.inner.Finished.{IsFinished}
use Rattle.issue_make.specs.declared.plans.ObjectPlan.{ObjectPlan}
use Rattle.issue_make.specs.declared.objects.Objects.{Objects}
use Rattle.issue_make.proofs.Conditions.{keys-are}
use Rattle.issue_make.proofs.Stops.{calls-on}
use Rattle.issue_make.proofs.SignedTo.{all-manifests}
use Rattle.issue_make.proofs.PlanStops.{files-are}

-- What can be read back of a basis can be of a trace of the same.
spelled-same : (s : IssueInput) (keys : Keys) (rows : List KeyRow) (entries : Entries) (files : Files) (objects listed : List Signed)
    (d : words.Draft) (kind : Kind) (a : Answers)
    → signing.IsSpelled s (sign_input_of s keys rows entries files) d kind a
    → IsSpelled s (record { keys = keys; objects = objects; listed = listed; entries = entries; files = files }) d kind a
spelled-same s keys rows entries files objects listed d (Certificate subject held) a is = is
spelled-same s keys rows entries files objects listed d (Roa origin) a is = is
spelled-same s keys rows entries files objects listed d Crl a is = is
spelled-same s keys rows entries files objects listed d Manifest a is = is

-- The entries of a plan's CRLs are those of a trace over its keys.
entries-of : (s : IssueInput) (live rows : List KeyRow) (n signers : ℕ) (plan : ObjectPlan) (ready : IsReady s live rows n signers plan)
    (files : Files) (objects listed : List Signed)
    → AreEntries s (trace_over (keys_at rows n) ready.is_plan.entries.of files objects listed)
entries-of s live rows n signers plan ready files objects listed =
    subst (All (λ (key : KeyRow). AreFirsts (candidates s (keys_at rows n) (puts s (keys_at rows n)) key) (ready.is_plan.entries.of key)))
    (sym (take-append-drop n rows)) ready.is_plan.entries.each

-- ---- why it stopped

plan-signed : (s : IssueInput) (live rows : List KeyRow) (n signers : ℕ) (plan : ObjectPlan) (ready : IsReady s live rows n signers plan)
    (failed : Option ℕ) (calls : List Call) → IsPlanSigned s (keys_at rows n) ready.is_plan.entries.of plan failed calls
    → IsSigned s live (drop n rows) failed calls
plan-signed s live rows n signers plan ready failed calls is = record {
  trace = trace_over (keys_at rows n) ready.is_plan.entries.of is.files is.objects is.listed;
  is_trace = record {
    keys = keys-are s live rows n ready.ready.are;
    over = refl;
    objects = subst (AreOrdered (words.drafts s (keys_at rows n))) (sym is.drafts) ready.is_plan.drafts;
    listed = subst (AreOrdered (words.manifests s (keys_at rows n))) (sym is.manifests) ready.is_plan.manifests;
    entries = entries-of s live rows n signers plan ready is.files is.objects is.listed;
    files = is.lists;
  };
  signed = is.signed;
}

-- The signing of its objects stopped.
pub plan-stop : (s : IssueInput) (live rows : List KeyRow) (n signers : ℕ) (plan : ObjectPlan) (ready : IsReady s live rows n signers plan)
    (old new : List SignerState) (fault : MakeFault)
    → IsSigningStop s (keys_at rows n) ready.is_plan.entries.of plan old new fault → IsObjectsStop s live (drop n rows) old new fault
plan-stop s live rows n signers plan ready old new (SignerFault signer) stop =
    (stop.0, plan-signed s live rows n signers plan ready (Some signer) stop.0 stop.1, stop.2)
plan-stop s live rows n signers plan ready old new (KeyClash id) stop = absurd stop
plan-stop s live rows n signers plan ready old new Memory stop =
    (stop.0, inr (plan-signed s live rows n signers plan ready None stop.0 stop.1), stop.2)

-- ---- all of them

module _ (s : IssueInput) (live rows : List KeyRow) (n signers : ℕ) (plan : ObjectPlan) (ready : IsReady s live rows n signers plan)
    (old new : List SignerState) (objects : Objects)
    (are : AreSigned s (keys_at rows n) rows ready.is_plan.entries.of plan old new objects) where
  abbrev pub trace : IssuingTrace
  trace = record {
    keys = keys_at rows n;
    objects = signed (map draft_of plan.drafts.items) (map answers_of objects.drafted.items);
    listed = signed (map manifest_of plan.manifests.items) (map answers_of objects.listed.items);
    entries = ready.is_plan.entries.of;
    files = are.files;
  }

  lists-are : AreListed s trace
  lists-are =
      files-are s (keys_at rows n) rows ready.is_plan.entries.of are.files (map draft_of plan.drafts.items) plan.manifests.items old are.between
      objects.drafted.items (signed (map draft_of plan.drafts.items) (map answers_of objects.drafted.items))
      (signed (map manifest_of plan.manifests.items) (map answers_of objects.listed.items)) are.drafted are.listed.each are.lists

  pub is-trace : IsIssuingTrace s live trace
  is-trace = record {
    keys = keys-are s live rows n ready.ready.are;
    objects = subst (AreOrdered (words.drafts s (keys_at rows n))) (sym are.drafted.each) ready.is_plan.drafts;
    listed = subst (AreOrdered (words.manifests s (keys_at rows n))) (sym are.listed.each) ready.is_plan.manifests;
    entries = entries-of s live rows n signers plan ready are.files trace.objects trace.listed;
    files = lists-are;
  }

  -- ---- the calls

  abbrev first : List Call
  first = (of_drafts s (sign_input_of s (keys_at rows n) rows ready.is_plan.entries.of are.files)).calls
      (signed (map draft_of plan.drafts.items) (map answers_of objects.drafted.items))

  abbrev second : List Call
  second = (of_manifests s (sign_input_of s (keys_at rows n) rows ready.is_plan.entries.of are.files)).calls
      (signed (map manifest_of plan.manifests.items) (map answers_of objects.listed.items))

  calls-are : first ++ second ≡ to_manifests s trace
  calls-are =
      let b = sign_input_of s (keys_at rows n) rows ready.is_plan.entries.of are.files in
      let made = signed (map manifest_of plan.manifests.items) (map answers_of objects.listed.items) in
      sym (append_assoc first (content_calls s b.files made) (last_calls s b.keys b.all made))

  pub calls-made : new ≡ after_calls old (to_manifests s trace)
  calls-made =
      are.listed.signers ∙ (ap (λ (ring : List SignerState). after_calls ring second) are.drafted.signers
      ∙ (calls-on old first second ∙ ap (after_calls old) calls-are))

  pub calls-vouched : ((ring : List SignerState) (call : Call) (calls : List Call) → IsVouched ring call → IsVouched (after_calls ring calls) call)
      → All (IsVouched new) (to_manifests s trace)
  calls-vouched stays =
      subst (All (IsVouched new)) calls-are
      (All-append (IsVouched new) first second
      (All-weaker (IsVouched are.between) (IsVouched new)
      (λ call is. subst (λ (ring : List SignerState). IsVouched ring call) (sym are.listed.signers) (stays are.between call second is))
      first are.drafted.vouched)
      are.listed.vouched)

  -- Memory ran out behind them.
  pub stop-made : IsObjectsStop s live (drop n rows) old new Memory
  stop-made = (
    to_manifests s trace,
    inr (record {
      trace = trace;
      is_trace = record {
        keys = is-trace.keys;
        over = refl;
        objects = is-trace.objects;
        listed = is-trace.listed;
        entries = is-trace.entries;
        files = inr is-trace.files;
      };
      signed = all-manifests s trace;
    }),
    calls-made,
  )

  pub all-spelled : All (λ x. IsSpelled s trace x.draft x.draft.kind x.answers) (made_of trace)
  all-spelled =
      let made = signed (map draft_of plan.drafts.items) (map answers_of objects.drafted.items) in
      let listed = signed (map manifest_of plan.manifests.items) (map answers_of objects.listed.items) in
      let same : (x : Signed)
      → signing.IsSpelled s (sign_input_of s (keys_at rows n) rows ready.is_plan.entries.of are.files) x.draft x.draft.kind x.answers
      → IsSpelled s trace x.draft x.draft.kind x.answers =
      λ x. spelled-same s (keys_at rows n) rows ready.is_plan.entries.of are.files made listed x.draft x.draft.kind x.answers in
      All-append (λ (x : Signed). IsSpelled s trace x.draft x.draft.kind x.answers) made listed
      (All-weaker (λ (x : Signed). signing.IsSpelled s (sign_input_of s (keys_at rows n) rows ready.is_plan.entries.of are.files) x.draft x.draft.kind x.answers)
      (λ (x : Signed). IsSpelled s trace x.draft x.draft.kind x.answers) same made are.drafted.spelled)
      (All-weaker (λ (x : Signed). signing.IsSpelled s (sign_input_of s (keys_at rows n) rows ready.is_plan.entries.of are.files) x.draft x.draft.kind x.answers)
      (λ (x : Signed). IsSpelled s trace x.draft x.draft.kind x.answers) same listed are.listed.spelled)

  -- ---- what they come to

  next-at : All (λ (d : manifests.ManifestDraft). slice_get plan.serials.next.items d.issuer.position
      ≡ Some (serial_behind (words.drafts s (keys_at rows n)) d.issuer.row.now)) plan.manifests.items
  next-at = λ k d lt.
      let key = (get_or plan.manifests.items k d).issuer in
      ap (λ (l : List ℕ). slice_get l key.position) ready.is_plan.next
      ∙ (slice_get-map (serial_behind (words.drafts s (keys_at rows n))) rows key.position
      ∙ ap (option_map (serial_behind (words.drafts s (keys_at rows n)))) (ready.is_plan.manifest_issuers k d lt))

  pub of-plan : IsOfPlan s plan objects trace
  of-plan = record {
    drafts = are.drafted.each;
    given = ready.is_plan.given;
    contents = are.drafted.bytes;
    hashes = are.drafted.hashes;
    manifests = are.listed.each;
    next = next-at;
    listed_contents = are.listed.bytes;
    listed_hashes = are.listed.hashes;
  }

  pub of-keys : IsOfKeys s rows plan trace
  of-keys = record { points = ready.is_plan.points; next = ready.is_plan.next; entries = ready.is_plan.entries.is }

  pub is-finished : (made : Made)
      → ((ring : List SignerState) (call : Call) (calls : List Call) → IsVouched ring call → IsVouched (after_calls ring calls) call)
      → ((trace : IssuingTrace) → IsOfPlan s plan objects trace → IsOfKeys s rows plan trace → IsOutcome s rows trace made)
      → IsFinished s live rows (keys_at rows n) old new made
  is-finished made stays outcome = record {
    trace = trace;
    is_trace = is-trace;
    over = refl;
    signers = calls-made;
    vouched = calls-vouched stays;
    spelled = all-spelled;
    outcome = outcome trace of-plan of-keys;
  }
