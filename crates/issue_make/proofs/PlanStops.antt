-- Why the signing of a plan's objects stopped.
use Rattle.std.proofs.Common.{◌≡◌, ℕ, inl, inr, List, [], ◌∷◌, ◌++◌, map, get_or, None, Some, refl, sym, ap, subst, ◌∙◌, arith}
use Rattle.std.specs.List.{All, zip}
use Rattle.std.proofs.lemmas.List.Elements.{All-map}
use Rattle.sha2.specs.Sha256.{sha256}
use Rattle.signer_api.specs.State.{SignerState}
use Rattle.signer_ring.specs.Calls.{after_calls}
use Rattle.signer_ring.specs.Jobs.{CountFaults}
use Rattle.key_roll.specs.declared.rows.KeyRow.{KeyRow}
use Rattle.issue_keys.specs.declared.fault.MakeFault.{MakeFault}
use Rattle.issue_keys.specs.declared.fault.MakeFault.TheVariants.{SignerFault, KeyClash, Memory}
use Rattle.issue_drafts.specs.WorkKeys.{Keys}
use Rattle.issue_drafts.specs.IssueInput.{IssueInput}
use Rattle.issue_drafts.specs.Drafts as words
use Rattle.issue_drafts.specs.Views.{draft_of, manifest_of}
use Rattle.issue_drafts.specs.declared.draft.Draft as code
use Rattle.issue_drafts.specs.declared.draft.ManifestDraft as manifests
use Rattle.issue_drafts.specs.Files.{AreMerged, kept_files, made_files}
use Rattle.issue_sign.specs.Objects.{Answers, Signed, Entries, Files, bytes_of}
use Rattle.issue_sign.specs.Made.{AreMade, IsStop, of_drafts, of_manifests}
use Rattle.issue_sign.specs.declared.object.Object.{Object}
use Rattle.issue_make.specs.Trace.{AreListed, AreFiles, hashed}
use Rattle.issue_make.specs.Made.{to_objects}
use Rattle.issue_make.specs.ObjectPlan.{puts}
use Rattle.issue_make.specs.inner.Signing.{sign_input_of, trace_over, IsSigningStop}
use Rattle.issue_make.specs.declared.plans.ObjectPlan.{ObjectPlan}
use Rattle.issue_make.proofs.Parts.{all-of-map}
use Rattle.issue_make.proofs.Stops.{calls-on}
use Rattle.issue_make.proofs.SignedTo.{first-fails, first-within, signed-objects, signed-manifests, all-objects}

-- Drafts for which nobody was asked.
blank : List words.Draft → List Signed
blank [] = []
blank (d ∷ ds) =
    let nothing : Answers = record { once = []; content = []; last = [] } in
    let x : Signed = record { draft = d; answers = nothing } in x ∷ blank ds

drafts-blank : (ds : List words.Draft) → map (λ (x : Signed). x.draft) (blank ds) ≡ ds
unfolding blank
drafts-blank [] = refl
drafts-blank (d ∷ ds) = ap (λ (l : List words.Draft). d ∷ l) (drafts-blank ds)

-- Drafts with the hashes of what was made for them.
zip-hashes : {X Y Z : Type 0} (f : X → Y) (g : X → Z) (xs : List X) (ys : List Y) (zs : List Z) → map f xs ≡ ys → zs ≡ map g xs
    → map (λ (x : X). (f x, g x)) xs ≡ zip ys zs
zip-hashes {X} {Y} {Z} f g xs ys zs e h =
    straight xs ∙ (ap (λ (l : List Y). zip l (map g xs)) e ∙ ap (λ (l : List Z). zip ys l) (sym h))
  where
    straight : (l : List X) → map (λ (x : X). (f x, g x)) l ≡ zip (map f l) (map g l)
    straight [] = refl
    straight (x ∷ l) = ap (λ (rest : List (Y × Z)). (f x, g x) ∷ rest) (straight l)

-- The files of each manifest are those of its key, whatever was answered for it.
pub files-are : (s : IssueInput) (keys : Keys) (rows : List KeyRow) (entries : Entries) (files : Files) (ds : List words.Draft)
    (ms : List manifests.ManifestDraft) (old between : List SignerState) (objects : List Object) (made listed : List Signed)
    → AreMade s (sign_input_of s keys rows entries files) (of_drafts s (sign_input_of s keys rows entries files)) ds old between objects made
    → map (λ (x : Signed). x.draft) listed ≡ map manifest_of ms
    → All (λ m. AreMerged (kept_files s (puts s keys) m.issuer.row.now)
    (made_files s m.issuer.row.now (zip ds (map (λ o. o.hash) objects))) (files m.issuer.row.now)) ms
    → AreListed s (trace_over keys entries files made listed)
files-are s keys rows entries files ds ms old between objects made listed are each lists =
    let trace = trace_over keys entries files made listed in
    let hashes : map (hashed s trace) made ≡ zip ds (map (λ (o : Object). o.hash) objects) =
    zip-hashes (λ (x : Signed). x.draft) (λ (x : Signed). sha256 (bytes_of s keys (words.drafts s keys) entries x)) made ds
    (map (λ (o : Object). o.hash) objects) are.each are.hashes in
    all-of-map (λ (d : words.Draft). AreFiles s trace d.issuer (files d.issuer)) (λ (x : Signed). x.draft) listed
    (subst (All (λ (d : words.Draft). AreFiles s trace d.issuer (files d.issuer))) (sym each)
    (All-map (λ (d : words.Draft). AreFiles s trace d.issuer (files d.issuer)) manifest_of ms
    (λ k d lt.
    subst (λ (l : List (words.Draft × List ℕ)). AreMerged (kept_files s (puts s keys) (get_or ms k d).issuer.row.now)
    (made_files s (get_or ms k d).issuer.row.now l) (files (get_or ms k d).issuer.row.now))
    (sym hashes) (lists k d lt))))

-- ---- before the manifests

-- The signing of the other objects stopped.
pub drafts-stop : (s : IssueInput) (keys : Keys) (rows : List KeyRow) (entries : Entries) (plan : ObjectPlan) (ds : List code.Draft)
    (old new : List SignerState) (fault : MakeFault) → ds ≡ plan.drafts.items
    → IsStop (of_drafts s (sign_input_of s keys rows entries (λ key. []))) (map draft_of ds) old new fault
    → IsSigningStop s keys entries plan old new fault
drafts-stop s keys rows entries plan ds old new (SignerFault signer) same stop =
    let listed = blank (map manifest_of plan.manifests.items) in
    let trace = trace_over keys entries (λ key. []) stop.begun.made listed in
    let fails = first-fails stop.calls stop.others (to_objects s trace) signer stop.next stop.behind stop.begun.whole stop.more in (
      stop.calls,
      record {
        files = λ key. [];
        objects = stop.begun.made;
        listed = listed;
        drafts = stop.begun.each ∙ ap (map draft_of) same;
        manifests = drafts-blank (map manifest_of plan.manifests.items);
        lists = inl fails.within;
        signed = signed-objects s trace (Some signer) stop.calls stop.others stop.begun.whole fails stop.phase;
      },
      stop.fault,
    )
drafts-stop s keys rows entries plan ds old new (KeyClash id) same stop = absurd stop
drafts-stop s keys rows entries plan ds old new Memory same stop =
    let listed = blank (map manifest_of plan.manifests.items) in
    let trace = trace_over keys entries (λ key. []) stop.begun.made listed in
    let within = first-within stop.calls stop.others (to_objects s trace) stop.begun.whole in (
      stop.calls,
      record {
        files = λ key. [];
        objects = stop.begun.made;
        listed = listed;
        drafts = stop.begun.each ∙ ap (map draft_of) same;
        manifests = drafts-blank (map manifest_of plan.manifests.items);
        lists = inl within;
        signed = signed-objects s trace None stop.calls stop.others stop.begun.whole within stop.phase;
      },
      stop.signers,
    )

-- Memory ran out behind it.
pub drafts-short : (s : IssueInput) (keys : Keys) (rows : List KeyRow) (entries : Entries) (plan : ObjectPlan) (ds : List code.Draft)
    (old new : List SignerState) (objects : List Object) (made : List Signed) → ds ≡ plan.drafts.items
    → AreMade s (sign_input_of s keys rows entries (λ key. [])) (of_drafts s (sign_input_of s keys rows entries (λ key. []))) (map draft_of ds)
    old new objects made
    → IsSigningStop s keys entries plan old new Memory
drafts-short s keys rows entries plan ds old new objects made same are =
    let listed = blank (map manifest_of plan.manifests.items) in
    let trace = trace_over keys entries (λ key. []) made listed in (
      to_objects s trace,
      record {
        files = λ key. [];
        objects = made;
        listed = listed;
        drafts = are.each ∙ ap (map draft_of) same;
        manifests = drafts-blank (map manifest_of plan.manifests.items);
        lists = inl (λ n. omega arith);
        signed = all-objects s trace;
      },
      are.signers,
    )

-- ---- while manifests are signed

pub manifests-stop : (s : IssueInput) (keys : Keys) (rows : List KeyRow) (entries : Entries) (files : Files) (plan : ObjectPlan)
    (ds : List code.Draft) (ms : List manifests.ManifestDraft) (old between new : List SignerState) (objects : List Object) (made : List Signed)
    (fault : MakeFault) → ds ≡ plan.drafts.items → ms ≡ plan.manifests.items
    → AreMade s (sign_input_of s keys rows entries files) (of_drafts s (sign_input_of s keys rows entries files)) (map draft_of ds)
    old between objects made
    → All (λ m. AreMerged (kept_files s (puts s keys) m.issuer.row.now)
    (made_files s m.issuer.row.now (zip (map draft_of ds) (map (λ o. o.hash) objects))) (files m.issuer.row.now)) ms
    → IsStop (of_manifests s (sign_input_of s keys rows entries files)) (map manifest_of ms) between new fault
    → IsSigningStop s keys entries plan old new fault
manifests-stop s keys rows entries files plan ds ms old between new objects made (SignerFault signer) same also are lists stop =
    let trace = trace_over keys entries files made stop.begun.made in
    let all = (of_manifests s (sign_input_of s keys rows entries files)).calls stop.begun.made in
    let fails = first-fails stop.calls stop.others all signer stop.next stop.behind stop.begun.whole stop.more in (
      to_objects s trace ++ stop.calls,
      record {
        files = files;
        objects = made;
        listed = stop.begun.made;
        drafts = are.each ∙ ap (map draft_of) same;
        manifests = stop.begun.each ∙ ap (map manifest_of) also;
        lists = inr (files-are s keys rows entries files (map draft_of ds) ms old between objects made stop.begun.made are stop.begun.each lists);
        signed = signed-manifests s trace (Some signer) stop.calls stop.others stop.begun.whole fails stop.phase;
      },
      subst (λ (ring : List SignerState). CountFaults signer ring new)
          (ap (λ (ring : List SignerState). after_calls ring stop.calls) are.signers ∙ calls-on old (to_objects s trace) stop.calls) stop.fault,
    )
manifests-stop s keys rows entries files plan ds ms old between new objects made (KeyClash id) same also are lists stop = absurd stop
manifests-stop s keys rows entries files plan ds ms old between new objects made Memory same also are lists stop =
    let trace = trace_over keys entries files made stop.begun.made in
    let all = (of_manifests s (sign_input_of s keys rows entries files)).calls stop.begun.made in
    let within = first-within stop.calls stop.others all stop.begun.whole in (
      to_objects s trace ++ stop.calls,
      record {
        files = files;
        objects = made;
        listed = stop.begun.made;
        drafts = are.each ∙ ap (map draft_of) same;
        manifests = stop.begun.each ∙ ap (map manifest_of) also;
        lists = inr (files-are s keys rows entries files (map draft_of ds) ms old between objects made stop.begun.made are stop.begun.each lists);
        signed = signed-manifests s trace None stop.calls stop.others stop.begun.whole within stop.phase;
      },
      stop.signers ∙ (ap (λ (ring : List SignerState). after_calls ring stop.calls) are.signers ∙ calls-on old (to_objects s trace) stop.calls),
    )
