-- Both steps one after the other.
use Rattle.std.proofs.Common.{ℕ, List, map}
use Rattle.std.specs.Prelude.{Result, Ok, Err, IfOk, IfErr}
use Rattle.signer_api.specs.State.{SignerState}
use Rattle.payloads.specs.declared.values.ListedFile.{ListedFile}
use Rattle.issue_keys.specs.declared.fault.MakeFault.{MakeFault}
use Rattle.issue_drafts.specs.IssueInput.{input_of}
use Rattle.issue_drafts.specs.Views.{draft_of, manifest_of}
use Rattle.issue_drafts.specs.declared.draft.Draft as code
use Rattle.issue_drafts.specs.declared.draft.ManifestDraft.{ManifestDraft}
use Rattle.issue_sign.specs.declared.sign_input.SignInput.{SignInput}
use Rattle.issue_sign.specs.declared.object.Object.{Object}
use Rattle.issue_sign.specs.declared.steps.Half.{Half}
use Rattle.issue_sign.specs.SignInput.{SignInputValue, IsSignInput, AreDrafts, AreManifests}
use Rattle.issue_sign.specs.Made.{answers_of, signed, of_drafts, of_manifests, AreMade, IsStop}
use Rattle.issue_sign.specs.inner.Steps.{AreHalves, AreContents}

pub made-on : {T E : Type 0} (r : Result T E) (items : T → List Object) (sign_input : SignInput) (drafts : List code.Draft) (serials : List ℕ)
    (halves : List Half) (old now after : List SignerState)
    → ((b : SignInputValue) → IsSignInput sign_input b → AreDrafts b drafts serials → AreHalves (input_of sign_input.input.now) b drafts halves old now)
    → IfOk r (λ x. (b : SignInputValue) (since : List SignerState) → IsSignInput sign_input b → AreDrafts b drafts serials
    → AreHalves (input_of sign_input.input.now) b drafts halves since now
    → AreMade (input_of sign_input.input.now) b (of_drafts (input_of sign_input.input.now) b) (map draft_of drafts) since after (items x)
    (signed (map draft_of drafts) (map answers_of (items x))))
    → IfOk r (λ x. (b : SignInputValue) → IsSignInput sign_input b → AreDrafts b drafts serials
    → AreMade (input_of sign_input.input.now) b (of_drafts (input_of sign_input.input.now) b) (map draft_of drafts) old after (items x)
    (signed (map draft_of drafts) (map answers_of (items x))))
made-on (Ok x) items sign_input drafts serials halves old now after was made = λ b basis are. made b old basis are (was b basis are)
made-on (Err e) items sign_input drafts serials halves old now after was made = tt

pub manifests-on : {T E : Type 0} (r : Result T E) (items : T → List Object) (sign_input : SignInput) (drafts : List ManifestDraft) (next : List ℕ)
    (lists : List (List ListedFile)) (halves : List Half) (old now after : List SignerState)
    → ((b : SignInputValue) (next : List ℕ) → AreManifests b drafts next lists → AreContents (input_of sign_input.input.now) b drafts halves old now)
    → IfOk r (λ x. (b : SignInputValue) (lists : List (List ListedFile)) (since : List SignerState) → IsSignInput sign_input b → AreManifests b drafts next lists
    → AreContents (input_of sign_input.input.now) b drafts halves since now
    → AreMade (input_of sign_input.input.now) b (of_manifests (input_of sign_input.input.now) b) (map manifest_of drafts) since after (items x)
    (signed (map manifest_of drafts) (map answers_of (items x))))
    → IfOk r (λ x. (b : SignInputValue) → IsSignInput sign_input b → AreManifests b drafts next lists
    → AreMade (input_of sign_input.input.now) b (of_manifests (input_of sign_input.input.now) b) (map manifest_of drafts) old after (items x)
    (signed (map manifest_of drafts) (map answers_of (items x))))
manifests-on (Ok x) items sign_input drafts next lists halves old now after was made = λ b basis are. made b lists old basis are (was b next are)
manifests-on (Err e) items sign_input drafts next lists halves old now after was made = tt

pub manifests-stopped : {T : Type 0} (r : Result T MakeFault) (sign_input : SignInput) (drafts : List ManifestDraft) (next : List ℕ)
    (lists : List (List ListedFile)) (halves : List Half) (old now after : List SignerState)
    → ((b : SignInputValue) (next : List ℕ) → AreManifests b drafts next lists → AreContents (input_of sign_input.input.now) b drafts halves old now)
    → IfErr r (λ fault. (b : SignInputValue) (lists : List (List ListedFile)) (since : List SignerState) → IsSignInput sign_input b
    → AreManifests b drafts next lists → AreContents (input_of sign_input.input.now) b drafts halves since now
    → IsStop (of_manifests (input_of sign_input.input.now) b) (map manifest_of drafts) since after fault)
    → IfErr r (λ fault. (b : SignInputValue) → IsSignInput sign_input b → AreManifests b drafts next lists
    → IsStop (of_manifests (input_of sign_input.input.now) b) (map manifest_of drafts) old after fault)
manifests-stopped (Ok x) sign_input drafts next lists halves old now after was stop = tt
manifests-stopped (Err fault) sign_input drafts next lists halves old now after was stop = λ b basis are. stop b lists old basis are (was b next are)
