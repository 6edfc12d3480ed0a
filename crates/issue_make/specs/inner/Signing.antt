-- The objects of a plan, signed.
use Rattle.std.specs.Prelude.{◌≡◌, ◌<◌, ◌^◌, ◌⊎◌, ℕ, true, List, [], ◌++◌, map, length, All}
use Rattle.std.specs.Prelude.{Option, None, Some}
use Rattle.std.specs.List.{HoldsAt, zip}
use Rattle.cert_obj.specs.Values.{is_uri}
use Rattle.pub_set.specs.Objects.{Rise}
use Rattle.signer_api.specs.State.{SignerState}
use Rattle.signer_ring.specs.Calls.{Call, after_calls}
use Rattle.signer_ring.specs.Jobs.{CountFaults}
use Rattle.key_roll.specs.declared.rows.KeyRow.{KeyRow}
use Rattle.issue_values.specs.Certificates.{IsEditionMoment}
use Rattle.issue_values.specs.Bodies.{AreRevoked}
use Rattle.issue_keys.specs.declared.fault.MakeFault.{MakeFault}
use Rattle.issue_keys.specs.declared.fault.MakeFault.TheVariants.{SignerFault, KeyClash, Memory}
use Rattle.issue_drafts.specs.WorkKeys.{Keys}
use Rattle.issue_drafts.specs.IssueInput.{IssueInput}
use Rattle.issue_drafts.specs.Drafts as words
use Rattle.issue_drafts.specs.Views.{draft_of, manifest_of}
use Rattle.issue_drafts.specs.declared.draft.KeyAt.{KeyAt}
use Rattle.issue_drafts.specs.declared.draft.DraftKind.{DraftKind}
use Rattle.issue_drafts.specs.declared.draft.DraftKind.TheVariants.{Authority, Route, Crl}
use Rattle.issue_drafts.specs.Files.{AreMerged, AreListable, kept_files, made_files}
use Rattle.issue_drafts.specs.Touching.{AreTouched}
use Rattle.issue_sign.specs.Objects.{Entries, Files, Signed}
use Rattle.issue_sign.specs.SignInput.{SignInputValue}
use Rattle.issue_sign.specs.Made.{AreMade, AreWithin, answers_of, signed, of_drafts, of_manifests}
use Rattle.issue_make.specs.Trace.{IssuingTrace, AreListed}
use Rattle.issue_make.specs.Made.{to_objects, AreSignedTo, IsSigned}
use Rattle.issue_make.specs.ObjectPlan.{puts, IsObjectPlan}
use Rattle.issue_make.specs.declared.plans.ObjectPlan.{ObjectPlan}
use Rattle.issue_make.specs.declared.objects.Objects.{Objects}

-- What the objects of a plan are made of.
abbrev pub sign_input_of : IssueInput → Keys → List KeyRow → Entries → Files → SignInputValue
sign_input_of s keys rows entries files = record {
  rows = rows;
  keys = keys;
  all = words.drafts s keys;
  entries = entries;
  files = files;
}

-- ---- what can be signed

-- A key that can issue: it is among the plan's, certificates can name its own, it has one more
-- number, and its signer is there.
pub record CanIssueIn (plan : ObjectPlan) (signers : ℕ) (key : KeyAt) : Type 0 where
  pub inside : key.position < length plan.publishers.items
  pub certified : HoldsAt (λ p. is_uri p.certificate ≡ true) plan.publishers.items key.position
  pub number : key.row.now.number < 2 ^ 62
  pub signer : key.row.now.signer < signers

abbrev pub CanBe : ObjectPlan → KeyAt → List ℕ → DraftKind → Type 0
CanBe plan issuer uri (Authority subject held) = subject.position < length plan.publishers.items
CanBe plan issuer uri (Route origin) = is_uri uri ≡ true
CanBe plan issuer uri Crl = issuer.position < length plan.revoked.items

pub record CanBeSigned (s : IssueInput) (plan : ObjectPlan) (signers : ℕ) : Type 0 where
  pub keys : Keys
  pub rows : List KeyRow
  pub entries : Entries
  pub is_plan : IsObjectPlan s keys rows plan
  pub are_entries : plan.revoked.items ≡ map entries rows
  pub moment : IsEditionMoment s.work.moment
  pub revoked : All (AreRevoked s.work.moment) plan.revoked.items
  pub issuers : All (λ d. CanIssueIn plan signers d.issuer) plan.drafts.items
  pub kinds : All (λ d. CanBe plan d.issuer d.uri d.kind) plan.drafts.items
  pub given : length plan.serials.given.items ≡ length plan.drafts.items
  pub next : length plan.serials.next.items ≡ length plan.publishers.items
  pub listed : All (λ m. CanIssueIn plan signers m.issuer) plan.manifests.items
  pub names : All (λ m. m.issuer.row.now.desk < length s.names) plan.manifests.items
  pub standing : Rise (λ row. row.uri) s.issued
  pub rising : Rise (λ d. d.uri) (map draft_of plan.drafts.items)
  pub touched : AreTouched s
      (map draft_of plan.drafts.items ++ map manifest_of plan.manifests.items) plan.touched
  pub listable : All (λ m. AreListable s
      (map draft_of plan.drafts.items ++ map manifest_of plan.manifests.items)
      (map draft_of plan.drafts.items) m.issuer.row.now) plan.manifests.items

-- ---- what is signed

-- All objects are made, the manifests behind the others. A manifest lists the files of its key.
pub record AreSigned
    (s : IssueInput) (keys : Keys) (rows : List KeyRow) (entries : Entries) (plan : ObjectPlan)
    (old new : List SignerState) (objects : Objects) : Type 0 where
  pub files : Files
  pub between : List SignerState
  pub lists : All (λ m. AreMerged (kept_files s (puts s keys) m.issuer.row.now)
      (made_files s m.issuer.row.now
      (zip (map draft_of plan.drafts.items) (map (λ o. o.hash) objects.drafted.items)))
      (files m.issuer.row.now)) plan.manifests.items
  pub drafted : AreMade s (sign_input_of s keys rows entries files)
      (of_drafts s (sign_input_of s keys rows entries files)) (map draft_of plan.drafts.items)
      old between objects.drafted.items
      (signed (map draft_of plan.drafts.items) (map answers_of objects.drafted.items))
  pub listed : AreMade s (sign_input_of s keys rows entries files)
      (of_manifests s (sign_input_of s keys rows entries files))
      (map manifest_of plan.manifests.items)
      between new objects.listed.items
      (signed (map manifest_of plan.manifests.items) (map answers_of objects.listed.items))

-- ---- why it stopped

-- A trace over those keys and entries.
abbrev pub trace_over :
    Keys → Entries → Files → List Signed → List Signed → IssuingTrace
trace_over keys entries files objects listed = record {
  keys = keys;
  objects = objects;
  listed = listed;
  entries = entries;
  files = files;
}

-- The objects of a plan are signed as far as these calls. What its manifests list is left open as
-- long as nothing of them is signed.
pub record IsPlanSigned
    (s : IssueInput) (keys : Keys) (entries : Entries) (plan : ObjectPlan) (failed : Option ℕ)
    (calls : List Call)
    : Type 0 where
  pub files : Files
  pub objects : List Signed
  pub listed : List Signed
  pub drafts : map (λ x. x.draft) objects ≡ map draft_of plan.drafts.items
  pub manifests : map (λ x. x.draft) listed ≡ map manifest_of plan.manifests.items
  pub lists :
      AreWithin calls (to_objects s (trace_over keys entries files objects listed))
      ⊎ AreListed s (trace_over keys entries files objects listed)
  pub signed : AreSignedTo s (trace_over keys entries files objects listed) failed calls

-- Behind such calls a signer counted a fault, or memory ran out.
abbrev pub IsSigningStop :
    IssueInput → Keys → Entries → ObjectPlan → List SignerState → List SignerState → MakeFault
    → Type 0
IsSigningStop s keys entries plan old new (SignerFault signer) =
    (calls : List Call) × IsPlanSigned s keys entries plan (Some signer) calls
    × CountFaults signer (after_calls old calls) new
IsSigningStop s keys entries plan old new (KeyClash id) = ⊥
IsSigningStop s keys entries plan old new Memory =
    (calls : List Call) × IsPlanSigned s keys entries plan None calls
    × (new ≡ after_calls old calls)

-- The same of an edition over these new keys; memory may run out before anything is signed.
abbrev pub IsObjectsStop :
    IssueInput → List KeyRow → List KeyRow → List SignerState → List SignerState → MakeFault
    → Type 0
IsObjectsStop s live fresh old new (SignerFault signer) =
    (calls : List Call) × IsSigned s live fresh (Some signer) calls
    × CountFaults signer (after_calls old calls) new
IsObjectsStop s live fresh old new (KeyClash id) = ⊥
IsObjectsStop s live fresh old new Memory =
    (calls : List Call) × ((calls ≡ []) ⊎ IsSigned s live fresh None calls)
    × (new ≡ after_calls old calls)
