-- What the making of an edition's objects answers.
use Rattle.std.specs.Prelude.{◌≡◌, ◌⊎◌, ℕ, List, [], ◌++◌, map, sum_by, length, All, Any}
use Rattle.std.specs.Prelude.{Option, None, Some, IsPermutation}
use Rattle.std.specs.List.Sorted.{IsSortedBy, IsStableBy}
use Rattle.pub_set.specs.Changes.{uri_of, change_at}
use Rattle.pub_set.specs.Objects.{Rise}
use Rattle.signer_api.specs.State.{SignerState}
use Rattle.signer_ring.specs.Calls.{Call, after_calls, IsVouched}
use Rattle.signer_ring.specs.Jobs.{calls_on, CountFaults}
use Rattle.key_roll.specs.declared.rows.KeyRow.{KeyRow}
use Rattle.issue_keys.specs.declared.fault.MakeFault.{MakeFault}
use Rattle.issue_keys.specs.declared.fault.MakeFault.TheVariants.{SignerFault, KeyClash, Memory}
use Rattle.issue_keys.specs.Keys.{id_of, AreBegun}
use Rattle.issue_keys.specs.Making.{making, AreApart, IsClash, IsShort}
use Rattle.issue_drafts.specs.WorkKeys.{all_keys}
use Rattle.issue_drafts.specs.IssueInput.{IssueInput}
use Rattle.issue_drafts.specs.Drafts.{manifests, AreOrdered}
use Rattle.issue_make.specs.declared.made.Made.{Made}
use Rattle.issue_sign.specs.Calls.{first_calls, second_calls, content_calls, last_calls}
use Rattle.issue_sign.specs.Made.{AreWithin, FailsWithin}
use Rattle.issue_make.specs.Trace.{IssuingTrace, IsIssuingTrace, all_of, made_of, wanted_at}
use Rattle.issue_make.specs.Trace.{AreKeys, AreEntries, AreListed, IsIssued}
use Rattle.issue_make.specs.Trace.{IsSpelled, row_after, is_before, signatures_of}

-- All calls of the making, in their order.
abbrev pub calls_of : IssueInput → IssuingTrace → List Call
calls_of s trace =
    map making trace.keys.fresh
    ++ first_calls s trace.keys (all_of s trace) trace.entries trace.objects
    ++ second_calls s trace.keys (all_of s trace) trace.objects
    ++ content_calls s trace.files trace.listed
    ++ last_calls s trace.keys (all_of s trace) trace.listed

pub record IsMade
    (s : IssueInput) (live : List KeyRow) (old new : List SignerState) (made : Made) : Type 0 where
  pub trace : IssuingTrace
  pub is_trace : IsIssuingTrace s live trace
  -- the signers made these calls and no others, each its own in this order; what they signed they
  -- vouch for
  pub signers : new ≡ after_calls old (calls_of s trace)
  pub vouched : All (IsVouched new) (calls_of s trace)
  -- at each URI the change that is wanted, and what is put can be read
  pub rising : Rise uri_of made.changes
  pub changes : (uri : List ℕ) → change_at made.changes uri ≡ wanted_at s trace uri
  pub spelled : All (λ x. IsSpelled s trace x.draft x.draft.kind x.answers) (made_of trace)
  -- a row for each object that is put
  pub listed : Rise (λ row. row.uri) made.issued
  pub count : length made.issued ≡ length (made_of trace)
  pub issued : All (λ x. Any (IsIssued s trace x) made.issued) (made_of trace)
  -- the live keys, by desk and role, and those of one desk and role as they stand
  pub rows : IsPermutation (map (row_after s trace) (all_keys trace.keys)) made.rows
  pub sorted : IsSortedBy is_before made.rows
  pub stable : IsStableBy is_before (map (row_after s trace) (all_keys trace.keys)) made.rows
  pub signatures : made.signatures ≡ sum_by (λ x. signatures_of x.draft.kind) (made_of trace)

-- ---- why it stopped

-- The calls up to the end of each phase: certificates, CRLs and the contents of ROAs are signed;
-- then the certificates of ROAs; then the contents of manifests; and then their certificates.
abbrev pub to_firsts : IssueInput → IssuingTrace → List Call
to_firsts s trace = first_calls s trace.keys (all_of s trace) trace.entries trace.objects

abbrev pub to_objects : IssueInput → IssuingTrace → List Call
to_objects s trace = to_firsts s trace ++ second_calls s trace.keys (all_of s trace) trace.objects

abbrev pub to_contents : IssueInput → IssuingTrace → List Call
to_contents s trace = to_objects s trace ++ content_calls s trace.files trace.listed

abbrev pub to_manifests : IssueInput → IssuingTrace → List Call
to_manifests s trace =
    to_contents s trace ++ last_calls s trace.keys (all_of s trace) trace.listed

-- Nobody made another than those calls; and the signer that failed, if one did, hasn't made all of
-- its own.
abbrev pub StopsWithin : Option ℕ → List Call → List Call → Type 0
StopsWithin None made calls = AreWithin made calls
StopsWithin (Some signer) made calls = FailsWithin made calls signer

-- So it is of those calls, or all of them are made.
abbrev pub StopsAt : Option ℕ → List Call → List Call → Type 0
StopsAt failed made calls = StopsWithin failed made calls ⊎ AreWithin calls made

-- The objects of that trace are signed as far as these calls: of each signer they are the first of
-- its own, and it has these others, whatever was to be answered to them. None was asked for a call
-- of a phase before all calls of the phases before it were made.
pub record AreSignedTo
    (s : IssueInput) (trace : IssuingTrace) (failed : Option ℕ) (made : List Call) : Type 0 where
  pub others : ℕ → List Call
  pub first : (n : ℕ) → calls_on n made ++ others n ≡ calls_on n (to_manifests s trace)
  pub within : StopsWithin failed made (to_manifests s trace)
  pub firsts : StopsAt failed made (to_firsts s trace)
  pub objects : StopsAt failed made (to_objects s trace)
  pub contents : StopsAt failed made (to_contents s trace)

-- The trace of an edition over these new keys; what manifests list is left open as long as nothing
-- of them is signed.
pub record IsTraceTo
    (s : IssueInput) (live fresh : List KeyRow) (trace : IssuingTrace) (made : List Call)
    : Type 0 where
  pub keys : AreKeys s live trace.keys
  pub over : trace.keys.fresh ≡ fresh
  pub objects : AreOrdered (all_of s trace) (map (λ x. x.draft) trace.objects)
  pub listed : AreOrdered (manifests s trace.keys) (map (λ x. x.draft) trace.listed)
  pub entries : AreEntries s trace
  pub files : AreWithin made (to_objects s trace) ⊎ AreListed s trace

-- The calls that sign, once all keys are made.
pub record IsSigned
    (s : IssueInput) (live fresh : List KeyRow) (failed : Option ℕ) (made : List Call)
    : Type 0 where
  pub trace : IssuingTrace
  pub is_trace : IsTraceTo s live fresh trace made
  pub signed : AreSignedTo s trace failed made

-- Keys come first, none of which clashes. Once all of them are made the objects over them are
-- signed, that far.
pub record IsBegun
    (s : IssueInput) (live : List KeyRow) (failed : Option ℕ) (calls : List Call) : Type 0 where
  pub fresh : List KeyRow
  pub keys : AreBegun s.work.new_keys fresh
  pub apart : AreApart (map id_of live) fresh
  pub signing : List Call
  pub is : calls ≡ map making fresh ++ signing
  pub signed : (signing ≡ []) ⊎ IsSigned s live fresh failed signing

-- The fault of that signer was counted after such calls. Each signer behind it may have counted
-- one, too, and nothing else changed.
pub record IsFault
    (s : IssueInput) (live : List KeyRow) (old new : List SignerState) (signer : ℕ) : Type 0 where
  pub calls : List Call
  pub begun : IsBegun s live (Some signer) calls
  pub fault : CountFaults signer (after_calls old calls) new

-- Memory ran out while the keys were made, or behind such calls.
abbrev pub IsOut : IssueInput → List KeyRow → List SignerState → List SignerState → Type 0
IsOut s live old new =
    IsShort s.work.new_keys old new
    ⊎ ((calls : List Call) × IsBegun s live None calls × (new ≡ after_calls old calls))

abbrev pub IsStop :
    IssueInput → List KeyRow → List SignerState → List SignerState → MakeFault → Type 0
IsStop s live old new (SignerFault signer) = IsFault s live old new signer
IsStop s live old new (KeyClash id) = IsClash s.work.new_keys live old new id.bytes
IsStop s live old new Memory = IsOut s live old new
