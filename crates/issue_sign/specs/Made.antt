-- What the signing of an edition's objects answers.
use Rattle.std.specs.Prelude.{◌≡◌, ◌<◌, ◌≤◌, ◌⊎◌, ℕ, List, [], ◌∷◌, ◌++◌, length, map, All}
use Rattle.std.specs.Option.{option_map_or}
use Rattle.sha2.specs.Sha256.{sha256}
use Rattle.signer_api.specs.State.{SignerState}
use Rattle.signer_ring.specs.Calls.{Call, after_calls, IsVouched}
use Rattle.signer_ring.specs.Jobs.{calls_on, CountFaults}
use Rattle.issue_keys.specs.declared.fault.MakeFault.{MakeFault}
use Rattle.issue_keys.specs.declared.fault.MakeFault.TheVariants.{SignerFault, KeyClash, Memory}
use Rattle.issue_drafts.specs.IssueInput.{IssueInput}
use Rattle.issue_drafts.specs.Drafts.{Draft}
use Rattle.issue_sign.specs.declared.object.Object.{Object}
use Rattle.issue_sign.specs.Objects.{Answers, Signed, bytes_of, manifest_bytes}
use Rattle.issue_sign.specs.Calls.{first_calls, second_calls, content_calls, last_calls}
use Rattle.issue_sign.specs.SignInput.{SignInputValue}
use Rattle.issue_sign.specs.Spelled.{IsSpelled}

-- What the signers answered for an object.
abbrev pub answers_of : Object → Answers
answers_of o = record {
  once = option_map_or (λ once. once.key.bytes) o.once [];
  content = option_map_or (λ once. once.signature.bytes) o.once [];
  last = o.signature.bytes;
}

-- Objects with what was answered for them, as far as there are answers.
abbrev pub signed : List Draft → List Answers → List Signed
signed [] answers = []
signed (d ∷ drafts) [] = []
signed (d ∷ drafts) (a ∷ answers) =
    record { draft = d; answers = a } ∷ signed drafts answers

-- ---- two ways of signing: that of manifests, and that of the others

-- The calls for objects, those of them that come first, and the bytes of each.
pub record Way : Type 0 where
  pub calls : List Signed → List Call
  pub firsts : List Signed → List Call
  pub bytes : Signed → List ℕ

abbrev pub of_drafts : IssueInput → SignInputValue → Way
of_drafts s b = record {
  calls = λ made. first_calls s b.keys b.all b.entries made ++ second_calls s b.keys b.all made;
  firsts = first_calls s b.keys b.all b.entries;
  bytes = bytes_of s b.keys b.all b.entries;
}

abbrev pub of_manifests : IssueInput → SignInputValue → Way
of_manifests s b = record {
  calls = λ made. content_calls s b.files made ++ last_calls s b.keys b.all made;
  firsts = content_calls s b.files;
  bytes = manifest_bytes s b.keys b.all b.files;
}

-- ---- at the end

-- All of the objects are made. The signers made these calls and no others, each its own in this
-- order, and vouch for what they signed.
pub record AreMade
    (s : IssueInput) (b : SignInputValue) (way : Way) (drafts : List Draft)
    (old new : List SignerState) (objects : List Object) (made : List Signed) : Type 0 where
  pub each : map (λ x. x.draft) made ≡ drafts
  pub signers : new ≡ after_calls old (way.calls made)
  pub vouched : All (IsVouched new) (way.calls made)
  pub bytes : map (λ o. o.bytes) objects ≡ map way.bytes made
  pub hashes : map (λ o. o.hash) objects ≡ map (λ x. sha256 (way.bytes x)) made
  pub spelled : All (λ x. IsSpelled s b x.draft x.draft.kind x.answers) made

-- ---- why it stopped

-- Of each signer these calls are the first of its own, of those for all these objects, and it has
-- these others, whatever was to be answered to them.
pub record AreBegun
    (way : Way) (drafts : List Draft) (calls : List Call) (others : ℕ → List Call) : Type 0 where
  pub made : List Signed
  pub each : map (λ x. x.draft) made ≡ drafts
  pub whole : (n : ℕ) → calls_on n calls ++ others n ≡ calls_on n (way.calls made)

-- Each signer has no more of the former than of the latter.
abbrev pub AreWithin : List Call → List Call → Type 0
AreWithin fewer more = (n : ℕ) → length (calls_on n fewer) ≤ length (calls_on n more)

-- Nobody made another than those calls, and the signer of that number hasn't made all of its own.
pub record FailsWithin (made calls : List Call) (number : ℕ) : Type 0 where
  pub within : AreWithin made calls
  pub short : length (calls_on number made) < length (calls_on number calls)

-- Of the signers that counted a fault at the call that came next, that one is the least. Each
-- behind it may have counted one, too. Its call is a first one, and nobody made another than these;
-- or all first ones are made.
pub record IsFault
    (way : Way) (drafts : List Draft) (old new : List SignerState) (number : ℕ) : Type 0 where
  pub calls : List Call
  pub others : ℕ → List Call
  pub begun : AreBegun way drafts calls others
  pub next : Call
  pub behind : List Call
  pub more : others number ≡ next ∷ behind
  pub phase : FailsWithin calls (way.firsts begun.made) number
      ⊎ AreWithin (way.firsts begun.made) calls
  pub fault : CountFaults number (after_calls old calls) new

-- Memory ran out behind such calls: behind first ones alone, or behind all of them.
pub record IsShort
    (way : Way) (drafts : List Draft) (old new : List SignerState) : Type 0 where
  pub calls : List Call
  pub others : ℕ → List Call
  pub begun : AreBegun way drafts calls others
  pub phase : AreWithin calls (way.firsts begun.made) ⊎ AreWithin (way.firsts begun.made) calls
  pub signers : new ≡ after_calls old calls

abbrev pub IsStop :
    Way → List Draft → List SignerState → List SignerState → MakeFault → Type 0
IsStop way drafts old new (SignerFault signer) = IsFault way drafts old new signer
IsStop way drafts old new (KeyClash id) = ⊥
IsStop way drafts old new Memory = IsShort way drafts old new
