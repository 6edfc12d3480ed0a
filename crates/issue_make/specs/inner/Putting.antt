-- What is put, from the drafts and the objects as the code has them.
use Rattle.std.specs.Prelude.{◌≡◌, ℕ, ◌+◌, ◌<◌, List, ◌++◌, map, length, slice_get, slice_index}
use Rattle.std.specs.Prelude.{Option, Some, option_map, All}
use Rattle.std.specs.Simd.Lanes.{zip2}
use Rattle.sha2.specs.Sha256.{sha256}
use Rattle.pub_set.specs.declared.steps.Change.{Change}
use Rattle.pub_set.specs.declared.steps.Change.TheVariants.{Put, Withdraw}
use Rattle.pub_set.specs.Objects.{found_at}
use Rattle.key_roll.specs.declared.issued.IssuedRow.{IssuedRow}
use Rattle.key_roll.specs.declared.issued.What.{What}
use Rattle.key_roll.specs.declared.issued.What.TheVariants.{Authority, Route, Point}
use Rattle.issue_drafts.specs.WorkKeys.{key_of}
use Rattle.issue_drafts.specs.IssueInput.{IssueInput}
use Rattle.issue_drafts.specs.Drafts.{Draft, Kind, serial_behind}
use Rattle.issue_drafts.specs.Drafts.Kind.{Certificate, Roa, Crl, Manifest}
use Rattle.issue_drafts.specs.Serials.{given_serial}
use Rattle.issue_drafts.specs.Views.{draft_of, manifest_of}
use Rattle.issue_drafts.specs.declared.draft.ManifestDraft.{ManifestDraft}
use Rattle.issue_sign.specs.declared.object.Object.{Object}
use Rattle.issue_sign.specs.Objects.{bytes_of, manifest_bytes}
use Rattle.issue_make.specs.declared.publishing.Numbered.{Numbered}
use Rattle.issue_make.specs.Trace.{IssuingTrace, all_of, life_of}

-- ---- rows

-- What a row says that an object is.
abbrev pub what_of : Kind → What
what_of (Certificate subject held) = Authority (key_of subject) held
what_of (Roa origin) = Route origin
what_of Crl = Point
what_of Manifest = Point

-- The row of an object with that serial and that hash.
abbrev pub row_of : ℕ → Draft → ℕ → List ℕ → IssuedRow
row_of moment d serial hash = record {
  uri = d.uri;
  issuer = key_of d.issuer;
  serial = serial;
  not_after = moment + life_of d.kind;
  hash = hash;
  what = what_of d.kind;
}

-- Drafts with their serials.
abbrev pub with_serials : List Draft → List ℕ → List (Draft × ℕ)
with_serials drafts serials = zip2 (λ d serial. (d, serial)) drafts serials

abbrev pub draft_rows : ℕ → List Draft → List ℕ → List (List ℕ) → List IssuedRow
draft_rows moment drafts serials hashes =
    zip2 (λ d hash. row_of moment d.0 d.1 hash) (with_serials drafts serials) hashes

-- A manifest has the serial that comes next under its key.
abbrev pub next_serials : List ℕ → List ManifestDraft → List ℕ
next_serials next drafts = map (λ d. slice_index next d.issuer.position) drafts

abbrev pub HavePositions : List ManifestDraft → List ℕ → Type 0
HavePositions drafts next = All (λ d. d.issuer.position < length next) drafts

abbrev pub hashes_of : List Object → List (List ℕ)
hashes_of objects = map (λ o. o.hash) objects

abbrev pub contents_of : List Object → List (List ℕ)
contents_of objects = map (λ o. o.bytes) objects

-- All rows: those of manifests behind the others.
abbrev pub rows_of : ℕ → Numbered → List Object → List Object → List IssuedRow
rows_of moment n objects listed =
    draft_rows moment (map draft_of n.drafts.now) n.given.now (hashes_of objects)
    ++ draft_rows moment (map manifest_of n.manifests.now)
    (next_serials n.next.now n.manifests.now) (hashes_of listed)

-- ---- changes

-- The hash of what stands at a URI.
abbrev pub hash_in : List IssuedRow → List ℕ → Option (List ℕ)
hash_in issued uri = found_at (λ row. row.uri) (λ row. row.hash) issued uri

abbrev pub put_by : List IssuedRow → IssuedRow → List ℕ → Change
put_by issued row bytes = Put row.uri bytes (hash_in issued row.uri)

abbrev pub puts_by : List IssuedRow → List IssuedRow → List (List ℕ) → List Change
puts_by issued rows contents = zip2 (put_by issued) rows contents

abbrev pub withdrawal_by : List IssuedRow → List ℕ → Option Change
withdrawal_by issued uri = option_map (λ hash. Withdraw uri hash) (hash_in issued uri)

-- ---- whose they are

-- Each draft has its serial and its object.
pub record IsWhole (n : Numbered) (made signed : ℕ) : Type 0 where
  pub given : length n.given.now ≡ length n.drafts.now
  pub objects : made ≡ length n.drafts.now
  pub positions : HavePositions n.manifests.now n.next.now
  pub listed : signed ≡ length n.manifests.now

-- The URIs at which objects are put.
abbrev pub uris_of : Numbered → List (List ℕ)
uris_of n = map (λ d. d.uri) n.drafts.now ++ map (λ d. d.uri) n.manifests.now

-- They are the objects of that trace, with the serials that it gives.
pub record IsOf
    (s : IssueInput) (n : Numbered) (objects listed : List Object) (trace : IssuingTrace)
    : Type 0 where
  pub drafts : map (λ x. x.draft) trace.objects ≡ map draft_of n.drafts.now
  pub given : n.given.now ≡ map (λ d. given_serial (all_of s trace) (draft_of d)) n.drafts.now
  pub contents : contents_of objects
      ≡ map (bytes_of s trace.keys (all_of s trace) trace.entries) trace.objects
  pub hashes : hashes_of objects
      ≡ map (λ x. sha256 (bytes_of s trace.keys (all_of s trace) trace.entries x))
      trace.objects
  pub manifests : map (λ x. x.draft) trace.listed ≡ map manifest_of n.manifests.now
  pub next : All (λ d. slice_get n.next.now d.issuer.position
      ≡ Some (serial_behind (all_of s trace) d.issuer.row.now)) n.manifests.now
  pub listed_contents : contents_of listed
      ≡ map (manifest_bytes s trace.keys (all_of s trace) trace.files) trace.listed
  pub listed_hashes : hashes_of listed
      ≡ map (λ x. sha256 (manifest_bytes s trace.keys (all_of s trace) trace.files x))
      trace.listed
