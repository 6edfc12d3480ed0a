-- The URIs that an edition puts or withdraws.
use Rattle.std.specs.Prelude.{◌≡◌, ℕ, Bool, List}
use Rattle.std.specs.List.{list_any}
use Rattle.std.specs.List.Sorted.{IsSortedBy}
use Rattle.std.specs.Ordering.{is_lt}
use Rattle.std.specs.Str.{bytes_eq}
use Rattle.pub_set.specs.Objects.{uri_cmp}
use Rattle.issue_drafts.specs.IssueInput.{IssueInput}
use Rattle.issue_drafts.specs.Drafts.{Draft}
use Rattle.issue_drafts.specs.Revoking.{is_touched}

-- One of the URIs is that one.
abbrev pub has_uri : List ℕ → List (List ℕ) → Bool
has_uri uri uris = list_any (λ other. bytes_eq other uri) uris

-- By URI, byte by byte.
abbrev pub AreByUri : List (List ℕ) → Type 0
AreByUri uris = IsSortedBy (λ a b. is_lt (uri_cmp a b)) uris

-- They are the URIs that are put or withdrawn.
abbrev pub AreTouched : IssueInput → List Draft → List (List ℕ) → Type 0
AreTouched s puts uris = (uri : List ℕ) → has_uri uri uris ≡ is_touched s puts uri
