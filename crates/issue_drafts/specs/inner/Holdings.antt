-- How the files of manifests are found.
use Rattle.std.specs.Prelude.{ℕ, Bool, not, ◌&&◌, if◌then◌else◌, List, Option, None, Some, nat_eq}
use Rattle.std.specs.List.{starts_with}
use Rattle.std.specs.Str.{bytes_eq}
use Rattle.key_ids.specs.declared.identifier.KeyId.{KeyId}
use Rattle.key_roll.specs.declared.issued.IssuedRow.{IssuedRow}
use Rattle.issue_drafts.specs.WorkKeys.{key_of}
use Rattle.issue_drafts.specs.Drafts.{Draft}
use Rattle.issue_drafts.specs.Touching.{has_uri}

-- An object that stays, where those URIs are touched and the trust anchor's certificate has that
-- one.
abbrev pub stays : List ℕ → List (List ℕ) → IssuedRow → Bool
stays anchor touched row = not (bytes_eq row.uri anchor) && not (has_uri row.uri touched)

-- The key with that identifier issued it, and it stays.
abbrev pub is_kept_under : List ℕ → List ℕ → List (List ℕ) → IssuedRow → Bool
is_kept_under id anchor touched row = bytes_eq row.issuer.bytes id && stays anchor touched row

-- It lies in the folder.
abbrev pub is_inside : List ℕ → IssuedRow → Bool
is_inside folder row = starts_with nat_eq row.uri folder

-- The key that issues it, but of the trust anchor's own certificate.
abbrev pub made_key : List ℕ → Draft → Option KeyId
made_key anchor d = if bytes_eq d.uri anchor then None else Some (key_of d.issuer)
