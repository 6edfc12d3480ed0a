-- The files that a manifest lists (RFC 9286 section 4.2.1).
use Rattle.std.specs.Prelude.{◌≡◌, ℕ, Bool, true, not, ◌&&◌, List, ◌++◌, map, filter, length, drop}
use Rattle.std.specs.Prelude.{IsPermutation, All, nat_eq}
use Rattle.std.specs.List.{starts_with}
use Rattle.std.specs.Str.{bytes_eq}
use Rattle.key_ids.specs.Uris.{anchor_uri, folder_of}
use Rattle.key_roll.specs.declared.rows.KeyRow.{KeyRow}
use Rattle.key_roll.specs.declared.issued.IssuedRow.{IssuedRow}
use Rattle.payloads.specs.Order.{rises}
use Rattle.payloads.specs.ManifestFormats.{is_name, is_name_below}
use Rattle.issue_keys.specs.Keys.{id_of}
use Rattle.issue_drafts.specs.IssueInput.{IssueInput}
use Rattle.issue_drafts.specs.Publishers.{is_key, name_at}
use Rattle.issue_drafts.specs.Drafts.{Draft}
use Rattle.issue_drafts.specs.Revoking.{is_touched}

-- A file by its name in the folder, and its hash.
abbrev pub name_in : List ℕ → List ℕ → List ℕ
name_in folder uri = drop (length folder) uri

-- What the key issued that stands and stays, but the trust anchor's own certificate.
abbrev pub is_kept : IssueInput → List Draft → KeyRow → IssuedRow → Bool
is_kept s puts key row =
    bytes_eq row.issuer.bytes (id_of key) && not (bytes_eq row.uri (anchor_uri s.site))
    && not (is_touched s puts row.uri)

abbrev pub kept_file : List ℕ → IssuedRow → List ℕ × List ℕ
kept_file folder row = (name_in folder row.uri, row.hash)

abbrev pub names_of : List (List ℕ × List ℕ) → List (List ℕ)
names_of files = map (λ file. file.0) files

-- Those that stay and those that are made, by rising name.
pub record AreMerged (kept made files : List (List ℕ × List ℕ)) : Type 0 where
  pub permutation : IsPermutation (kept ++ made) files
  pub rising : rises is_name_below (map (λ file. file.0) files) ≡ true

-- The folder of a key's authority.
abbrev pub folder_at : IssueInput → KeyRow → List ℕ
folder_at s key = folder_of s.site (name_at s.names key.desk)

abbrev pub kept_files : IssueInput → List Draft → KeyRow → List (List ℕ × List ℕ)
kept_files s puts key = map (kept_file (folder_at s key)) (filter (is_kept s puts key) s.issued)

-- What the key issues, but the trust anchor's own certificate.
abbrev pub is_made_under : IssueInput → KeyRow → Draft → Bool
is_made_under s key d = is_key d.issuer key && not (bytes_eq d.uri (anchor_uri s.site))

-- An object that is made, and its hash.
abbrev pub made_file : List ℕ → Draft × List ℕ → List ℕ × List ℕ
made_file folder made = (name_in folder made.0.uri, made.1)

abbrev pub made_files : IssueInput → KeyRow → List (Draft × List ℕ) → List (List ℕ × List ℕ)
made_files s key made =
    map (made_file (folder_at s key)) (filter (λ m. is_made_under s key m.0) made)

-- A URI in the folder, under a name that a manifest can list.
pub record IsListable (folder uri : List ℕ) : Type 0 where
  pub inside : starts_with nat_eq uri folder ≡ true
  pub name : is_name (name_in folder uri) ≡ true

-- What the key has can be listed: what stays, and what is made.
pub record AreListable (s : IssueInput) (puts drafts : List Draft) (key : KeyRow) : Type 0 where
  pub kept :
      All (λ row. is_kept s puts key row ≡ true → IsListable (folder_at s key) row.uri) s.issued
  pub made :
      All (λ d. is_made_under s key d ≡ true → IsListable (folder_at s key) d.uri) drafts
