-- The bases of a repository's URIs (RFC 3986 section 3, RFC 5781).
use Rattle.std.specs.Prelude.{ℕ, ◌≤◌, List, length, Bool, ◌||◌, ◌==◌, IsTrue, nat_eq, codes}
use Rattle.std.specs.Char.{is_ascii_alphanumeric}
use Rattle.std.specs.List.{AllPass, starts_with, ends_with}

-- A letter, a digit, or one of `-`, `.`, `_`, `~`, `/`, `:`, so that a URI needs no escapes (RFC 3986 sections
-- 2.3 and 3).
abbrev pub is_base_byte : ℕ → Bool
is_base_byte c =
    is_ascii_alphanumeric c || (c == 45) || (c == 46) || (c == 95) || (c == 126) || (c == 47) || (c == 58)

abbrev pub rsync_scheme : List ℕ
rsync_scheme = codes "rsync://"

abbrev pub https_scheme : List ℕ
https_scheme = codes "https://"

-- A base of that scheme: 12 to 200 such bytes, the last of which is `/`.
pub record IsBase (scheme text : List ℕ) : Type 0 where
  pub long : 12 ≤ length text
  pub short : length text ≤ 200
  pub schemed : IsTrue (starts_with nat_eq text scheme)
  pub ended : IsTrue (ends_with nat_eq text (codes "/"))
  pub plain : AllPass is_base_byte text
