-- The keys of an edition as a tree (RFC 6480 section 2): each but the trust anchor's has an issuer.
use Rattle.std.specs.Prelude.{◌≡◌, ◌≢◌, ◌≤◌, ℕ, zero, suc, Bool, true, not, ◌&&◌, List, All, Some}
use Rattle.std.specs.Prelude.{slice_get, false}
use Rattle.res_sets.specs.declared.numbers.Family.{Family}
use Rattle.res_sets.specs.declared.holdings.Resources.{Resources}
use Rattle.res_sets.specs.Triples.{has}
use Rattle.authority_book.specs.declared.rows.NameRow.{NameRow}
use Rattle.authority_book.specs.Settings.{Settings}
use Rattle.entitle.specs.Certified.{names_of, is_anchor, grant_of, most_parents, AreCertified}
use Rattle.entitle.specs.inner.Steps.{reaches_from}
use Rattle.key_roll.specs.declared.rows.KeyRow.{KeyRow}
use Rattle.key_roll.specs.declared.rows.Role.TheVariants.{Current}
use Rattle.issue_plan.specs.Keys.{row_of, holds_nothing}
use Rattle.issue_plan.specs.Wanted.{parents_desk}

-- A desk that has a name and holds something.
pub record IsDesk (configs : List Settings) (sets : List Resources) (desk : ℕ)
    (name : NameRow) : Type 0 where
  pub named : slice_get (names_of configs) desk ≡ Some name
  pub set : Resources
  pub has : slice_get sets desk ≡ Some set
  pub some : holds_nothing set ≡ false

-- The name has just so many parents up to the trust anchor.
abbrev pub is_level : List Settings → ℕ → List ℕ → Bool
is_level configs zero name = is_anchor name
is_level configs (suc parents) name =
    not (is_anchor name) && reaches_from (is_level configs parents) (grant_of configs name)

-- The current key of the parent's authority, which is a level higher and holds all that the desk
-- does.
pub record HasIssuer (configs : List Settings) (sets : List Resources) (keys : List KeyRow)
    (desk : ℕ) (set : Resources) (level : ℕ) : Type 0 where
  pub above : ℕ
  pub parent : parents_desk configs desk ≡ Some above
  pub parents_name : NameRow
  pub is : IsDesk configs sets above parents_name
  pub issuer : KeyRow
  pub current : row_of keys above Current ≡ Some issuer
  pub higher : ℕ
  pub below : level ≡ suc higher
  pub at : is_level configs higher parents_name.name ≡ true
  pub inside : (family : Family) (number : ℕ) → has set family number ≡ true
      → has is.set family number ≡ true

-- The key's authority has a name, holds something, and is at one of the levels; and it has an
-- issuer, if it isn't the trust anchor.
pub record IsInTree (configs : List Settings) (sets : List Resources) (keys : List KeyRow)
    (key : KeyRow) : Type 0 where
  pub name : NameRow
  pub is : IsDesk configs sets key.desk name
  pub level : ℕ
  pub within : level ≤ most_parents
  pub at : is_level configs level name.name ≡ true
  pub issuer : key.desk ≢ 0 → HasIssuer configs sets keys key.desk is.set level

-- Each of these keys is in the tree of what the names are certified for.
pub record AreOfTree (configs : List Settings) (keys : List KeyRow) : Type 0 where
  pub sets : List Resources
  pub certified : AreCertified configs sets
  pub each : All (IsInTree configs sets keys) keys
