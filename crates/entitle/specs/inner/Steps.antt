-- How far names are from the trust anchor, and sets that have come down a part of the way.
use Rattle.std.specs.Prelude.{◌≡◌, ℕ, ◌<◌, ◌≤◌, zero, suc, Bool, true, false, List, length, get_or, slice_get, Option, None, Some, if◌then◌else◌}
use Rattle.res_sets.specs.declared.numbers.Family.{Family}
use Rattle.res_sets.specs.declared.holdings.Resources.{Resources}
use Rattle.res_sets.specs.Triples.{has}
use Rattle.authority_book.specs.declared.rows.NameRow.{NameRow}
use Rattle.authority_book.specs.Settings.{Settings}
use Rattle.authority_book.specs.Listed.{place_of}
use Rattle.entitle.specs.Certified.{Grant, is_anchor, grant_of, certified, most_parents}

abbrev pub reaches_from : (List ℕ → Bool) → Option Grant → Bool
reaches_from above None = false
reaches_from above (Some grant) = above grant.parent

-- The name has the anchor among its first so many parents, or is the anchor.
abbrev pub reaches : List Settings → ℕ → List ℕ → Bool
reaches configs zero name = is_anchor name
reaches configs (suc parents) name =
    if is_anchor name then true else reaches_from (reaches configs parents) (grant_of configs name)

-- So many parents are needed to reach the anchor, and no fewer.
pub record IsReachedBy (configs : List Settings) (name : List ℕ) (parents : ℕ) : Type 0 where
  pub within : parents ≤ most_parents
  pub enough : reaches configs parents name ≡ true
  pub least : (fewer : ℕ) → fewer < parents → reaches configs fewer name ≡ false

-- How many parents are needed, or none where they aren't enough.
abbrev pub IsSteps : List Settings → List ℕ → Option ℕ → Type 0
IsSteps configs name None = (parents : ℕ) → parents ≤ most_parents → reaches configs parents name ≡ false
IsSteps configs name (Some parents) = IsReachedBy configs name parents

-- How many parents each name needs.
pub record AreSteps (configs : List Settings) (names : List NameRow) (steps : List (Option ℕ)) : Type 0 where
  pub one_each : length steps ≡ length names
  pub each : (place : ℕ) (row : NameRow) → place < length names →
      IsSteps configs (get_or names place row).name (get_or steps place None)

-- The sets have what comes down along so many parents.
pub record AreAfter (configs : List Settings) (names : List NameRow) (parents : ℕ) (sets : List Resources) : Type 0 where
  pub one_each : length sets ≡ length names
  pub members : (place : ℕ) (row : NameRow) (set : Resources) → place < length sets →
      (family : Family) (number : ℕ) → has (get_or sets place set) family number
      ≡ certified configs parents (get_or names place row).name family number

abbrev pub has_of : Option Resources → Family → ℕ → Bool
has_of None family number = false
has_of (Some set) family number = has set family number

abbrev pub set_at : List Resources → Option ℕ → Option Resources
set_at sets None = None
set_at sets (Some place) = slice_get sets place

-- Whether the set at the name's place has the number.
abbrev pub has_at : List NameRow → List Resources → List ℕ → Family → ℕ → Bool
has_at names sets name family number = has_of (set_at sets (place_of names name)) family number
