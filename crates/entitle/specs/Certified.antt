-- Which number resources an authority is certified for (RFC 6487 section 7.2, RFC 6492 section 3.3):
-- what each parent on the way from the trust anchor grants.
use Rattle.std.specs.Prelude.{◌≡◌, ℕ, ◌<◌, zero, suc, Bool, false, ◌&&◌, nat_lt, List, [], ◌∷◌, length, get_or, slice_get, Option, None, Some, codes, map, if◌then◌else◌}
use Rattle.std.specs.Str.{bytes_eq}
use Rattle.res_sets.specs.declared.numbers.Family.{Family}
use Rattle.res_sets.specs.declared.holdings.Resources.{Resources}
use Rattle.res_sets.specs.Numbers.{family_end}
use Rattle.res_sets.specs.Triples.{has}
use Rattle.authority_book.specs.declared.rows.NameRow.{NameRow}
use Rattle.authority_book.specs.declared.rows.Child.{Child}
use Rattle.authority_book.specs.Settings.{Settings, ConfigValue}
use Rattle.authority_book.specs.Listed.{place_of, child_of}

-- What each configuration comes to.
abbrev pub settings_of : List ConfigValue → List Settings
settings_of configs = map (λ config. config.settings) configs

-- The names of the tree: those of the first configuration, the anchor's.
abbrev pub names_of : List Settings → List NameRow
names_of [] = []
names_of (anchor ∷ rest) = anchor.names

-- The configuration of a name: the one at its place in the list of names.
abbrev pub at_place : List Settings → Option ℕ → Option Settings
at_place configs None = None
at_place configs (Some place) = slice_get configs place

abbrev pub config_of : List Settings → List ℕ → Option Settings
config_of configs name = at_place configs (place_of (names_of configs) name)

-- The trust anchor.
abbrev pub is_anchor : List ℕ → Bool
is_anchor name = bytes_eq name (codes "ta")

-- A parent, and what it grants.
pub record Grant : Type 0 where
  pub parent : List ℕ
  pub resources : Resources

-- What a parent grants a child that it lists and hasn't suspended.
abbrev pub granted : List ℕ → Option Child → Option Grant
granted parent None = None
granted parent (Some child) =
    if child.suspended then None else Some (record { parent = parent; resources = child.grant })

-- What the parent of the name grants the child. One that is deleted grants nothing.
abbrev pub granted_by : List ℕ → List ℕ → Option Settings → Option Grant
granted_by child parent None = None
granted_by child parent (Some config) =
    if config.deleted then None else granted parent (child_of config.children child)

-- What the parent that the child's configuration names grants the child. One that is deleted gets
-- nothing.
abbrev pub granted_to_parent_of : List Settings → List ℕ → Option (List ℕ) → Option Grant
granted_to_parent_of configs child None = None
granted_to_parent_of configs child (Some parent) = granted_by child parent (config_of configs parent)

abbrev pub granted_to : List Settings → List ℕ → Option Settings → Option Grant
granted_to configs child None = None
granted_to configs child (Some config) =
    if config.deleted then None else granted_to_parent_of configs child config.parent

-- What the name gets from the parent that it names, if the one names the other and neither is
-- deleted, suspended or missing from the list of names.
abbrev pub grant_of : List Settings → List ℕ → Option Grant
grant_of configs name = granted_to configs name (config_of configs name)

-- The numbers that come down with a grant: those that its parent has and that it grants.
abbrev pub passed_on : (List ℕ → Family → ℕ → Bool) → Option Grant → Family → ℕ → Bool
passed_on has_above None family number = false
passed_on has_above (Some grant) family number =
    has_above grant.parent family number && has grant.resources family number

-- Whether the number of the family is certified to the name along at most so many parents. The
-- anchor has every number. Others have nothing but what comes down to them.
abbrev pub certified : List Settings → ℕ → List ℕ → Family → ℕ → Bool
certified configs zero name family number = is_anchor name && nat_lt number (family_end family)
certified configs (suc parents) name family number =
    if is_anchor name then nat_lt number (family_end family)
    else passed_on (certified configs parents) (grant_of configs name) family number

-- How many parents are followed.
abbrev pub most_parents : ℕ
most_parents = 64

-- One set of each family for each name, at its place: just the numbers that are certified to it.
pub record AreCertified (configs : List Settings) (sets : List Resources) : Type 0 where
  pub one_each : length sets ≡ length (names_of configs)
  pub members : (place : ℕ) (row : NameRow) (set : Resources) → place < length sets →
      (family : Family) (number : ℕ) → has (get_or sets place set) family number
      ≡ certified configs most_parents (get_or (names_of configs) place row).name family number
