-- Which route origins are owed: those whose whole prefix is certified (RFC 9582 section 5).
use Rattle.std.specs.Prelude.{◌≡◌, ℕ, ◌⊎◌, Bool, zero, suc, IsTrue, List, [], ◌∷◌, ◌++◌, length, slice_get, Option, None, Some, map, if◌then◌else◌}
use Rattle.origins.specs.declared.Prefix.{Prefix}
use Rattle.origins.specs.declared.Origin.{Origin}
use Rattle.origins.specs.Prefix.{IsAddressOf}
use Rattle.res_sets.specs.declared.numbers.Family.{Family}
use Rattle.res_sets.specs.declared.numbers.Family.TheVariants.{V4, V6}
use Rattle.authority_book.specs.declared.rows.NameRow.{NameRow}
use Rattle.authority_book.specs.Settings.{Settings}
use Rattle.entitle.specs.declared.trees.Owed.{Owed}
use Rattle.entitle.specs.Certified.{names_of, certified, most_parents}

abbrev pub family_of : Prefix → Family
family_of prefix = if prefix.v6 then V6 else V4

-- Of each address of the prefix it is true that the holder has it.
abbrev pub HasEach : (Family → ℕ → Bool) → Prefix → Type 0
HasEach has prefix = (a : ℕ) → IsAddressOf prefix.v6 prefix.address prefix.length a →
    IsTrue (has (family_of prefix) a)

-- Each address of the prefix is certified to the name.
abbrev pub IsHeldBy : List Settings → Option NameRow → Prefix → Type 0
IsHeldBy configs None prefix = ⊥
IsHeldBy configs (Some row) prefix = HasEach (certified configs most_parents row.name) prefix

-- Each address of the origin's prefix is certified to the authority of the desk.
abbrev pub IsHeldAt : List Settings → ℕ → Origin → Type 0
IsHeldAt configs desk origin = IsHeldBy configs (slice_get (names_of configs) desk) origin.prefix

-- The list has, in their order, those of the origins that are held.
abbrev pub AreThose : (Origin → Type 0) → List Origin → List Origin → Type 0
AreThose IsHeld [] those = those ≡ []
AreThose IsHeld (origin ∷ rest) those = ((¬ IsHeld origin) × AreThose IsHeld rest those)
    ⊎ ((more : List Origin) × IsHeld origin × AreThose IsHeld rest more × (those ≡ origin ∷ more))

-- The configured origins of a desk, in ascending order.
abbrev pub origins_of : Option Settings → List Origin
origins_of None = []
origins_of (Some config) = config.origins

-- Origins with their desk.
abbrev pub at_desk : ℕ → List Origin → List Owed
at_desk desk origins = map (λ origin. record { desk = desk; origin = origin }) origins

-- For so many desks, from the first on, the configured origins that are held, in their order.
abbrev pub AreOwedByFirst : List Settings → ℕ → List Owed → Type 0
AreOwedByFirst configs zero owed = owed ≡ []
AreOwedByFirst configs (suc desk) owed = (before : List Owed) × (own : List Origin)
    × AreOwedByFirst configs desk before
    × AreThose (IsHeldAt configs desk) (origins_of (slice_get configs desk)) own
    × (owed ≡ before ++ at_desk desk own)

-- For each name, in the order of the names, the configured origins that are held, in their order.
abbrev pub AreOwed : List Settings → List Owed → Type 0
AreOwed configs owed = AreOwedByFirst configs (length (names_of configs)) owed
