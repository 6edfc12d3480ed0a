-- A text of a set as a list of blocks: what stands between commas.
use Rattle.std.specs.Prelude.{ℕ, Bool, ◌||◌, ◌==◌, if◌then◌else◌, List, [], ◌∷◌, reverse}
use Rattle.std.specs.List.{list_all, slice_split}

-- a space or a tab
abbrev pub is_blank : ℕ → Bool
is_blank b = (b == 32) || (b == 9)

abbrev pub is_comma : ℕ → Bool
is_comma b = b == 44

abbrev pub is_hyphen : ℕ → Bool
is_hyphen b = b == 45

abbrev pub is_slash : ℕ → Bool
is_slash b = b == 47

-- without the blanks at the front
abbrev pub without_leading : List ℕ → List ℕ
without_leading [] = []
without_leading (b ∷ bytes) = if is_blank b then without_leading bytes else b ∷ bytes

-- without the blanks at the end
abbrev pub without_trailing : List ℕ → List ℕ
without_trailing bytes = reverse (without_leading (reverse bytes))

-- parts that stand behind commas, without the blanks round the commas
abbrev pub behind_commas : List (List ℕ) → List (List ℕ)
behind_commas [] = []
behind_commas (part ∷ []) = without_leading part ∷ []
behind_commas (part ∷ next ∷ parts) = without_trailing (without_leading part) ∷ behind_commas (next ∷ parts)

-- the parts of a text, without the blanks round the commas
abbrev pub round_commas : List (List ℕ) → List (List ℕ)
round_commas [] = []
round_commas (part ∷ []) = part ∷ []
round_commas (part ∷ next ∷ parts) = without_trailing part ∷ behind_commas (next ∷ parts)

-- The blocks of a text: none if it has but blanks, else what stands between its commas.
abbrev pub blocks : List ℕ → List (List ℕ)
blocks text = if list_all is_blank text then [] else round_commas (slice_split is_comma text)
