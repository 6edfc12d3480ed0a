-- The paths of published files.
use Rattle.std.specs.Prelude.{ℕ, ◌==◌, Bool, true, false, ◌&&◌, ◌||◌, not, nat_le, List, [], ◌∷◌}

-- a letter, a digit, or one of `-`, `_` and `.`
abbrev pub is_name_byte : ℕ → Bool
is_name_byte b = (nat_le 97 b && nat_le b 122) || (nat_le 65 b && nat_le b 90) || (nat_le 48 b && nat_le b 57)
    || b == 45 || b == 95 || b == 46

-- a byte that may stand at the start of a part, and one that may stand behind it: the last also ends the part, as a slash
abbrev pub may_stand : Bool → ℕ → Bool
may_stand true b = is_name_byte b && not (b == 46)
may_stand false b = is_name_byte b || b == 47

-- the rest of a path, at the start of a part or within one
abbrev pub is_path_rest : Bool → List ℕ → Bool
is_path_rest at_start [] = not at_start
is_path_rest at_start (b ∷ rest) = may_stand at_start b && is_path_rest (b == 47) rest

-- a path: parts with slashes between them, none of which is empty or begins with a dot
abbrev pub is_file_path : List ℕ → Bool
is_file_path path = is_path_rest true path
