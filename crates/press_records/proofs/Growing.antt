-- Lists that grow by one.
use Rattle.std.proofs.Common.{◌≡◌, List, [], ◌∷◌, ◌++◌, append_assoc}

pub pushed_on : {A : Type 0} (grown : List A) (x : A) (rest : List A) → (grown ++ x ∷ []) ++ rest ≡ grown ++ x ∷ rest
pushed_on grown x rest = append_assoc grown (x ∷ []) rest
