-- The first element of a list, and the others.
use Rattle.std.proofs.Common.{◌≡◌, ◌<◌, List, [], ◌∷◌, length, sym, ◌∙◌, ap, arith}
use Rattle.std.specs.Prelude.{slice_index_or}
use Rattle.std.specs.List.{remove}

pub first_removed : {A : Type 0} (old new : List A) (x : A) → x ≡ slice_index_or old 0 x → new ≡ remove old 0 → 0 < length old → old ≡ x ∷ new
first_removed [] new x first rest some = absurd (omega (arith, some))
first_removed (y ∷ ys) new x first rest some = sym (ap (λ z. z ∷ new) first ∙ ap (λ (l : List _). y ∷ l) rest)
