-- What a list is after one append and then another.
use Rattle.std.proofs.Common.{◌≡◌, ℕ, cond, List, ◌++◌, Result, Ok, Err, ◌∙◌}
use Rattle.std.specs.Prelude.{OnOk, is_ok}

pub appended : {T E : Type 0} (r : Result T E) (new old more target : List ℕ) → new ≡ cond (is_ok r) (old ++ more) old → old ++ more ≡ target → OnOk r (new ≡ target)
appended (Ok x) new old more target e h = e ∙ h
appended (Err x) new old more target e h = tt
