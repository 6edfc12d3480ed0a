-- The cases of what a reader, or a call of std, answered.
use Rattle.std.proofs.Common.{◌≡◌, ℕ, Option, Some, None, Result, Ok, Err, MatchResult, sym, subst}
use Rattle.std.proofs.lemmas.Option.{none-some}
use Rattle.std.specs.Result.{result_ok}
use Rattle.ip_text.specs.Reader.{Reads}

-- a reader's answer where there is none
pub reads_none : (r : Option ℕ) (Spells : ℕ → Type 0) → r ≡ None → ((n : ℕ) → ¬ (Spells n)) → Reads Spells r
reads_none None Spells is h = h
reads_none (Some n) Spells is h = absurd (none-some n (sym is))

-- where `ok()` gave nothing, and where it gave a value
pub err_side : {A E : Type 0} (r : Result A E) (P : A → Type 0) (Q : E → Type 0) → MatchResult r P Q → result_ok r ≡ None → (e : E) × Q e
err_side (Ok x) P Q h is = absurd (none-some x (sym is))
err_side (Err e) P Q h is = (e, h)

pub ok_side : {A E : Type 0} (r : Result A E) (x : A) (P : A → Type 0) (Q : E → Type 0) → MatchResult r P Q → result_ok r ≡ Some x → P x
ok_side (Ok y) x P Q h is = let same : y ≡ x = cc in subst P same h
ok_side (Err e) x P Q h is = absurd (none-some x is)
