-- Words at the places of the desks.
use Rattle.std.proofs.Common.{◌≡◌, ℕ, zero, suc, ◌++◌, List, [], ◌∷◌, length, refl, sym, ap, ◌∙◌, subst, inl, inr, ⊎_elim, ◌⊎◌, Some}
use Rattle.std.specs.Prelude.{slice_get}
use Rattle.std.proofs.lemmas.Option.{none-some, same_Some}
use Rattle.atomic_table.specs.Seated.{TableId}
use Rattle.manager.specs.inner.AtPlaces.{AreWords}

-- what stands in a list with one more at its end
placed : {X : Type 0} (xs : List X) (x : X) (place : ℕ) (y : X) → slice_get (xs ++ x ∷ []) place ≡ Some y
    → (slice_get xs place ≡ Some y) ⊎ ((place ≡ length xs) × (x ≡ y))
placed [] x zero y there = inr (refl, same_Some x y there)
placed [] x (suc place) y there = absurd (none-some y there)
placed (first ∷ xs) x zero y there = inl there
placed (first ∷ xs) x (suc place) y there =
    ⊎_elim (λ t. inl t) (λ t. inr (ap suc t.0, t.1)) (placed xs x place y there)

pub words_push : (words : ℕ → TableId) (all : List TableId) (word : TableId) → AreWords words all → word ≡ words (length all) → AreWords words (all ++ word ∷ [])
words_push words all word are is = λ place y there. ⊎_elim
    (λ old. are place y old)
    (λ (new : (place ≡ length all) × (word ≡ y)). subst (λ (s : TableId). s ≡ words place) new.1 (is ∙ ap words (sym new.0)))
    (placed all word place y there)
