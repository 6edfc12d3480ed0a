-- Views in their rows, after one was changed or came in at the end.
use Rattle.std.proofs.Common.{◌≡◌, ◌≢◌, ◌⊎◌, ℕ, zero, suc, List, [], ◌∷◌, ◌++◌, length, set, inl, inr, ⊎_elim, refl, ap, sym, ◌∙◌, subst}
use mathlib.Core.Option.{some, some-injective, some-ne-none}
use mathlib.Core.Logic.{dite}
use native.Mathlib.Decide.{ℕ_discrete}
use lib.ListN.{get_elem?}
use Rattle.atomic_table.proofs.Lists.{at_set, set_else, at_longer}
use Rattle.commit_word.specs.declared.views.View.{View}
use Rattle.commit_word.specs.Entries.{Has}
use Rattle.commit_word.specs.Rule.{AreApart, IsMade}

pub set_at : {A : Type 0} (l : List A) (i : ℕ) (a b : A) → get_elem? l i ≡ some a → get_elem? (set l i b) i ≡ some b
set_at [] i a b e = absurd (some-ne-none a (sym e))
set_at (x ∷ xs) zero a b e = refl
set_at (x ∷ xs) (suc i) a b e = set_at xs i a b e

-- what stands in a row with one more at its end stood there before, or is that one
pub at_end : {A : Type 0} (l : List A) (a b : A) (j : ℕ) → get_elem? (l ++ a ∷ []) j ≡ some b → (get_elem? l j ≡ some b) ⊎ ((j ≡ length l) × (a ≡ b))
at_end [] a b zero e = inr (refl, some-injective a b e)
at_end [] a b (suc j) e = absurd (some-ne-none b (sym e))
at_end (x ∷ xs) a b zero e = inl e
at_end (x ∷ xs) a b (suc j) e = ⊎_elim (λ t. inl t) (λ t. inr (ap suc t.0, t.1)) (at_end xs a b j e)

-- one value at one place
pub same_at : {A : Type 0} (l : List A) (i j : ℕ) (a b : A) → i ≡ j → get_elem? l i ≡ some a → get_elem? l j ≡ some b → a ≡ b
same_at l i j a b same one other = some-injective a b (sym one ∙ ap (get_elem? l) same ∙ other)

-- a seat's view changed, and what it made stays
module _ (views : List View) (by : ℕ) (v w : View) (at : get_elem? views by ≡ some v) where
  pub at_before : w.mine ≡ v.mine → (j : ℕ) (u : View) → get_elem? (set views by w) j ≡ some u → (x : View) × (get_elem? views j ≡ some x) × (x.mine ≡ u.mine)
  at_before same j u e =
      ⊎_elim
      (λ (t : (j ≡ by) × (w ≡ u)). (v, subst (λ (n : ℕ). get_elem? views n ≡ some v) (sym t.0) at, sym same ∙ ap (λ (x : View). x.mine) t.1))
      (λ (t : (j ≢ by) × (get_elem? views j ≡ some u)). (u, t.1, refl))
      (at_set views by j w u e)

  pub apart_set : w.mine ≡ v.mine → AreApart views → AreApart (set views by w)
  apart_set same apart i j x y p d e ai aj hx hy =
      let bi = at_before same i x ai in
      let bj = at_before same j y aj in
      apart i j bi.0 bj.0 p d e bi.1 bj.1 (subst (λ m. Has m p d) (sym bi.2) hx) (subst (λ m. Has m p e) (sym bj.2) hy)

  -- what was made still is, where the seat made no less
  pub made_set : ((p : ℕ) (e : List ℕ) → Has v.mine p e → Has w.mine p e) → (place : ℕ) → IsMade views place → IsMade (set views by w) place
  made_set grows place m =
      dite (ℕ_discrete m.0 by)
      (λ (same : m.0 ≡ by). (by, w, m.2, set_at views by v w at, grows place m.2 (subst (λ (x : View). Has x.mine place m.2) (same_at views m.0 by m.1 v same m.3 at) m.4)))
      (λ (apart : m.0 ≢ by). (m.0, m.1, m.2, set_else views by m.0 w apart ∙ m.3, m.4))

pub made_longer : (views more : List View) (place : ℕ) → IsMade views place → IsMade (views ++ more) place
made_longer views more place m = (m.0, m.1, m.2, at_longer views more m.0 m.1 m.3, m.4)
