-- Editions one after another.
use Rattle.std.proofs.Common.{◌≡◌, ◌⊎◌, ℕ, ◌+◌, ◌<◌, zero, suc, refl, sym, subst, ◌∙◌, ap, arith, inl, inr, ⊎_elim, List, [], ◌∷◌, ◌++◌, length, take, Some, append_assoc, length-append}
use Rattle.std.specs.List.{slice_get}
use Rattle.std.proofs.lemmas.List.{append-nil, take-append-le}
use Rattle.std.proofs.lemmas.Option.{none-some, slice_get_within}
use Rattle.std.proofs.Math.Seq.{take-append_seam}
use Rattle.editions.specs.Edition.{Edition, State, after_edition, first_state, state_from, state_after}
use Rattle.editions.specs.Step.{Premises, IsStep, AreSteps, next_moment}

pub state_on : (state : State) (before later : List Edition) →
    state_from state (before ++ later) ≡ state_from (state_from state before) later
state_on state [] later = refl
state_on state (edition ∷ before) later = state_on (after_edition state edition) before later

-- The edition behind others stands at the position that they count to.
seam : (before : List Edition) (edition : Edition) (later : List Edition) →
    slice_get (before ++ edition ∷ later) (length before) ≡ Some edition
seam [] edition later = refl
seam (first ∷ before) edition later = seam before edition later

module _ (premises : Premises) where
  serials_on : (before later : List Edition) → AreSteps premises (before ++ later) →
      (state_after before).serial ≡ length before →
      (state_after (before ++ later)).serial ≡ length (before ++ later)
  serials_on before [] steps so_far = rw append-nil so_far
  serials_on before (edition ∷ later) steps so_far =
      let step = steps (length before) edition (seam before edition later) in
      let here : IsStep premises step.0 before edition =
      subst (λ taken. IsStep premises step.0 taken edition)
      (take-append_seam before (edition ∷ later)) step.1 in
      let next : (state_after (before ++ edition ∷ [])).serial ≡ length (before ++ edition ∷ []) =
      ap (λ (state : State). state.serial) (state_on first_state before (edition ∷ []))
      ∙ (here.serial ∙ (ap (λ n. n + 1) so_far ∙ sym (length-append before (edition ∷ [])))) in
      subst (λ all. (state_after all).serial ≡ length all)
      (append_assoc before (edition ∷ []) later)
      (serials_on (before ++ edition ∷ []) later
      (subst (AreSteps premises) (sym (append_assoc before (edition ∷ []) later)) steps) next)

  pub serials_count : (editions : List Edition) → AreSteps premises editions →
      (state_after editions).serial ≡ length editions
  serials_count editions steps = serials_on [] editions steps refl

pub later_than : (clock : ℕ) (state : State) → state.moment < next_moment clock state
later_than clock state = omega arith

same_one : (one other : Edition) → Some one ≡ Some other → one ≡ other
same_one one other same = cc

-- What stands at a position of editions with one more behind them: one of them, or that one.
placed : (before : List Edition) (edition : Edition) (position : ℕ) (x : Edition) →
    slice_get (before ++ edition ∷ []) position ≡ Some x →
    (slice_get before position ≡ Some x) ⊎ ((position ≡ length before) × (edition ≡ x))
placed [] edition zero x there = inr (refl, same_one edition x there)
placed [] edition (suc position) x there = absurd (none-some x there)
placed (first ∷ before) edition zero x there = inl there
placed (first ∷ before) edition (suc position) x there =
    ⊎_elim (λ t. inl t) (λ t. inr (ap suc t.0, t.1)) (placed before edition position x there)

still : (before : List Edition) (edition : Edition) (position : ℕ) (x : Edition) →
    slice_get before position ≡ Some x → slice_get (before ++ edition ∷ []) position ≡ Some x
still [] edition position x there = absurd (none-some x there)
still (first ∷ before) edition zero x there = there
still (first ∷ before) edition (suc position) x there = still before edition position x there

module _ (premises : Premises) (before : List Edition) (edition : Edition) where
  same_before : (position : ℕ) (x : Edition) → slice_get before position ≡ Some x →
      take position (before ++ edition ∷ []) ≡ take position before
  same_before position x there =
      let within = slice_get_within before position x there in
      take-append-le position before (edition ∷ []) (omega (arith, within))

  same_last : take (length before) (before ++ edition ∷ []) ≡ before
  same_last = take-append_seam before (edition ∷ [])

  pub one_more : (clock : ℕ) → AreSteps premises before → IsStep premises clock before edition →
      AreSteps premises (before ++ edition ∷ [])
  one_more clock steps step = λ position x there. ⊎_elim
      (λ (old : slice_get before position ≡ Some x).
      let then = steps position x old in (
        then.0,
        subst (λ (taken : List Edition). IsStep premises then.0 taken x)
            (sym (same_before position x old)) then.1,
      ))
      (λ (new : (position ≡ length before) × (edition ≡ x)).
      let taken = ap (λ (n : ℕ). take n (before ++ edition ∷ [])) new.0 ∙ same_last in (
        clock,
        subst (λ (all : List Edition). IsStep premises clock all x) (sym taken)
            (subst (λ (one : Edition). IsStep premises clock before one) new.1 step),
      ))
      (placed before edition position x there)

  pub one_less : AreSteps premises (before ++ edition ∷ []) → AreSteps premises before
  one_less steps = λ position x there.
      let now = steps position x (still before edition position x there) in (
        now.0,
        subst (λ (taken : List Edition). IsStep premises now.0 taken x)
            (same_before position x there) now.1,
      )

  pub last_one : AreSteps premises (before ++ edition ∷ []) →
      (clock : ℕ) × IsStep premises clock before edition
  last_one steps =
      let now = steps (length before) edition (seam before edition []) in
      (now.0, subst (λ (taken : List Edition). IsStep premises now.0 taken edition) same_last now.1)
