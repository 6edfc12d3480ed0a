-- What one change more does to a disk in memory.
use Rattle.std.proofs.Common.{◌≡◌, inl, inr, ℕ, ◌+◌, ◌≤◌, Bool, true, cond, List, [], ◌∷◌, ◌++◌, length, take, refl, sym, ◌∙◌, ap, subst, arith, length-append}
use Rattle.std.proofs.lemmas.Bool.{and_parts, and_from, le-leb, cases_lt, cond-true}
use Rattle.std.proofs.lemmas.List.{take-append-le, take_all}
use Rattle.std.specs.Prelude.{nat_le}
use Rattle.disk_api.specs.Content.{overwritten, cut_to, Torn, IsCut}
use Rattle.disk_api.specs.Images.{Elapses}
use Rattle.disk_api.specs.Steps.{content_after, after_step, IsImageAfter, images_after_step, steps_fit, FitsAt}
use Rattle.disk_api.specs.declared.step.Step.{Step}
use Rattle.disk_api.specs.declared.step.Step.TheVariants.{Write, Cut, Sync}

pub content_after-push : (bytes : List ℕ) (steps : List Step) (step : Step) → content_after bytes (steps ++ step ∷ []) ≡ after_step (content_after bytes steps) step
content_after-push bytes [] (Write at new) = refl
content_after-push bytes [] (Cut len) = refl
content_after-push bytes [] Sync = refl
content_after-push bytes (Write at new ∷ steps) step = content_after-push (overwritten at new.items bytes) steps step
content_after-push bytes (Cut len ∷ steps) step = content_after-push (cut_to len bytes) steps step
content_after-push bytes (Sync ∷ steps) step = content_after-push bytes steps step

pub IsImageAfter-push : (bytes : List ℕ) (images : List ℕ → Type 0) (steps : List Step) (step : Step) (c : List ℕ)
    → IsImageAfter bytes images (steps ++ step ∷ []) c ≡ images_after_step (content_after bytes steps) (IsImageAfter bytes images steps) step c
IsImageAfter-push bytes images [] (Write at new) c = refl
IsImageAfter-push bytes images [] (Cut len) c = refl
IsImageAfter-push bytes images [] Sync c = refl
IsImageAfter-push bytes images (Write at new ∷ steps) step c = IsImageAfter-push (overwritten at new.items bytes) (λ e. (d : List ℕ) × images d × Torn at (length new.items) d e) steps step c
IsImageAfter-push bytes images (Cut len ∷ steps) step c = IsImageAfter-push (cut_to len bytes) (λ e. (d : List ℕ) × images d × IsCut len d e) steps step c
IsImageAfter-push bytes images (Sync ∷ steps) step c = IsImageAfter-push bytes (λ e. e ≡ bytes) steps step c

pub steps_fit-push : (bytes : List ℕ) (steps : List Step) (step : Step) → steps_fit bytes steps ≡ true → FitsAt (content_after bytes steps) step → steps_fit bytes (steps ++ step ∷ []) ≡ true
steps_fit-push bytes [] (Write at new) fit fits = and_from (nat_le at (length bytes)) true (le-leb at (length bytes) fits) refl
steps_fit-push bytes [] (Cut len) fit fits = refl
steps_fit-push bytes [] Sync fit fits = refl
steps_fit-push bytes (Write at new ∷ steps) step fit fits =
    let parts = and_parts (nat_le at (length bytes)) (steps_fit (overwritten at new.items bytes) steps) fit in
    and_from (nat_le at (length bytes)) (steps_fit (overwritten at new.items bytes) (steps ++ step ∷ [])) parts.0 (steps_fit-push (overwritten at new.items bytes) steps step parts.1 fits)
steps_fit-push bytes (Cut len ∷ steps) step fit fits = steps_fit-push (cut_to len bytes) steps step fit fits
steps_fit-push bytes (Sync ∷ steps) step fit fits = steps_fit-push bytes steps step fit fits

-- the images at a moment, and at some moment from one on
abbrev pub At : List ℕ → List Step → ℕ → List ℕ → Type 0
At first steps k c = IsImageAfter first (λ e. e ≡ first) (take k steps) c

abbrev pub Since : List ℕ → List Step → ℕ → List ℕ → Type 0
Since first steps t c = (k : ℕ) × (t ≤ k) × (k ≤ length steps) × At first steps k c

pub elapses_none : (first : List ℕ) (steps : List Step) → Elapses (length steps) (length steps) (Since first steps) (Since first steps) (IsImageAfter first (λ e. e ≡ first) steps)
elapses_none first steps = record {
  later = omega arith;
  nothing_else = λ t c le since. inl since;
  keeps = λ t c le past. past;
}

pub elapses_one : (first : List ℕ) (steps : List Step) (step : Step) → Elapses (length steps) (length (steps ++ step ∷ [])) (Since first steps) (Since first (steps ++ step ∷ [])) (IsImageAfter first (λ e. e ≡ first) (steps ++ step ∷ []))
elapses_one first steps step =
    let more : length (steps ++ step ∷ []) ≡ length steps + 1 = omega (arith, length-append steps (step ∷ [])) in
    record {
      later = omega (arith, more);
      nothing_else = λ t c le since. elim (cases_lt since.0 (length (steps ++ step ∷ []))) [
        | inl lt ↦
            let early : since.0 ≤ length steps = omega (arith, more, lt) in
            inl (since.0, since.1, early, subst (λ (s : List Step). IsImageAfter first (λ e. e ≡ first) s c) (take-append-le since.0 steps (step ∷ []) early) since.3)
        | inr ge ↦ inr (subst (λ (s : List Step). IsImageAfter first (λ e. e ≡ first) s c) (take_all since.0 (steps ++ step ∷ []) ge) since.3)
      ];
      keeps = λ t c le past.
          (past.0, past.1, omega (arith, more, past.2), subst (λ (s : List Step). IsImageAfter first (λ e. e ≡ first) s c) (sym (take-append-le past.0 steps (step ∷ []) past.2)) past.3);
    }

-- the bytes that are kept stay those of the steps
pub held_after : (is_copied : Bool) (bytes new first : List ℕ) (steps more : List Step) (step : Step) → is_copied ≡ true → cond is_copied bytes first ≡ content_after first steps
    → more ≡ steps ++ step ∷ [] → new ≡ after_step bytes step → cond is_copied new first ≡ content_after first more
held_after is_copied bytes new first steps more step copied held one is =
    cond-true is_copied new first copied
    ∙ is
    ∙ ap (λ (l : List ℕ). after_step l step) (sym (cond-true is_copied bytes first copied) ∙ held)
    ∙ sym (content_after-push first steps step)
    ∙ ap (λ (l : List Step). content_after first l) (sym one)

pub fit_after : (first : List ℕ) (steps more : List Step) (step : Step) → steps_fit first steps ≡ true → more ≡ steps ++ step ∷ [] → FitsAt (content_after first steps) step → steps_fit first more ≡ true
fit_after first steps more step fit one fits = ap (λ (l : List Step). steps_fit first l) one ∙ steps_fit-push first steps step fit fits
