-- Steps that are made again, whole or in part.
use Rattle.std.proofs.Common.{◌≡◌, ℕ, ◌+◌, ◌-◌, ◌≤◌, ◌<◌, true, List, [], ◌∷◌, ◌++◌, length, get_or, take, drop, refl, sym, ◌∙◌, ap, subst, arith, take-append-drop}
use Rattle.std.proofs.lemmas.Bool.{and_parts, and_from, leb-true}
use Rattle.std.proofs.lemmas.Grind.{take_at_read}
use Rattle.std.proofs.lemmas.List.{drop_more, drop-drop}
use Rattle.std.specs.Prelude.{nat_le}
use Rattle.disk_api.specs.Content.{overwritten, cut_to, Torn, IsCut}
use Rattle.disk_api.specs.Steps.{content_after, after_step, IsImageAfter, images_after_step, steps_fit, FitsAt, IsTornBy}
use Rattle.disk_api.specs.laws.MemoryLaws.{content_is_image, torn_whole}
use Rattle.disk_api.specs.declared.step.Step.{Step}
use Rattle.disk_api.specs.declared.step.Step.TheVariants.{Write, Cut, Sync}
use Rattle.disk_api.proofs.Taken.{content_after-push, IsImageAfter-push}

pub steps_fit-parts : (bytes : List ℕ) (front back : List Step) → steps_fit bytes (front ++ back) ≡ true → (steps_fit bytes front ≡ true) × (steps_fit (content_after bytes front) back ≡ true)
steps_fit-parts bytes [] back fit = (refl, fit)
steps_fit-parts bytes (Write at new ∷ front) back fit =
    let parts = and_parts (nat_le at (length bytes)) (steps_fit (overwritten at new.items bytes) (front ++ back)) fit in
    let more = steps_fit-parts (overwritten at new.items bytes) front back parts.1 in
    (and_from (nat_le at (length bytes)) (steps_fit (overwritten at new.items bytes) front) parts.0 more.0, more.1)
steps_fit-parts bytes (Cut len ∷ front) back fit = steps_fit-parts (cut_to len bytes) front back fit
steps_fit-parts bytes (Sync ∷ front) back fit = steps_fit-parts bytes front back fit

pub fits_first : (bytes : List ℕ) (step : Step) (steps : List Step) → steps_fit bytes (step ∷ steps) ≡ true → FitsAt bytes step
fits_first bytes (Write at new) steps fit = leb-true at (length bytes) (and_parts (nat_le at (length bytes)) (steps_fit (overwritten at new.items bytes) steps) fit).0
fits_first bytes (Cut len) steps fit = tt
fits_first bytes Sync steps fit = tt

pub steps_fit-take : (bytes : List ℕ) (steps : List Step) (n : ℕ) → steps_fit bytes steps ≡ true → steps_fit bytes (take n steps) ≡ true
steps_fit-take bytes steps n fit = (steps_fit-parts bytes (take n steps) (drop n steps) (ap (λ (l : List Step). steps_fit bytes l) (take-append-drop n steps) ∙ fit)).0

torn_step : (bytes : List ℕ) (images : List ℕ → Type 0) (step : Step) (old new : List ℕ) → images old → IsTornBy step old new → images_after_step bytes images step new
torn_step bytes images (Write at w) old new left by = (old, left, by)
torn_step bytes images (Cut len) old new left by = (old, left, by)
torn_step bytes images Sync old new left by = absurd by

module _ (bytes : List ℕ) (steps : List Step) (i : ℕ) (step : Step) (is : step ≡ get_or steps i step) (lt : i < length steps) where
  pub fits_there : steps_fit bytes steps ≡ true → FitsAt (content_after bytes (take i steps)) step
  fits_there fit =
      let split : take i steps ++ step ∷ drop (i + 1) steps ≡ steps =
      ap (λ (s : Step). take i steps ++ s ∷ drop (i + 1) steps) is ∙ ap (λ (l : List Step). take i steps ++ l) (sym (drop_more steps i step lt)) ∙ take-append-drop i steps in
      fits_first (content_after bytes (take i steps)) step (drop (i + 1) steps) (steps_fit-parts bytes (take i steps) (step ∷ drop (i + 1) steps) (ap (λ (l : List Step). steps_fit bytes l) split ∙ fit)).1

  one_more : take (i + 1) steps ≡ take i steps ++ step ∷ []
  one_more = (take_at_read steps i step lt).1 ∙ ap (λ (s : Step). take i steps ++ s ∷ []) (sym is)

  pub content_after-there : content_after bytes (take (i + 1) steps) ≡ after_step (content_after bytes (take i steps)) step
  content_after-there = ap (λ (l : List Step). content_after bytes l) one_more ∙ content_after-push bytes (take i steps) step

  pub torn_there : (images : List ℕ → Type 0) (old new : List ℕ) → IsImageAfter bytes images (take i steps) old → IsTornBy step old new → IsImageAfter bytes images (take (i + 1) steps) new
  torn_there images old new left by =
      subst (λ (X : Type 0). X) (sym (ap (λ (l : List Step). IsImageAfter bytes images l new) one_more ∙ IsImageAfter-push bytes images (take i steps) step new))
      (torn_step (content_after bytes (take i steps)) (IsImageAfter bytes images (take i steps)) step old new left by)

-- the images after steps of two parts, and of more images at first
pub IsImageAfter-append : (bytes : List ℕ) (images : List ℕ → Type 0) (front back : List Step) (c : List ℕ) → IsImageAfter (content_after bytes front) (IsImageAfter bytes images front) back c ≡ IsImageAfter bytes images (front ++ back) c
IsImageAfter-append bytes images [] back c = refl
IsImageAfter-append bytes images (Write at new ∷ front) back c = IsImageAfter-append (overwritten at new.items bytes) (λ e. (d : List ℕ) × images d × Torn at (length new.items) d e) front back c
IsImageAfter-append bytes images (Cut len ∷ front) back c = IsImageAfter-append (cut_to len bytes) (λ e. (d : List ℕ) × images d × IsCut len d e) front back c
IsImageAfter-append bytes images (Sync ∷ front) back c = IsImageAfter-append bytes (λ e. e ≡ bytes) front back c

pub more_images : (bytes : List ℕ) (few many : List ℕ → Type 0) → ((c : List ℕ) → few c → many c) → (steps : List Step) (c : List ℕ) → IsImageAfter bytes few steps c → IsImageAfter bytes many steps c
more_images bytes few many f [] c left = f c left
more_images bytes few many f (Write at new ∷ steps) c left =
    more_images (overwritten at new.items bytes) (λ e. (d : List ℕ) × few d × Torn at (length new.items) d e) (λ e. (d : List ℕ) × many d × Torn at (length new.items) d e) (λ e h. (h.0, f h.0 h.1, h.2)) steps c left
more_images bytes few many f (Cut len ∷ steps) c left =
    more_images (cut_to len bytes) (λ e. (d : List ℕ) × few d × IsCut len d e) (λ e. (d : List ℕ) × many d × IsCut len d e) (λ e h. (h.0, f h.0 h.1, h.2)) steps c left
more_images bytes few many f (Sync ∷ steps) c left = left

-- the bytes after some steps, and then an image of those that are left
pub image_of_parts : (first : List ℕ) (steps : List Step) (n : ℕ) (bytes image : List ℕ) → steps_fit first steps ≡ true → bytes ≡ content_after first (take n steps) → IsImageAfter bytes (λ e. e ≡ bytes) (drop n steps) image
    → IsImageAfter first (λ e. e ≡ first) steps image
image_of_parts first steps n bytes image fit is left =
    let front = take n steps in
    let at : IsImageAfter (content_after first front) (λ e. e ≡ content_after first front) (drop n steps) image = subst (λ (b : List ℕ). IsImageAfter b (λ e. e ≡ b) (drop n steps) image) is left in
    let was : (c : List ℕ) → c ≡ content_after first front → IsImageAfter first (λ e. e ≡ first) front c =
    λ c same. subst (IsImageAfter first (λ e. e ≡ first) front) (sym same) (content_is_image first (λ e. e ≡ first) refl front (steps_fit-take first steps n fit)) in
    subst (λ (X : Type 0). X) (IsImageAfter-append first (λ e. e ≡ first) front (drop n steps) image ∙ ap (λ (l : List Step). IsImageAfter first (λ e. e ≡ first) l image) (take-append-drop n steps))
    (more_images (content_after first front) (λ e. e ≡ content_after first front) (IsImageAfter first (λ e. e ≡ first) front) was (drop n steps) image at)

-- a write that is done with fewer bytes is one of the outcomes of a write that is cut short
pub torn_piece : (at n : ℕ) (piece old : List ℕ) → at ≤ length old → length piece ≤ n → Torn at n old (overwritten at piece old)
torn_piece at n piece old le few =
    let torn = torn_whole at piece old le in
    record {
      before = torn.before;
      after = ap (λ (m : ℕ). drop m (overwritten at piece old)) more ∙ sym (drop-drop (n - length piece) (at + length piece) (overwritten at piece old)) ∙ ap (λ (l : List ℕ). drop (n - length piece) l) torn.after ∙ drop-drop (n - length piece) (at + length piece) old ∙ ap (λ (m : ℕ). drop m old) (sym more);
      no_shorter = torn.no_shorter;
      no_longer = omega (arith, torn.no_longer, few);
    }
  where
    more : at + n ≡ at + length piece + (n - length piece)
    more = omega (arith, few)
