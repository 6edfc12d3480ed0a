-- A disk in memory, as its bytes at first and the changes since.
use Rattle.std.specs.Prelude.{◌≡◌, ◌≢◌, ◌≤◌, ℕ, Bool, true, ◌&&◌, nat_le, List, [], ◌∷◌, length}
use Rattle.disk_api.specs.Content.{overwritten, cut_to, Torn, IsCut}
use Rattle.disk_api.specs.declared.step.Step.{Step}
use Rattle.disk_api.specs.declared.step.Step.TheVariants.{Write, Cut, Sync}

-- what a read gives after the changes
abbrev pub content_after : List ℕ → List Step → List ℕ
content_after bytes [] = bytes
content_after bytes (Write at new ∷ steps) = content_after (overwritten at new.items bytes) steps
content_after bytes (Cut len ∷ steps) = content_after (cut_to len bytes) steps
content_after bytes (Sync ∷ steps) = content_after bytes steps

-- what a crash after the changes may leave, where a read gave bytes at first and a crash might leave these images
abbrev pub IsImageAfter : List ℕ → (List ℕ → Type 0) → List Step → List ℕ → Type 0
IsImageAfter bytes images [] c = images c
IsImageAfter bytes images (Write at new ∷ steps) c = IsImageAfter (overwritten at new.items bytes) (λ e. (d : List ℕ) × images d × Torn at (length new.items) d e) steps c
IsImageAfter bytes images (Cut len ∷ steps) c = IsImageAfter (cut_to len bytes) (λ e. (d : List ℕ) × images d × IsCut len d e) steps c
IsImageAfter bytes images (Sync ∷ steps) c = IsImageAfter bytes (λ e. e ≡ bytes) steps c

-- each write begins within the bytes or at their end
abbrev pub steps_fit : List ℕ → List Step → Bool
steps_fit bytes [] = true
steps_fit bytes (Write at new ∷ steps) = nat_le at (length bytes) && steps_fit (overwritten at new.items bytes) steps
steps_fit bytes (Cut len ∷ steps) = steps_fit (cut_to len bytes) steps
steps_fit bytes (Sync ∷ steps) = steps_fit bytes steps

-- a step that is no sync
abbrev pub IsUnsynced : Step → Type 0
IsUnsynced step = step ≢ Sync

-- what one step does to what a read gives, and to the images
abbrev pub after_step : List ℕ → Step → List ℕ
after_step bytes (Write at new) = overwritten at new.items bytes
after_step bytes (Cut len) = cut_to len bytes
after_step bytes Sync = bytes

abbrev pub images_after_step : List ℕ → (List ℕ → Type 0) → Step → List ℕ → Type 0
images_after_step bytes images (Write at new) c = (d : List ℕ) × images d × Torn at (length new.items) d c
images_after_step bytes images (Cut len) c = (d : List ℕ) × images d × IsCut len d c
images_after_step bytes images Sync c = c ≡ bytes

-- a step fits where what is there is long enough
abbrev pub FitsAt : List ℕ → Step → Type 0
FitsAt bytes (Write at new) = at ≤ length bytes
FitsAt bytes (Cut len) = Unit {0}
FitsAt bytes Sync = Unit {0}

-- an image after a step that is no sync, by one from before it
abbrev pub IsTornBy : Step → List ℕ → List ℕ → Type 0
IsTornBy (Write at new) old image = Torn at (length new.items) old image
IsTornBy (Cut len) old image = IsCut len old image
IsTornBy Sync old image = ⊥
